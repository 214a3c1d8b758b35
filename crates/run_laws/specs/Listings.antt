-- What a line that lists a directory has heard, and what a job that lists has to do with its line.
use Rattle.std.specs.Prelude.{◌≡◌, ℕ, ◌<◌, List, length, Ok, Some}
use Rattle.std.specs.List.{AllByRecursion}
use Rattle.listing_rules.specs.Names.{prefix_of}
use Rattle.bucket_model.specs.declared.call.Call.{Call}
use Rattle.bucket_model.specs.declared.call.Call.TheVariants as call
use Rattle.bucket_model.specs.declared.answer.Brief.{Brief}
use Rattle.bucket_model.specs.declared.answer.Brief.TheVariants.{Page}
use Rattle.mount_model.specs.declared.request.Request.{Request}
use Rattle.mount_model.specs.declared.request.Request.TheVariants as request
use Rattle.mount_model.specs.declared.event.Owner.{Owner}
use Rattle.mount_model.specs.declared.event.Owner.TheVariants as owner
use Rattle.mount_model.specs.declared.standing.Heard.{Heard}
use Rattle.mount_model.specs.declared.standing.Phase.TheVariants.{Begun}
use Rattle.mount_model.specs.declared.standing.Standing.{Standing}
use Rattle.mount_model.specs.Conversation.{max_pages}
use Rattle.mount_model.specs.State.{ClientState, Job, line_at}
use Rattle.run_laws.specs.Served.{IsOfLine}

abbrev pub IsPage : Brief → Type 0
IsPage (Page page) = Unit {0}
IsPage other = ⊥

-- where it lists, it has heard nothing but pages
abbrev pub HeardPages : Request → List Brief → Type 0
HeardPages (request.List path) answers = AllByRecursion IsPage answers
HeardPages other answers = Unit {0}

-- and it asks for itself alone
abbrev pub AsksItself : Request → Owner → ℕ → Type 0
AsksItself (request.List path) who line = who ≡ owner.Line line
AsksItself other who line = Unit {0}

-- it lists the directory with this prefix
pub record ListsUnder (prefix : List ℕ) (asked : Request) : Type 0 where
  pub names : List (List ℕ)
  pub lists : asked ≡ request.List (Ok names)
  pub prefix_is : prefix ≡ prefix_of names

-- only such a request makes a call that lists
abbrev pub MayList : Call → Request → Type 0
MayList (call.List prefix after max) request = ListsUnder prefix request
MayList other request = Unit {0}

-- and no writer does
abbrev pub ListsNothing : Call → Type 0
ListsNothing (call.List prefix after max) = ⊥
ListsNothing other = Unit {0}

-- The job lists, and is no writer's: its line has begun to list the directory with its prefix, and has heard pages alone,
-- fewer than the most.
pub record HasListing (state : ClientState) (job : Job) : Type 0 where
  pub prefix : List ℕ
  pub after : List ℕ
  pub max : ℕ
  pub asks : job.call ≡ call.List prefix after max
  pub of_line : IsOfLine job.owner
  pub owner_is : job.owner ≡ owner.Line job.line
  pub standing : Standing
  pub stands : line_at job.line state.lines ≡ Some standing
  pub heard : Heard
  pub begun : standing.phase ≡ Begun heard
  pub listing : ListsUnder prefix standing.line.request
  pub pages : AllByRecursion IsPage heard.answers
  pub few : length heard.answers < max_pages
