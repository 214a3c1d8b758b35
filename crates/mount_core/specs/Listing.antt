-- How a line reads what it has heard of a directory, and how it ends where it can't keep a page.
use Rattle.std.specs.Prelude.{◌≡◌, ℕ, List, Some, Ok}
use Rattle.bucket_model.specs.declared.answer.Brief.{Brief}
use Rattle.bucket_model.specs.declared.answer.Brief.TheVariants.{Page}
use Rattle.mount_model.specs.declared.request.Request.TheVariants as request
use Rattle.mount_model.specs.declared.standing.Heard.{Heard}
use Rattle.mount_model.specs.declared.standing.Phase.TheVariants.{Begun}
use Rattle.mount_model.specs.declared.standing.Standing.{Standing}
use Rattle.mount_model.specs.State.{line_at}
use Rattle.dir_reader.specs.Gathered.{Gathered, with_page}

-- with what one more answer shows
abbrev pub with_answer : Gathered → Brief → Gathered
with_answer gathered (Page page) = with_page gathered page
with_answer gathered other = gathered

-- the line of this number has begun to list a directory
pub record IsListing (number : ℕ) (lines : List Standing) : Type 0 where
  pub standing : Standing
  pub stands : line_at number lines ≡ Some standing
  pub heard : Heard
  pub phase : standing.phase ≡ Begun heard
  pub names : List (List ℕ)
  pub lists : standing.line.request ≡ request.List (Ok names)
