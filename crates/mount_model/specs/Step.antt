-- A step of the mount, and the steps that a row of items stands for.
use Rattle.std.specs.Prelude.{◌≡◌, ℕ, List, [], ◌∷◌, ◌++◌, fold}
use Rattle.bucket_model.specs.Along.{Along}
use Rattle.mount_model.specs.declared.event.Event.{Event}
use Rattle.mount_model.specs.declared.event.Ask.{Ask}
use Rattle.mount_model.specs.declared.event.Answered.{Answered}
use Rattle.mount_model.specs.declared.record.Item.{Item}
use Rattle.mount_model.specs.declared.record.Item.TheVariants as item

-- an event, with the jobs that it drops, the jobs that it asks for, and the replies that it gives
pub record Step : Type 0 where
  pub event : Event
  pub drops : List ℕ
  pub asks : List Ask
  pub replies : List Answered

-- a step that has come no further than its event
abbrev pub step_of : Event → Step
step_of event = record { event = event; drops = []; asks = []; replies = [] }

abbrev pub with_drop : ℕ → Step → Step
with_drop job step = record step { drops = step.drops ++ job ∷ [] }

abbrev pub with_ask : Ask → Step → Step
with_ask ask step = record step { asks = step.asks ++ ask ∷ [] }

abbrev pub with_reply : Answered → Step → Step
with_reply reply step = record step { replies = step.replies ++ reply ∷ [] }

-- the last item changed
abbrev pub change_last : {X : Type 0} → (X → X) → List X → List X
change_last f [] = []
change_last f (x ∷ []) = f x ∷ []
change_last f (x ∷ y ∷ xs) = x ∷ change_last f (y ∷ xs)

abbrev pub with_item : List Step → Item → List Step
with_item steps (item.Event event) = steps ++ step_of event ∷ []
with_item steps (item.Drop job) = change_last (with_drop job) steps
with_item steps (item.Ask ask) = change_last (with_ask ask) steps
with_item steps (item.Reply reply) = change_last (with_reply reply) steps

-- the steps that items in one row stand for: an event begins a step, and all else goes into the last one
abbrev pub steps_of : List Item → List Step
steps_of items = fold with_item [] items

-- items, the steps that they stand for, and room for this many items more
pub record Written : Type 0 where
  pub items : List Item
  pub steps : List Step
  pub room : ℕ

-- there is a step
pub record HasStep (steps : List Step) : Type 0 where
  pub before : List Step
  pub last : Step
  pub are : steps ≡ before ++ last ∷ []

-- all but an event goes into a step
abbrev pub MayFollow : List Step → Item → Type 0
MayFollow steps (item.Event event) = Unit {0}
MayFollow steps other = HasStep steps

-- a row begins with an event
abbrev pub IsRow : List Item → Type 0
IsRow items = Along MayFollow with_item [] items
