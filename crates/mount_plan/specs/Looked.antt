-- What stands at the path of a request.
use Rattle.std.specs.Prelude.{◌≡◌, ℕ, List}
use Rattle.mp_types.specs.Key.{IsKeyText}
use Rattle.mp_types.specs.Path.{joined}
use Rattle.mp_rules.specs.declared.entry.Entry.{Entry as Stands}
use Rattle.mount_model.specs.declared.standing.Heard.{Heard}
use Rattle.mount_model.specs.Conversation.{Next, View, along}
use Rattle.mount_plan.specs.declared.lookup.Found.{Found}
use Rattle.mount_plan.specs.declared.lookup.Found.TheVariants.{Root, Entry}
use Rattle.mount_plan.specs.declared.planned.LinePlan.{LinePlan}
use Rattle.mount_plan.specs.Meant.{MeansOne}

-- whatever the request, it goes by this; the entry stands at the path's key
abbrev pub IsFound : List (List ℕ) → View → Heard → Found → Type 0
IsFound names view heard Root = (root : Next) (at : Stands → Next) → along view root at names heard ≡ root
IsFound names view heard (Entry key entry) = (key.now ≡ joined names) × IsKeyText key.now × ((root : Next) (at : Stands → Next) → along view root at names heard ≡ at entry)

-- whatever the request, it isn't told yet, or can't be
abbrev pub IsShort : List (List ℕ) → View → Heard → LinePlan → Type 0
IsShort names view heard plan = (root : Next) (at : Stands → Next) → MeansOne plan (along view root at names heard)
