-- Where a row of items is cut into steps.
use Rattle.std.specs.Prelude.{◌≡◌, ◌<◌, List, ◌++◌, length, Bool, true, false, not}
use Rattle.std.specs.List.{IsChunkByPrefix}
use Rattle.mount_model.specs.declared.record.Item.{Item}
use Rattle.mount_model.specs.declared.record.Item.TheVariants as item

-- a step begins with the item
abbrev pub is_event : Item → Bool
is_event (item.Event event) = true
is_event other = false

-- an item goes on with the step of the one in front of it
abbrev pub goes_on : Item → Item → Bool
goes_on before next = not (is_event next)

-- the first item and all that go on with its step, and the items behind them
pub record SplitsStep (items step behind : List Item) : Type 0 where
  pub whole : items ≡ step ++ behind
  pub some : 0 < length step
  pub own : IsChunkByPrefix goes_on items (length step)
