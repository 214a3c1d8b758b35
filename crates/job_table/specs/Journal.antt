-- A record with the places of its replies.
use Rattle.std.specs.Prelude.{◌≡◌, ℕ, List, Bool, false, ◌==◌, Option, Some, None, position}
use Rattle.std.specs.List.{list_all}
use Rattle.std.specs.Option.{option_flatten}
use Rattle.std.specs.Ordering.{nat_cmp}
use Rattle.std.specs.BTreeMap as tree
use Rattle.std.specs.BTreeMap.{BTreeMap}
use Rattle.mount_model.specs.declared.request.Line.{Line}
use Rattle.mount_model.specs.declared.request.Reply.{Reply}
use Rattle.mount_model.specs.declared.record.Item.{Item}
use Rattle.mount_model.specs.declared.record.Item.TheVariants as item
use Rattle.mount_model.specs.Step.{Step}
use Rattle.mount_model.specs.Run.{is_among}

-- steps, room for this many items more, and the numbers of the lines that replies may be to
pub record Journaled : Type 0 where
  pub steps : List Step
  pub room : ℕ
  pub known : List ℕ

-- whether the number of each line is known
abbrev pub all_known : List ℕ → List Line → Bool
all_known known lines = list_all (λ line. is_among line.number known) lines

-- whether the item is a reply to the line of this number
abbrev pub is_reply_to : ℕ → Item → Bool
is_reply_to line (item.Reply answered) = answered.line == line
is_reply_to line other = false

-- the reply that an item gives, if it gives one
abbrev pub reply_in : Item → Option Reply
reply_in (item.Reply answered) = Some answered.reply
reply_in other = None

-- the place of the line's reply, where one is noted
abbrev pub place_in : BTreeMap ℕ (Option ℕ) → ℕ → Option ℕ
place_in places line = option_flatten (tree.get nat_cmp places line)

-- the places are those of the first reply to each line
abbrev pub ArePlaces : BTreeMap ℕ (Option ℕ) → List Item → Type 0
ArePlaces places items = (line : ℕ) → place_in places line ≡ position (is_reply_to line) items
