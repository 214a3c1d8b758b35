-- The replies that a record gives, and the one to a line.
use Rattle.std.specs.Prelude.{ℕ, List, [], ◌∷◌, flat_map, ◌==◌, Option, option_map}
use Rattle.std.specs.List.{find}
use Rattle.mount_model.specs.declared.request.Reply.{Reply}
use Rattle.mount_model.specs.declared.event.Answered.{Answered}
use Rattle.mount_model.specs.declared.record.Item.{Item}
use Rattle.mount_model.specs.declared.record.Item.TheVariants as item
use Rattle.mount_model.specs.Step.{Step}

-- all replies of the steps, in order
abbrev pub replies_of : List Step → List Answered
replies_of steps = flat_map (λ step. step.replies) steps

-- the first reply to the line of this number, where the steps have one
abbrev pub reply_to : ℕ → List Step → Option Reply
reply_to line steps = option_map (λ a. a.reply) (find (λ a. a.line == line) (replies_of steps))

-- the replies that one item of a record gives
abbrev pub replies_in : Item → List Answered
replies_in (item.Reply reply) = reply ∷ []
replies_in other = []
