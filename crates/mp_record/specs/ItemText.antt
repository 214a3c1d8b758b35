-- The text of the items of one step.
use Rattle.std.specs.Prelude.{ℕ, List, [], ◌∷◌, ◌++◌, flat_map, codes, decimal}
use Rattle.mount_model.specs.declared.record.Item.{Item}
use Rattle.mount_model.specs.declared.record.Item.TheVariants as item
use Rattle.mount_model.specs.declared.request.Reply.{Reply}
use Rattle.mount_model.specs.declared.request.Reply.TheVariants as reply
use Rattle.mount_model.specs.declared.event.Answered.{Answered}
use Rattle.mp_record.specs.RecordText.{event_text, drop_text, ask_text, said_text, reply_text}
use Rattle.mp_record.specs.declared.kind.Kind.{Kind}
use Rattle.mp_record.specs.declared.kind.Kind.TheVariants as kind

-- an item's text where it is of this kind, and else nothing
abbrev pub text_as : Kind → Item → List ℕ
text_as kind.Event (item.Event event) = event_text event
text_as kind.Drop (item.Drop job) = drop_text job
text_as kind.Ask (item.Ask ask) = ask_text ask
text_as kind.Reply (item.Reply answered) = reply_text answered
text_as wanted other = []

-- the text of the items of one kind
abbrev pub text_of_kind : List Item → Kind → List ℕ
text_of_kind items wanted = flat_map (text_as wanted) items

-- the text of a step's items: its event, then its drops, its asks and its replies
abbrev pub items_text : List Item → List ℕ
items_text items = flat_map (text_of_kind items) (kind.Event ∷ kind.Drop ∷ kind.Ask ∷ kind.Reply ∷ [])

-- the bytes that a reply tells as data
abbrev pub data_in : Reply → List ℕ
data_in (reply.Data bytes) = bytes
data_in other = []

-- a reply's text up to its data
abbrev pub said_start : Reply → List ℕ
said_start (reply.Data bytes) = codes "data x"
said_start other = said_text other

-- and its line up to there
abbrev pub reply_start : Answered → List ℕ
reply_start answered = codes "R " ++ (decimal answered.line ++ (codes " " ++ said_start answered.reply))
