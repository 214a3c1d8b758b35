-- The replies of the steps that a row of items stands for are those among the items.
use Rattle.std.proofs.Common.{◌≡◌, List, [], ◌∷◌, ◌++◌, fold, flat_map, refl, sym, ap, ◌∙◌, append_assoc, append-nil}
use Rattle.std.proofs.lemmas.Grind.{flat_map-append}
use Rattle.bucket_model.specs.Along.{Along}
use Rattle.mount_model.specs.declared.event.Answered.{Answered}
use Rattle.mount_model.specs.declared.record.Item.{Item}
use Rattle.mount_model.specs.declared.record.Item.TheVariants as item
use Rattle.mount_model.specs.Step.{Step, step_of, with_drop, with_ask, with_reply, change_last, with_item, steps_of, MayFollow, IsRow}
use Rattle.mount_model.specs.Replies.{replies_of, replies_in}
use Rattle.mount_model.proofs.Order.{change_last-push}

-- one step more
replies_of-push : (steps : List Step) (step : Step) → replies_of (steps ++ step ∷ []) ≡ replies_of steps ++ step.replies
replies_of-push steps step = flat_map-append (λ s. s.replies) steps (step ∷ []) ∙ ap (λ r. replies_of steps ++ r) (append-nil step.replies)

-- the last step changed, so that it gives more replies
replies_of-change_last : (f : Step → Step) (more : List Answered) (steps before : List Step) (last : Step) → steps ≡ before ++ last ∷ [] → (f last).replies ≡ last.replies ++ more → replies_of (change_last f steps) ≡ replies_of steps ++ more
replies_of-change_last f more steps before last are grows =
    rw (are, change_last-push f before last)
    (replies_of-push before (f last) ∙ (ap (λ r. replies_of before ++ r) grows ∙ (sym (append_assoc (replies_of before) last.replies more) ∙ ap (λ r. r ++ more) (sym (replies_of-push before last)))))

-- one item more
replies_of-item : (steps : List Step) (item : Item) → MayFollow steps item → replies_of (with_item steps item) ≡ replies_of steps ++ replies_in item
replies_of-item steps (item.Event event) may = replies_of-push steps (step_of event)
replies_of-item steps (item.Drop job) may = replies_of-change_last (with_drop job) [] steps may.before may.last may.are (sym (append-nil may.last.replies))
replies_of-item steps (item.Ask ask) may = replies_of-change_last (with_ask ask) [] steps may.before may.last may.are (sym (append-nil may.last.replies))
replies_of-item steps (item.Reply reply) may = replies_of-change_last (with_reply reply) (reply ∷ []) steps may.before may.last may.are refl

replies_of-items : (steps : List Step) (items : List Item) → Along MayFollow with_item steps items → replies_of (fold with_item steps items) ≡ replies_of steps ++ flat_map replies_in items
replies_of-items steps [] run = sym (append-nil (replies_of steps))
replies_of-items steps (item ∷ items) run = replies_of-items (with_item steps item) items run.1 ∙ (ap (λ r. r ++ flat_map replies_in items) (replies_of-item steps item run.0) ∙ append_assoc (replies_of steps) (replies_in item) (flat_map replies_in items))

pub replies_of-row : (items : List Item) → IsRow items → replies_of (steps_of items) ≡ flat_map replies_in items
replies_of-row items row = replies_of-items [] items row
