use Rattle.std.proofs.Common.{List, length, sym, ◌∙◌, subst, rules}
use Rattle.std.proofs.lemmas.List.Sorted.{answers_always}
use Rattle.std.specs.List.{IsChunkByPrefix}
use Rattle.std.specs.Slice.Iter.{chunk_by_rest}
use Rattle.mount_model.specs.declared.record.Item.{Item}
use Rattle.mp_record.specs.Rows.{goes_on}
use Rattle.mp_record.proofs.Rows.{SplitsStep-chunk}
use Rattle.mp_record.proofs.steps.split_step.Goals as goal

pub returns : goal.returns
returns c =
    let steps = c.in_ok-step.ensures.steps in
    let chunk = steps.2 goes_on (answers_always _ _ _ (λ f a r next called. search rules)) in
    SplitsStep-chunk c.args.items.now c.in_ok-step.step.now (chunk_by_rest c.next.new.self) _ _ (sym c.chunk_by.ensures.rest ∙ steps.0) steps.1
    (subst (λ (items : List Item). IsChunkByPrefix goes_on items (length c.in_ok-step.step.now)) c.chunk_by.ensures.rest chunk.1) c.split_at.ensures.front c.split_at.ensures.back
