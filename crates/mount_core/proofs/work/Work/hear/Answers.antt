use Rattle.std.proofs.Common.{◌≡◌, Some, refl, ap, ◌∙◌}
use Rattle.std.specs.FinMap.{get}
use Rattle.mp_types.specs.HandleName.{HandleName}
use Rattle.mount_model.specs.declared.handle.Handle.TheVariants.{Writing}
use Rattle.mount_model.specs.Conversation.{with_upload}
use Rattle.mount_model.specs.Handles.{Handles}
use Rattle.mount_model.specs.Writers.{hears_answer}
use Rattle.mount_model.specs.State.{with_handles}
use Rattle.file_handles.proofs.Tables.{get_put}
use Rattle.mount_core.specs.Shared.{shared_in}
use Rattle.mount_core.proofs.Writers.{named-holds}
use Rattle.mount_core.proofs.WriterTurns.{call_for, may_hear, takes_heard}
use Rattle.mount_core.proofs.work.Work.hear.Goals as goal

pub turn_writer-requires-clause-writer : goal.turn_writer-requires-clause-writer
turn_writer-requires-clause-writer c =
    let old = c.args.self.now in
    let name : HandleName = (c.named_by-actor.result.0, c.named_by-actor.result.1) in
    let may = c.requires.hears in
    let w = may.writer in
    let stands : get old.handles name ≡ Some (Writing w) = ap (get old.handles) (c.named_by-actor.ensures may.standing may.stands) ∙ named-holds may.standing.line old.handles (Writing w) may.holds in
    let called = call_for c.args.purpose in
    may_hear c.args.opened c.args.purpose called.0 c.args.answer name old _ may (ap (λ (handles : Handles). with_handles handles (shared_in old)) (c.hear-was_under_way.ensures w called.0 stands called.1).1) (record { steps = refl; lines = refl; jobs = refl; time = refl; options = refl })

pub returns : goal.returns
returns c = λ called bytes is_for.
    let old = c.args.self.now in
    let name : HandleName = (c.named_by-actor.result.0, c.named_by-actor.result.1) in
    let may = c.requires.hears in
    let w = may.writer in
    let named = c.named_by-actor.ensures may.standing may.stands in
    let stands : get old.handles name ≡ Some (Writing w) = ap (get old.handles) named ∙ named-holds may.standing.line old.handles (Writing w) may.holds in
    let put = c.hear-was_under_way.ensures w called stands is_for in
    let heard = with_upload (hears_answer called c.args.answer w.upload) w in
    takes_heard c.args.opened bytes called c.args.answer name c.hear-was_under_way.result may.standing w old _ c.turn_writer.new.self c.requires.step may.stands may.holds named put.0 (ap (λ (handles : Handles). with_handles handles (shared_in old)) put.1) (record { steps = refl; lines = refl; jobs = refl; time = refl; options = refl }) (c.turn_writer.ensures heard (ap (λ (handles : Handles). get handles name) put.1 ∙ get_put old.handles name (Writing heard)))
