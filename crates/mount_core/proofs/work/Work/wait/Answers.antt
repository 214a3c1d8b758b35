use Rattle.std.proofs.Common.{◌≡◌, refl, ap, ◌∙◌}
use Rattle.std.specs.FinMap.{get}
use Rattle.mp_types.specs.HandleName.{HandleName}
use Rattle.mount_model.specs.declared.handle.Handle.TheVariants.{Writing}
use Rattle.mount_model.specs.Handles.{Handles}
use Rattle.mount_model.specs.State.{with_handles}
use Rattle.file_handles.specs.Writing.{waits}
use Rattle.file_handles.proofs.Tables.{get_put}
use Rattle.mount_core.specs.Shared.{shared_in}
use Rattle.mount_core.proofs.Writers.{named-holds}
use Rattle.mount_core.proofs.WriterTurns.{may_wait, takes_waited}
use Rattle.mount_core.proofs.work.Work.wait.Goals as goal

pub turn_writer-requires-clause-writer : goal.turn_writer-requires-clause-writer
turn_writer-requires-clause-writer c =
    let old = c.args.self.now in
    let name : HandleName = (c.named_by-actor.result.0, c.named_by-actor.result.1) in
    let to = c.requires.waits in
    let w = to.wait.writer in
    let stands : get old.handles name ≡ _ = ap (get old.handles) (c.named_by-actor.ensures to.standing to.stands) ∙ named-holds to.standing.line old.handles (Writing w) to.wait.holds in
    may_wait c.args.line c.args.waiter name old _ to c.requires.begun (c.requires.writers to.standing w to.stands to.wait.holds) (ap (λ (handles : Handles). with_handles handles (shared_in old)) (c.wait-was_under_way.ensures w stands).1) (record { steps = refl; lines = refl; jobs = refl; time = refl; options = refl })

pub returns : goal.returns
returns c = λ last bytes none.
    let old = c.args.self.now in
    let name : HandleName = (c.named_by-actor.result.0, c.named_by-actor.result.1) in
    let to = c.requires.waits in
    let w = to.wait.writer in
    let named = c.named_by-actor.ensures to.standing to.stands in
    let stands : get old.handles name ≡ _ = ap (get old.handles) named ∙ named-holds to.standing.line old.handles (Writing w) to.wait.holds in
    let put = c.wait-was_under_way.ensures w stands in
    takes_waited c.args.line last bytes c.args.waiter name c.wait-was_under_way.result old _ c.turn_writer.new.self c.requires.begun c.requires.step to none named put.0 (ap (λ (handles : Handles). with_handles handles (shared_in old)) put.1) (record { steps = refl; lines = refl; jobs = refl; time = refl; options = refl }) (c.turn_writer.ensures (waits c.args.waiter w) (ap (λ (handles : Handles). get handles name) put.1 ∙ get_put old.handles name (Writing (waits c.args.waiter w))))
