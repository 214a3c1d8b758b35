use Rattle.std.proofs.Common.{◌≡◌, [], ◌∷◌, sym, ap, ◌∙◌, subst}
use Rattle.mount_model.specs.Step.{HasStep}
use Rattle.std.specs.FinMap.{get}
use Rattle.mp_types.specs.HandleName.{HandleName}
use Rattle.mount_model.specs.declared.handle.Handle.TheVariants.{Writing}
use Rattle.mount_model.specs.State.{Shared, handle_name}
use Rattle.file_handles.proofs.Tables.{get_put}
use Rattle.mount_model.specs.declared.request.Reply.TheVariants.{Wrote}
use Rattle.mount_model.specs.declared.standing.Phase.TheVariants.{Replied}
use Rattle.mount_core.specs.Turn.{with_part}
use Rattle.mount_core.proofs.Steps.{still_steps}
use Rattle.mount_core.proofs.Writes.{may_write, takes_refused, takes_written, wrote-put, wrote-stands}
use Rattle.mount_core.proofs.work.Work.write.Goals as goal

pub named_by-actor-requires : goal.named_by-actor-requires
named_by-actor-requires c =
    let wrote = c.in-Ok.ensures in
    record { standing = record { line = wrote.to.standing.line; phase = Replied }; stands = wrote-stands c.args.line c.in-Ok.count c.args.self.now c.give_bytes.new.self c.reply_line.new.self wrote c.reply_line.ensures.answers }

pub turn_writer-requires-clause-step : goal.turn_writer-requires-clause-step
turn_writer-requires-clause-step c =
    still_steps (with_part [] [] (record { line = c.args.line; reply = Wrote c.in-Ok.count } ∷ [])) c.give_bytes.new.self.record.steps c.reply_line.new.self.record.steps c.reply_line.ensures.answers.steps (subst HasStep (sym c.in-Ok.ensures.alone.steps) c.requires.step)

pub turn_writer-requires-clause-writer : goal.turn_writer-requires-clause-writer
turn_writer-requires-clause-writer c =
    let old = c.args.self.now in
    let wrote = c.in-Ok.ensures in
    let to = wrote.to in
    let name : HandleName = (c.named_by-actor.result.0, c.named_by-actor.result.1) in
    let mid = c.give_bytes.new.self in
    let kept = c.reply_line.new.self in
    let answers = c.reply_line.ensures.answers in
    let named : name ≡ handle_name to.standing.line = c.named_by-actor.ensures (record { line = to.standing.line; phase = Replied }) (wrote-stands c.args.line c.in-Ok.count old mid kept wrote answers) in
    may_write c.args.line c.in-Ok.count name old mid kept wrote answers c.reply_line.ensures.shared named (c.requires.writers to.standing to.write.writer to.stands to.write.holds)

pub returns-in-Ok : goal.returns-in-Ok
returns-in-Ok c = λ last bytes.
    let old = c.args.self.now in
    let wrote = c.in-Ok.ensures in
    let to = wrote.to in
    let w = wrote.next in
    let name : HandleName = (c.named_by-actor.result.0, c.named_by-actor.result.1) in
    let mid = c.give_bytes.new.self in
    let kept = c.reply_line.new.self in
    let answers = c.reply_line.ensures.answers in
    let seen = c.reply_line.ensures.shared in
    let named : name ≡ handle_name to.standing.line = c.named_by-actor.ensures (record { line = to.standing.line; phase = Replied }) (wrote-stands c.args.line c.in-Ok.count old mid kept wrote answers) in
    let put = wrote-put c.args.line c.in-Ok.count name old mid kept wrote seen named in
    takes_written c.args.line c.in-Ok.count last bytes name old mid kept c.turn_writer.new.self c.requires.begun c.requires.step wrote answers seen named (c.turn_writer.ensures w (ap (λ (s : Shared). get s.handles name) put ∙ get_put old.handles name (Writing w)))

pub returns-in-Err : goal.returns-in-Err
returns-in-Err c = λ last bytes. takes_refused c.args.line c.in-Err.errno last bytes c.args.self.now c.give_bytes.new.self c.reply_line-in-Err.new.self c.requires.begun c.in-Err.ensures c.reply_line-in-Err.ensures.answers c.reply_line-in-Err.ensures.shared
