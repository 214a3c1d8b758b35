use Rattle.std.proofs.Common.{refl, sym, ap}
use Rattle.mount_model.specs.Handles.{Handles}
use Rattle.mount_model.specs.State.{with_handles}
use Rattle.mount_core.specs.Shared.{shared_in}
use Rattle.mount_core.specs.Writing.{WritesTo}
use Rattle.mount_core.proofs.Writes.{has_refused, has_written, write_of, write-stands, wrote_handle, wrote_named}
use Rattle.mount_core.proofs.work.Work.give_bytes.Goals as goal

pub resize_file-requires-clause-writer : goal.resize_file-requires-clause-writer
resize_file-requires-clause-writer c =
    let old = c.args.self.now in
    let to : WritesTo c.args.line old = write_of c.args.line old c.requires.writes c.in-Some.standing.now c.in-Write.handle c.in-Write.offset c.in-Write.content (sym c.in-Some.ensures.value) c.in-Write.is in
    let wrote = c.in-Ok.ensures.ok to.write.writer (write-stands c.args.line old to) in
    record { writer = wrote.next; stands = wrote_handle c.args.line c.in-Ok.count old to c.write.new.handles wrote }

pub resize_file-requires-clause-named : goal.resize_file-requires-clause-named
resize_file-requires-clause-named c = λ w stands.
    let old = c.args.self.now in
    let to : WritesTo c.args.line old = write_of c.args.line old c.requires.writes c.in-Some.standing.now c.in-Write.handle c.in-Write.offset c.in-Write.content (sym c.in-Some.ensures.value) c.in-Write.is in
    let wrote = c.in-Ok.ensures.ok to.write.writer (write-stands c.args.line old to) in
    wrote_named c.args.line c.in-Ok.count old to c.write.new.handles w wrote (c.requires.named to.standing to.write.writer to.stands to.write.holds) stands

pub returns-in-Ok : goal.returns-in-Ok
returns-in-Ok c =
    let old = c.args.self.now in
    let to : WritesTo c.args.line old = write_of c.args.line old c.requires.writes c.in-Some.standing.now c.in-Write.handle c.in-Write.offset c.in-Write.content (sym c.in-Some.ensures.value) c.in-Write.is in
    let wrote = c.in-Ok.ensures.ok to.write.writer (write-stands c.args.line old to) in
    let alone = c.resize_file.ensures.alone in
    has_written c.args.line c.in-Ok.count old c.resize_file.new.self to c.write.new.handles wrote (c.resize_file.ensures.names wrote.next (wrote_handle c.args.line c.in-Ok.count old to c.write.new.handles wrote)) (record { steps = alone.steps; lines = alone.lines; jobs = alone.jobs; time = alone.time; options = alone.options })

pub returns-in-Err : goal.returns-in-Err
returns-in-Err c =
    let old = c.args.self.now in
    let to : WritesTo c.args.line old = write_of c.args.line old c.requires.writes c.in-Some.standing.now c.in-Write.handle c.in-Write.offset c.in-Write.content (sym c.in-Some.ensures.value) c.in-Write.is in
    has_refused c.args.line c.in-Err.errno old _ to (c.in-Err.ensures.why to.write.writer (write-stands c.args.line old to)) (ap (λ (h : Handles). with_handles h (shared_in old)) c.in-Err.ensures.err) (record { steps = refl; lines = refl; jobs = refl; time = refl; options = refl })
