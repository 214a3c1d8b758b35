use Rattle.mp_types.specs.Content.{bytes_of}
use Rattle.file_handles.proofs.Refusals.{takes, refuses}
use Rattle.file_handles.proofs.writer.take_bytes.Goals as goal

pub returns-in-Ok-clause-ok : goal.returns-in-Ok-clause-ok
returns-in-Ok-clause-ok c = takes c.args.writer.now c.args.offset (bytes_of c.args.content.now) c.write.result c.write.ensures.refused c.in-Ok.count c.in-Ok.is c.in-Ok.ensures.count _ c.in-Ok.ensures.ok

pub returns-in-Err-clause-why : goal.returns-in-Err-clause-why
returns-in-Err-clause-why c = refuses c.args.writer.now c.args.offset (bytes_of c.args.content.now) c.write.result c.write.ensures.refused c.in-Err.why c.in-Err.is _ c.errno_for.ensures
