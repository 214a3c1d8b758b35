use Rattle.std.proofs.Common.{◌++◌, ap}
use Rattle.mount_model.specs.Step.{steps_of}
use Rattle.mp_record.specs.RecordText.{record_text}
use Rattle.mp_record.proofs.Appends.{AppendsFront-sent}
use Rattle.mp_record.proofs.print.print_record.Goals as goal

pub returns-clause-front : goal.returns-clause-front
returns-clause-front g c =
    AppendsFront-sent _ _ _ (c.new-gathered.result.items ++ record_text (steps_of c.items.result.now)) _ _ (rw c.new-gathered.ensures.items (ap record_text c.items.ensures.steps)) c.in_ok-print_steps.ensures.rest c.send.ensures.front
