use Rattle.name_laws.proofs.Steps.{files-step, run-files}
use Rattle.name_laws.proofs.each_file_has_its_writer.Goals as goal

pub returns-clause-step : goal.returns-clause-step
returns-clause-step c = files-step

pub returns-clause-run : goal.returns-clause-run
returns-clause-run c = run-files
