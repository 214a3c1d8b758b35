use Rattle.run_laws.proofs.Slices.{run_done_reads, run_begun_reads, run_taken_reads}
use Rattle.run_laws.proofs.reads_are_slices.Goals as goal

pub returns-clause-done : goal.returns-clause-done
returns-clause-done c = run_done_reads

pub returns-clause-begun : goal.returns-clause-begun
returns-clause-begun c = run_begun_reads

pub returns-clause-taken : goal.returns-clause-taken
returns-clause-taken c = run_taken_reads
