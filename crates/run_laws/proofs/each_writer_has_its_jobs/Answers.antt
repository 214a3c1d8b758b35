use Rattle.run_laws.proofs.Opened.{live-writer}
use Rattle.run_laws.proofs.Served.{writer_is, one_name, opener_replied, line_waits, nobody_waits, waits_busy, ready_aborts}
use Rattle.run_laws.proofs.each_writer_has_its_jobs.Goals as goal

pub returns-clause-each : goal.returns-clause-each
returns-clause-each c = writer_is

pub returns-clause-alone : goal.returns-clause-alone
returns-clause-alone c = one_name

pub returns-clause-owned : goal.returns-clause-owned
returns-clause-owned c = live-writer

pub returns-clause-opened : goal.returns-clause-opened
returns-clause-opened c = opener_replied

pub returns-clause-waited : goal.returns-clause-waited
returns-clause-waited c = line_waits

pub returns-clause-unwaited : goal.returns-clause-unwaited
returns-clause-unwaited c = nobody_waits

pub returns-clause-busy : goal.returns-clause-busy
returns-clause-busy c = waits_busy

pub returns-clause-idle : goal.returns-clause-idle
returns-clause-idle c = ready_aborts
