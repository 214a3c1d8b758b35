use Rattle.job_table.proofs.Entries.{first_of, first_is_ready}
use Rattle.job_table.proofs.jobs.Jobs.ready_of_writer.Goals as goal

pub returns-clause-first : goal.returns-clause-first
returns-clause-first c = rw (← c.self.view_is) (first_of c.args.line c.self.inside.live.entries c.self.inside.ready c.self.inside.count c.first_of_writer.result c.self.invariant c.first_of_writer.ensures)

pub returns-clause-ready : goal.returns-clause-ready
returns-clause-ready c = rw (← c.self.view_is) (first_is_ready c.args.line c.self.inside.live.entries c.self.inside.ready c.self.inside.count c.first_of_writer.result c.self.invariant c.first_of_writer.ensures)
