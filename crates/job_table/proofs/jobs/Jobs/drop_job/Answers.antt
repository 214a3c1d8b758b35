-- The job's entry is there and goes, and its number leaves the ready ones.
use Rattle.std.proofs.Common.{sym}
use Rattle.job_table.proofs.Entries.{entry_stands, held_without, keeps_dropped}
use Rattle.job_table.proofs.jobs.Jobs.drop_job.Goals as goal

pub unreachable-requires : goal.unreachable-requires
unreachable-requires c = entry_stands c.args.job c.self.inside.live.entries c.requires.ready.job (rw (← c.self.view_is) at c.requires.ready.stands) c.in-None.ensures.value

pub invariant_of-self : goal.invariant_of-self
invariant_of-self c =
    keeps_dropped c.args.job c.self.inside.live.entries _ c.self.inside.ready c.remove-2.new.self c.self.inside.count c.in-Some.live c.self.invariant c.remove.ensures.entries (sym c.in-Some.ensures.value) (record { numbers = c.remove-2.ensures.numbers; of_writers = c.remove-2.ensures.of_writers })

pub returns-clause-held : goal.returns-clause-held
returns-clause-held c = rw (← c.self.view_is) (held_without c.args.job c.self.inside.live.entries _ c.self.inside.ready c.self.inside.count c.self.invariant c.remove.ensures.entries)
