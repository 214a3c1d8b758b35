-- The job's entry is there and goes, and its number was no ready one.
use Rattle.std.proofs.Common.{sym, ap}
use Rattle.job_table.specs.LiveJobs.{Held}
use Rattle.job_table.proofs.Entries.{entry_stands, entry_is, held_without, keeps_done}
use Rattle.job_table.proofs.jobs.Jobs.done.Goals as goal

pub unreachable-requires : goal.unreachable-requires
unreachable-requires c = entry_stands c.args.job c.self.inside.live.entries c.requires.out.job (rw (← c.self.view_is) at c.requires.out.stands) c.in-None.ensures.value

pub invariant_of-self : goal.invariant_of-self
invariant_of-self c = keeps_done c.args.job c.self.inside.live.entries _ c.self.inside.ready c.self.inside.count c.self.invariant (rw (← c.self.view_is) at c.requires.out) c.remove.ensures.entries

pub returns-clause-asker : goal.returns-clause-asker
returns-clause-asker c = λ h stands.
    let is = entry_is c.args.job c.self.inside.live.entries h c.in-Some.live (rw (← c.self.view_is) at stands) c.in-Some.ensures.value in
    (sym (ap (λ (t : Held). t.owner) is), sym (ap (λ (t : Held). t.line) is), sym (ap (λ (t : Held). t.purpose) is))

pub returns-clause-held : goal.returns-clause-held
returns-clause-held c = rw (← c.self.view_is) (held_without c.args.job c.self.inside.live.entries _ c.self.inside.ready c.self.inside.count c.self.invariant c.remove.ensures.entries)
