-- The new job goes to the end of both.
use Rattle.job_table.proofs.Entries.{ready_live, adds_one, numbers_below, keeps_more, keeps_undone}
use Rattle.job_table.proofs.jobs.Jobs.add.Goals as goal

pub insert-requires : goal.insert-requires
insert-requires c = numbers_below c.self.inside.live.entries c.self.inside.ready c.self.inside.count c.in-Some.number c.self.invariant c.in-Some.ensures.1

pub invariant_of-self-in-Err-insert : goal.invariant_of-self-in-Err-insert
invariant_of-self-in-Err-insert c =
    keeps_undone c.self.inside.live.entries c.insert-2.new.self.entries c.self.inside.ready c.insert.new.self c.remove.new.self c.self.inside.count c.in-Some.number c.args.owner c.self.invariant c.in-Some.ensures.1
    (record { numbers = c.in-Ok.ensures.numbers; of_writers = c.in-Ok.ensures.of_writers })
    c.in-Err-insert.ensures.err
    (record { numbers = c.remove.ensures.numbers; of_writers = c.remove.ensures.of_writers })

pub invariant_of-self-2 : goal.invariant_of-self-2
invariant_of-self-2 c =
    keeps_more c.self.inside.live.entries c.insert-2.new.self.entries c.self.inside.ready c.insert.new.self c.self.inside.count c.in-Some.number c.args.line c.args.owner c.args.call c.args.purpose c.self.invariant c.in-Some.ensures.1
    (record { numbers = c.in-Ok.ensures.numbers; of_writers = c.in-Ok.ensures.of_writers })
    c.in-Ok-insert.ensures.entries

pub returns-clause-ok : goal.returns-clause-ok
returns-clause-ok c =
    rw (← c.self.view_is)
    (adds_one c.self.inside.live.entries c.insert-2.new.self.entries c.self.inside.ready c.self.inside.count c.in-Some.number (ready_live c.args.owner c.args.line c.args.call c.args.purpose) c.self.invariant c.in-Some.ensures.1 c.in-Ok-insert.ensures.entries)
