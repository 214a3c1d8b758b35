-- The number goes, and with it the one behind its writer's line.
use Rattle.job_table.specs.ReadyNumbers.{stands_behind}
use Rattle.job_table.proofs.Numbers.{and_true}
use Rattle.job_table.proofs.ReadySets.{removed, no_writer, behind-less}
use Rattle.job_table.proofs.ready.ReadyJobs.remove.Goals as goal

pub returns-in-Line : goal.returns-in-Line
returns-in-Line c =
    rw (← c.self.view_is)
    (record {
      numbers = removed c.args.number c.self.inside.numbers.keys c.remove.new.self.keys c.remove.ensures.keys c.remove.ensures.updates.1;
      of_writers = λ line n. rw (no_writer line c.args.owner c.in-Line.is) (and_true (stands_behind line n c.self.inside.of_writers.keys));
    })

pub returns-in-Writer-clause-numbers : goal.returns-in-Writer-clause-numbers
returns-in-Writer-clause-numbers c = rw (← c.self.view_is) (removed c.args.number c.self.inside.numbers.keys c.remove.new.self.keys c.remove.ensures.keys c.remove.ensures.updates.1)

pub returns-in-Writer-clause-of_writers : goal.returns-in-Writer-clause-of_writers
returns-in-Writer-clause-of_writers c = rw (← c.self.view_is, c.in-Writer.is) (behind-less c.in-Writer.line c.args.number c.self.inside.of_writers.keys c.remove-in-Writer.new.self.keys c.remove-in-Writer.ensures.updates.0)
