-- The range begins where the line's pairs do, and its first is the least.
use Rattle.job_table.proofs.ReadySets.{least_behind, none_behind, none_from}
use Rattle.job_table.proofs.ready.ReadyJobs.first_of_writer.Goals as goal

pub returns-then-opened-line : goal.returns-then-opened-line
returns-then-opened-line c =
    let range = c.range.ensures.in_range tt in
    rw (← c.self.view_is) (least_behind c.args.line c.self.inside.of_writers.keys c.in-Some.field-0.now c.if-opened-line.true (rw c.in-Some.ensures.steps at range.1).1 (λ q from there. rw c.in-Some.ensures.steps at (range.2 q (from, tt) there)))

pub returns-else-opened-line : goal.returns-else-opened-line
returns-else-opened-line c =
    let range = c.range.ensures.in_range tt in
    rw (← c.self.view_is) (none_behind c.args.line c.self.inside.of_writers.keys c.in-Some.field-0.now c.if-opened-line.false (rw c.in-Some.ensures.steps at range.1).0.0 (λ q from there. rw c.in-Some.ensures.steps at (range.2 q (from, tt) there)))

pub returns-in-None : goal.returns-in-None
returns-in-None c =
    let range = c.range.ensures.in_range tt in
    rw (← c.self.view_is) (none_from c.args.line c.self.inside.of_writers.keys (λ q from. range.5 c.in-None.ensures.steps.0 q (from, tt)))
