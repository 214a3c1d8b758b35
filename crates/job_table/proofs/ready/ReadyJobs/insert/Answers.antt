-- The number goes to the end of all, and behind its writer's line.
use Rattle.std.proofs.Common.{◌∙◌, sym, ap, nat_cmp}
use Rattle.std.specs.BTreeMap.{is_at}
use Rattle.std.specs.Set.{remove_key}
use Rattle.job_table.specs.ReadyNumbers.{stands_behind}
use Rattle.job_table.proofs.Numbers.{or_false}
use Rattle.job_table.proofs.ReadySets.{insert_key-last, insert_key-undone, no_writer, behind-more, same_view}
use Rattle.job_table.proofs.ready.ReadyJobs.insert.Goals as goal

pub returns-in-Line : goal.returns-in-Line
returns-in-Line c =
    rw (← c.self.view_is)
    (record {
      numbers = c.in-Ok.ensures.keys ∙ insert_key-last c.args.number c.self.inside.numbers.keys (rw (← c.self.view_is) at c.requires);
      of_writers = λ line n. rw (no_writer line c.args.owner c.in-Line.is) (sym (or_false (stands_behind line n c.self.inside.of_writers.keys)));
      err = tt;
    })

pub returns-in-Ok-insert-clause-numbers : goal.returns-in-Ok-insert-clause-numbers
returns-in-Ok-insert-clause-numbers c = rw (← c.self.view_is) (c.in-Ok.ensures.keys ∙ insert_key-last c.args.number c.self.inside.numbers.keys (rw (← c.self.view_is) at c.requires))

pub returns-in-Ok-insert-clause-of_writers : goal.returns-in-Ok-insert-clause-of_writers
returns-in-Ok-insert-clause-of_writers c = rw (← c.self.view_is, c.in-Writer.is) (behind-more c.in-Writer.line c.args.number c.self.inside.of_writers.keys c.insert-in-Writer.new.self.keys c.in-Ok-insert.ensures.updates.0)

pub returns-in-Err-insert-clause-err : goal.returns-in-Err-insert-clause-err
returns-in-Err-insert-clause-err c =
    same_view _ _ _ _ (c.remove.ensures.keys ∙ ap (remove_key (is_at (nat_cmp c.args.number))) c.in-Ok.ensures.keys ∙ insert_key-undone c.args.number c.self.inside.numbers.keys (rw (← c.self.view_is) at c.requires)) c.in-Err-insert.ensures.err
    ∙ c.self.view_is
