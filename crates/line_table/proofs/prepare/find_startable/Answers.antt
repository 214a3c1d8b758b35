use Rattle.std.proofs.Common.{arith, drop, ◌+◌}
use Rattle.line_table.proofs.Prepared.{drop_at, start_first, start_other, among_updated, free_from_added, busy_from_added}
use Rattle.line_table.proofs.prepare.find_startable.Goals as goal
use Rattle.line_table.proofs.prepare.find_startable.Goals.{then-is_first+in_ok-push, else-is_first}

pub loop-line-preserved : goal.loop-line-preserved
loop-line-preserved c =
    let line = c.line-item.result in
    let rest = drop (c.loop-line.line-index + 1) c.args.lines.now in
    let dropped = drop_at c.args.lines.now c.loop-line.line-index line c.loop-line-test.true c.line-item.is in
    let done = rw dropped at c.loop-line.invariant.done in
    let alike = among_updated line.actor c.loop-line.busy.keys c.insert.new.self.keys c.in_ok-is_first.ensures.updates.0 in
    elim c.if-is_first.branch [
      | then-is_first+in_ok-push w ↦ record {
        done = rw (w.numbers-is, w.in_ok-push.ensures.items) (start_first line rest _ _ _ _ done alike (free_from_added line.actor c.loop-line.busy.keys c.in_ok-is_first.is_first c.in_ok-is_first.ensures.added w.if-is_first.true));
        room = rw w.numbers-is (omega (arith, c.loop-line.invariant.room, w.in_ok-push.ensures.capacity));
      }
      | else-is_first w ↦ record {
        done = rw w.numbers-is (start_other line rest _ _ _ _ done alike (busy_from_added line.actor c.loop-line.busy.keys c.in_ok-is_first.is_first c.in_ok-is_first.ensures.added w.if-is_first.false));
        room = rw w.numbers-is c.loop-line.invariant.room;
      }
    ]
