use Rattle.std.proofs.Common.{map, ap, ◌∙◌, arith}
use Rattle.run_laws.proofs.Lines.{lines-opening}
use Rattle.mount_core.proofs.Known.{known_start}
use Rattle.mount_core.proofs.Owing.{owes_lines-start}
use Rattle.mount_core.proofs.work.Work.start.Goals as goal

pub invariant_of-result : goal.invariant_of-result
invariant_of-result c = record {
  counted = rw (c.in_ok-lines.ensures, c.new-3.ensures.held, owes_lines-start) (omega (arith, c.in-Some.ensures, c.len.ensures));
  enough = omega (arith, c.in_ok-make_room.ensures.room);
  knows = known_start c.args.script _ _ _ _ c.as_slice.ensures (ap (map (λ s. s.line)) c.in_ok-lines.ensures ∙ lines-opening c.args.options c.args.script) c.make_room.ensures.known c.in_ok-record.ensures.known;
  part_low = c.requires.within.part_low;
  part_high = c.requires.within.part_high;
  rising = rw (c.in_ok-lines.ensures, lines-opening c.args.options) c.requires.rising;
}
