use Rattle.std.proofs.Common.{arith}
use Rattle.mount_model.specs.declared.standing.Phase.TheVariants.{Replied}
use Rattle.mount_core.proofs.Kept.{owes-replied, rising-change}
use Rattle.mount_core.proofs.Known.{known_line, known-change}
use Rattle.mount_core.proofs.work.Work.reply_line.Goals as goal

pub reply-requires-clause-room : goal.reply-requires-clause-room
reply-requires-clause-room c = omega (arith, owes-replied c.args.line c.args.self.now.lines c.args.self.now.rising c.requires.begun)

pub reply-requires-clause-known : goal.reply-requires-clause-known
reply-requires-clause-known c = known_line c.args.line c.args.self.now.record.known c.args.self.now.lines c.requires.begun.standing c.args.self.now.knows c.requires.begun.stands

pub overflow_sub-self : goal.overflow_sub-self
overflow_sub-self c = omega (arith, owes-replied c.args.line c.args.self.now.lines c.args.self.now.rising c.requires.begun)

pub invariant_of-self : goal.invariant_of-self
invariant_of-self c =
    let owes = owes-replied c.args.line c.args.self.now.lines c.args.self.now.rising c.requires.begun in
    record {
      counted = rw c.reply-2.ensures (omega arith);
      enough = omega arith;
      knows = rw c.reply-2.ensures (known-change c.args.line (λ phase. Replied) _ _ c.args.self.now.lines c.reply.ensures.known c.args.self.now.knows);
      part_low = c.args.self.now.part_low;
      part_high = c.args.self.now.part_high;
      rising = rw c.reply-2.ensures (rising-change c.args.line (λ phase. Replied) c.args.self.now.lines c.args.self.now.rising);
    }
