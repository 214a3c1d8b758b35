use Rattle.std.proofs.Common.{sym, ap, ◌∙◌}
use Rattle.mount_model.specs.State.{change_line}
use Rattle.line_table.proofs.Kept.{change_line-same}
use Rattle.mount_core.specs.Turn.{heard_last}
use Rattle.mount_core.proofs.Hearing.{owed_heard, lines_heard}
use Rattle.mount_core.proofs.work.Work.keep_answer.Goals as goal

pub invariant_of-self : goal.invariant_of-self
invariant_of-self c =
    let lines = lines_heard c.args.line c.in-Some.told c.args.self.now.lines c.hear.new.self c.hear.result c.hear.ensures.ok c.hear.ensures.err in
    record {
      counted = rw (owed_heard c.args.line c.in-Some.told c.args.self.now.lines c.hear.new.self c.hear.result c.hear.ensures.ok c.hear.ensures.err) c.args.self.now.counted;
      enough = c.args.self.now.enough;
      knows = rw lines c.args.self.now.knows;
      part_low = c.args.self.now.part_low;
      part_high = c.args.self.now.part_high;
      rising = rw lines c.args.self.now.rising;
    }

pub returns-in-None-clause-ok : goal.returns-in-None-clause-ok
returns-in-None-clause-ok c = sym (ap (λ l. change_line c.args.line (heard_last l) c.args.self.now.lines) c.in-None.is ∙ change_line-same c.args.line c.args.self.now.lines)
