use Rattle.std.proofs.Common.{sym, ap, ◌∙◌}
use Rattle.std.specs.Option.{is_some}
use Rattle.job_table.proofs.Known.{known-get, none_noted, all_known_more}
use Rattle.job_table.proofs.journal.no_places.Goals as goal

pub loop-line-preserved : goal.loop-line-preserved
loop-line-preserved c =
    let line = c.line-item.result in
    let old = c.loop-line.places.entries in
    let new = c.insert.new.self.entries in
    let updates = c.in_ok-insert.ensures.updates in
    record {
      places = λ q. none_noted line.number old new updates.0 q (c.loop-line.invariant.places q);
      known = all_known_more line.number old new updates.0 c.args.lines.now c.loop-line.line-index line c.loop-line-test.true c.line-item.is (sym (known-get line.number new) ∙ ap is_some updates.1) c.loop-line.invariant.known;
    }
