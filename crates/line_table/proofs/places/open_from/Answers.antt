use Rattle.std.proofs.Common.{get_or, arith}
use Rattle.std.proofs.lemmas.Option.{slice_get-get_or}
use Rattle.line_table.proofs.Opens.{open_more, open_here, open_le}
use Rattle.line_table.proofs.places.open_from.Goals as goal

pub loop-place-preserved : goal.loop-place-preserved
loop-place-preserved c =
    let lines = c.args.lines.now in
    open_more lines c.loop-place.place (get_or lines c.loop-place.place c.index-lines-place.result) c.loop-place.invariant (slice_get-get_or lines c.loop-place.place c.index-lines-place.result c.loop-place-test.true) c.in-Replied.is

pub returns-in_default : goal.returns-in_default
returns-in_default c =
    let lines = c.args.lines.now in
    open_here lines c.loop-place.place (get_or lines c.loop-place.place c.index-lines-place.result) c.loop-place.invariant (slice_get-get_or lines c.loop-place.place c.index-lines-place.result c.loop-place-test.true) c.in_default.not-Replied

pub returns : goal.returns
returns c = omega (arith, c.loop-place.invariant, c.loop-place-test.false, open_le c.args.lines.now)
