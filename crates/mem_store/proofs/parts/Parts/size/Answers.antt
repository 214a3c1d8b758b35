use Rattle.std.proofs.Common.{arith}
use Rattle.mem_store.proofs.Joins.{size_begins, size_goes_on, size_ends, size_lacks}
use Rattle.mem_store.proofs.parts.Parts.size.Goals as goal

pub loop-place-init : goal.loop-place-init
loop-place-init c = size_begins c.args.self.now c.args.count

pub loop-place-preserved : goal.loop-place-preserved
loop-place-preserved c = size_goes_on c.in-Some.part.now _ c.loop-place.invariant c.loop-place-test.true c.in-Some.ensures (omega (arith, c.len.ensures.value))

pub returns-in-None : goal.returns-in-None
returns-in-None c = size_lacks c.loop-place.invariant c.loop-place-test.true c.in-None.ensures

pub returns : goal.returns
returns c = size_ends c.loop-place.invariant c.loop-place-test.false

pub returns-in-Some : goal.returns-in-Some
returns-in-Some c = size_ends (size_goes_on c.in-Some.part.now _ c.loop-place.invariant c.loop-place-test.true c.in-Some.ensures (omega (arith, c.len.ensures.value))) (omega arith)
