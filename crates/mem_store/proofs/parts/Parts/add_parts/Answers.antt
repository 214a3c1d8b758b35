use Rattle.std.proofs.Common.{ap, ◌∙◌, ◌++◌, arith}
use Rattle.mem_store.proofs.Joins.{join_begins, join_goes_on, join_ends, join_lacks}
use Rattle.mem_store.proofs.parts.Parts.add_parts.Goals as goal

pub loop-number-init : goal.loop-number-init
loop-number-init c = join_begins c.args.self.now c.args.count _ c.requires

pub loop-number-preserved : goal.loop-number-preserved
loop-number-preserved c =
    join_goes_on c.in-Some.part.now _ c.loop-number.invariant c.loop-number-test.true c.in-Some.ensures
    (c.in_ok-extend_from_slice-in-Some.ensures.items ∙ ap (λ more. c.loop-number.bytes.items ++ more) c.as_slice.ensures)

pub returns-in-None : goal.returns-in-None
returns-in-None c = join_lacks c.loop-number.invariant c.loop-number-test.true c.in-None.ensures

pub returns : goal.returns
returns c = join_ends c.loop-number.invariant c.loop-number-test.false

pub returns-in_ok-extend_from_slice-in-Some : goal.returns-in_ok-extend_from_slice-in-Some
returns-in_ok-extend_from_slice-in-Some c =
    join_ends
    (join_goes_on c.in-Some.part.now _ c.loop-number.invariant c.loop-number-test.true c.in-Some.ensures
    (c.in_ok-extend_from_slice-in-Some.ensures.items ∙ ap (λ more. c.loop-number.bytes.items ++ more) c.as_slice.ensures))
    (omega arith)
