use Rattle.std.proofs.Common.{refl, arith}
use Rattle.mp_record.specs.declared.kind.Kind.TheVariants.{Event}
use Rattle.mp_record.specs.ItemText.{text_of_kind}
use Rattle.mp_record.proofs.Items.{item_front, item_rest}
use Rattle.mp_record.proofs.print.print_step.Goals as goal

pub returns-in_err-print_kind-clause-front : goal.returns-in_err-print_kind-clause-front
returns-in_err-print_kind-clause-front g c =
    item_front (text_of_kind c.args.items.now) c.args.gathered.now.items _ c.loop-kind.kind-index Event _ _ _ _ _ c.loop-kind-test.true refl c.loop-kind.invariant.appended c.in_err-print_kind.ensures.front

pub loop-kind-preserved : goal.loop-kind-preserved
loop-kind-preserved g c = record {
  appended = item_rest (text_of_kind c.args.items.now) c.args.gathered.now.items _ c.loop-kind.kind-index Event _ _ _ _ _ _ c.loop-kind-test.true refl c.loop-kind.invariant.appended c.in_ok-print_kind.ensures.rest;
  faults = omega (arith, c.print_kind.ensures.faults_grow);
}
