use Rattle.std.proofs.Common.{◌+◌, arith}
use Rattle.mp_record.specs.ItemText.{text_as}
use Rattle.mp_record.proofs.Appends.{AppendsBut-rest}
use Rattle.mp_record.proofs.Items.{item_front, item_rest, items_front}
use Rattle.mp_record.proofs.print.print_kind.Goals as goal

pub returns-in_err-print_item-clause-front : goal.returns-in_err-print_item-clause-front
returns-in_err-print_item-clause-front g c =
    item_front (text_as c.args.kind) c.args.gathered.now.items c.args.items.now c.loop-item.item-index c.item-item.result c.item-item.result _ _ _ _ c.loop-item-test.true c.item-item.is c.loop-item.invariant.appended c.in_err-print_item.ensures.front

pub returns-in_err-send_full-clause-front : goal.returns-in_err-send_full-clause-front
returns-in_err-send_full-clause-front g c =
    items_front (text_as c.args.kind) c.args.gathered.now.items c.args.items.now (c.loop-item.item-index + 1) _ _ _ _ (item_rest (text_as c.args.kind) c.args.gathered.now.items c.args.items.now c.loop-item.item-index c.item-item.result c.item-item.result _ _ _ _ _ c.loop-item-test.true c.item-item.is c.loop-item.invariant.appended c.in_ok-print_item.ensures.rest) c.in_err-send_full.ensures.front

pub loop-item-preserved : goal.loop-item-preserved
loop-item-preserved g c = record {
  appended = AppendsBut-rest _ _ _ _ _ _ (item_rest (text_as c.args.kind) c.args.gathered.now.items c.args.items.now c.loop-item.item-index c.item-item.result c.item-item.result _ _ _ _ _ c.loop-item-test.true c.item-item.is c.loop-item.invariant.appended c.in_ok-print_item.ensures.rest) c.in_ok-send_full.ensures.rest;
  faults = omega (arith, c.print_item.ensures.faults_grow, c.send_full.ensures.faults_grow);
}
