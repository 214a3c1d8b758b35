use Rattle.std.proofs.Common.{fold, take, sym, ap, ◌∙◌, refl}
use Rattle.std.proofs.Math.Seq.{take_all}
use Rattle.std.proofs.lemmas.List.Sums.{fold_more}
use Rattle.listing_rules.specs.Names.{with_item}
use Rattle.dir_reader.specs.Gathered.{found_in}
use Rattle.dir_reader.proofs.names.show_items.Goals as goal

pub loop-item-init : goal.loop-item-init
loop-item-init c = refl

pub loop-item-preserved : goal.loop-item-preserved
loop-item-preserved c =
    let step = with_item c.args.prefix.now in
    c.in_ok-show_item.ensures
    ∙ ap (λ found. step found c.item-item.result) c.loop-item.invariant
    ∙ ap (step (fold step (found_in c.args.names.now) (take c.loop-item.item-index c.args.items.now))) c.item-item.is
    ∙ sym (fold_more step (found_in c.args.names.now) c.args.items.now c.loop-item.item-index c.item-item.result c.loop-item-test.true)

pub returns : goal.returns
returns c = c.loop-item.invariant ∙ ap (fold (with_item c.args.prefix.now) (found_in c.args.names.now)) (take_all c.loop-item.item-index c.args.items.now c.loop-item-test.false)
