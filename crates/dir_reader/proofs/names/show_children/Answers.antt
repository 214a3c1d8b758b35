use Rattle.std.proofs.Common.{ℕ, List, sym, ap, ◌∙◌, refl, map-id, arith}
use Rattle.std.proofs.lemmas.Iterator.Adapters.{YieldsList-from_vec}
use Rattle.std.proofs.lemmas.Iterator.Consumers.{YieldsList-end}
use Rattle.std.proofs.lemmas.List.Sums.{fold_push}
use Rattle.mp_rules.specs.declared.entry.Local.{Local}
use Rattle.listing_rules.specs.Names.{with_local}
use Rattle.dir_reader.specs.Gathered.{found_in, with_children}
use Rattle.dir_reader.proofs.names.show_children.Goals as goal

pub loop-name-init : goal.loop-name-init
loop-name-init c = refl

pub loop-name-preserved : goal.loop-name-preserved
loop-name-preserved c =
    c.in_ok-show_local.ensures
    ∙ ap (with_local c.in-Some.name c.in-Some.local) c.loop-name.invariant
    ∙ sym (fold_push (λ found child. with_local child.0 child.1 found) (found_in c.args.names.now) c.loop-name.yielded (c.in-Some.name, c.in-Some.local))

pub returns : goal.returns
returns c =
    let all = c.into_iter-name-iterator.ensures.into_iter_gives in
    let end = YieldsList-end (YieldsList-from_vec {s = c.into_iter-name-iterator.result} c.args.children.items all.0 (omega (arith, all.1, c.args.children.ok.0))) c.loop-name.yielded c.loop-name.name-iterator c.loop-name.yielded_by c.next.result c.next.new.self c.in-None.is c.next.ensures.steps in
    c.loop-name.invariant ∙ ap (λ (children : List (List ℕ × Local)). with_children children (found_in c.args.names.now)) (sym (map-id c.loop-name.yielded) ∙ end.0)
