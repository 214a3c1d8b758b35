use Rattle.std.proofs.Common.{◌≡◌, Some, nat_cmp, refl}
use Rattle.std.proofs.lemmas.Iterator.Adapters.{YieldsList-from_once, YieldsList-from_bytes}
use Rattle.std.proofs.lemmas.Iterator.Consumers.{YieldsList-from_chain}
use Rattle.std.proofs.lemmas.Iterator.Search.{cmp_from_yields_List}
use Rattle.mp_rules.proofs.names.name_order.Goals as goal

pub returns : goal.returns
returns c =
    cmp_from_yields_List (λ x y. y ≡ x) _ nat_cmp _ c.cmp.ensures.ran (YieldsList-from_chain (YieldsList-from_bytes c.args.a.now (cc)) (YieldsList-from_once (Some 47) (cc)) (cc) (cc))
    (λ it e. YieldsList-from_chain (YieldsList-from_bytes c.args.b.now (cc)) (YieldsList-from_once (Some 47) (cc)) (cc) (cc)) (λ x y. refl)
