use Rattle.std.proofs.Common.{◌≡◌, ◌+◌, ◌++◌, List, ℕ, length, take, IfOk, IsCharBoundary, IsUtf8, sym, ap, ◌∙◌, subst}
use Rattle.mem_store.proofs.Cuts.{front_at}
use Rattle.mem_store.proofs.listing.shared_front.Goals as goal

pub front-requires : goal.front-requires
front-requires c =
    subst (λ (p : List ℕ). IsCharBoundary c.args.key.now (length p + length c.args.name.now + 1)) (sym c.as_str.ensures)
    (front_at c.args.key.now c.args.prefix.now c.args.name.now c.requires.0 (subst IsUtf8 c.as_str-text.ensures c.as_str-text.utf8) c.requires.1 c.requires.2).may

pub returns : goal.returns
returns c =
    subst (λ (t : List ℕ). IfOk c.front.result (λ front. front ≡ t))
    (ap (λ (p : List ℕ). take (length p + length c.args.name.now + 1) c.args.key.now) c.as_str.ensures
    ∙ (front_at c.args.key.now c.args.prefix.now c.args.name.now c.requires.0 (subst IsUtf8 c.as_str-text.ensures c.as_str-text.utf8) c.requires.1 c.requires.2).front)
    c.front.ensures
