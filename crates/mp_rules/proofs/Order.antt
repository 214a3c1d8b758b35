-- Names in the order of a listing.
use Rattle.std.proofs.Common.{◌≡◌, ℕ, List, [], ◌∷◌, ◌++◌, sym, ap, ◌∙◌}
use Rattle.std.specs.declared.cmp.Ordering.TheVariants.{Equal}
use Rattle.std.specs.Ordering.{is_eq}
use Rattle.std.specs.Cmp.{IsTotalOrder}
use Rattle.std.specs.Cmp.Lexicographic.{on_texts, same_text, texts_ties}
use Rattle.std.proofs.lemmas.List.{append_cancel_right}
use Rattle.mp_types.specs.Path.{slash}
use Rattle.mp_rules.specs.Names.{name_cmp}

pub total : IsTotalOrder name_cmp
total = on_texts (λ (name : List ℕ). name ++ slash ∷ [])

-- two names with one order are one
pub distinct : (a b : List ℕ) → name_cmp a b ≡ Equal → a ≡ b
distinct a b tie = append_cancel_right a b (slash ∷ []) (same_text (a ++ slash ∷ []) (b ++ slash ∷ []) (sym (texts_ties (a ++ slash ∷ []) (b ++ slash ∷ []) ∙ ap is_eq tie)))
