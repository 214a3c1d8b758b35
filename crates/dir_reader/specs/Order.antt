-- The laws of the order of names, as a table of them needs it.
use Rattle.std.specs.Prelude.{ℕ, List, [], ◌∷◌, ◌++◌, Bool, Some, refl}
use Rattle.std.specs.Cmp.{IsEquivalence, IsPartialEquivalence, IsPartialOrder, IsTotalOrder, eq_by_cmp_equiv, partial_equiv_from_equiv, partial_order_from_agreeing_total}
use Rattle.std.specs.Cmp.Lexicographic.{on_texts}
use Rattle.std.specs.Ordering.{eq_by_cmp}
use Rattle.mp_types.specs.Path.{slash}
use Rattle.mp_rules.specs.Names.{name_cmp}

abbrev pub is_same_name : List ℕ → List ℕ → Bool
is_same_name = eq_by_cmp name_cmp

pub names_total : IsTotalOrder name_cmp
names_total = on_texts (λ name. name ++ slash ∷ [])

pub names_equiv : IsEquivalence is_same_name
names_equiv = eq_by_cmp_equiv names_total

pub names_per : IsPartialEquivalence is_same_name
names_per = partial_equiv_from_equiv names_equiv

pub names_po : IsPartialOrder is_same_name (λ a b. Some (name_cmp a b))
names_po = partial_order_from_agreeing_total name_cmp names_total (λ a b. refl) (λ a b. refl)
