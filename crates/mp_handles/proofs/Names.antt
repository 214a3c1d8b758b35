-- The order of names is total, and tells all names apart.
use Rattle.std.proofs.Common.{◌≡◌, true, Equal}
use Rattle.std.specs.Cmp.{IsTotalOrder, then_total, on_total, nat_cmp_total, Equal-is, eq_by_cmp_equiv}
use Rattle.std.specs.Ordering.{nat_cmp, eq_by_cmp}
use Rattle.std.proofs.lemmas.Map.Lookups.{exact_pairs, exact_unsigned}
use Rattle.mp_types.specs.HandleName.{HandleName, name_cmp}

pub name_cmp_total : IsTotalOrder name_cmp
name_cmp_total = then_total (on_total (λ (n : HandleName). n.0) nat_cmp_total) (on_total (λ (n : HandleName). n.1) nat_cmp_total)

pub exact_names : (x y : HandleName) → name_cmp x y ≡ Equal → x ≡ y
exact_names = exact_pairs nat_cmp nat_cmp exact_unsigned exact_unsigned

pub same_name : (x y : HandleName) → eq_by_cmp name_cmp x y ≡ true → x ≡ y
same_name x y e = exact_names x y ((Equal-is (name_cmp x y)).0 e)

pub name_is_itself : (x : HandleName) → eq_by_cmp name_cmp x x ≡ true
name_is_itself = (eq_by_cmp_equiv name_cmp_total).refl

pub either_way : (x y : HandleName) → eq_by_cmp name_cmp x y ≡ eq_by_cmp name_cmp y x
either_way = (eq_by_cmp_equiv name_cmp_total).symm
