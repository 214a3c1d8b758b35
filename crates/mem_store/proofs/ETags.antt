-- The ETags of versions are ETags, and no two versions have the same.
use Rattle.std.proofs.Common.{◌≡◌, ℕ, ◌+◌, ◌<◌, ◌≤◌, ◌^◌, ◌%◌, true, ◌&&◌, [], ◌∷◌, length, not, refl, ◌∙◌, arith, lit<}
use Rattle.std.specs.Prelude.{◌==◌, nat_le}
use Rattle.std.specs.Fmt.{decimal}
use Rattle.std.specs.List.{list_all}
use Rattle.std.proofs.lemmas.Bool.{and_from}
use Rattle.std.proofs.lemmas.Fmt.{decimal_by_steps, length-decimal-le, decimal_injective}
use Rattle.std.proofs.lemmas.List.Folds.{list_all-append}
use Rattle.std.proofs.lemmas.Bool.Decides.{nat_tests}
use Rattle.mp_types.specs.ETag.{is_etag, is_etag_byte}
use Rattle.mem_store.specs.Served.{etag_of_version}

digit : (n : ℕ) → n < 10 → is_etag_byte (48 + n) ≡ true
digit n small = grind (arith, nat_tests)

one_digit : (n : ℕ) → n < 10 → list_all is_etag_byte ((48 + n) ∷ []) ≡ true
one_digit n small = and_from (is_etag_byte (48 + n)) true (digit n small) refl

digits : (n : ℕ) → n < 2 ^ 64 → list_all is_etag_byte (decimal n) ≡ true
digits n small =
    decimal_by_steps (λ _ ds. list_all is_etag_byte ds ≡ true)
    (λ m low. one_digit m low)
    (λ m ds high h. list_all-append is_etag_byte ds _ ∙ and_from _ _ h (one_digit (m % 10) (omega arith))) n small

bounded : (n : ℕ) → 0 < n → n ≤ 64 → (not (n == 0) && nat_le n 64) ≡ true
bounded n low high = grind (arith, nat_tests)

pub version_is_etag : (n : ℕ) → n < 2 ^ 64 → is_etag (etag_of_version n) ≡ true
version_is_etag n small =
    let short : length (decimal n) ≤ 20 = length-decimal-le 20 n (lit< tt) (omega arith) small in
    and_from (not (length (118 ∷ decimal n) == 0) && nat_le (length (118 ∷ decimal n)) 64) (list_all is_etag_byte (decimal n)) (bounded (length (118 ∷ decimal n)) (omega arith) (omega arith)) (digits n small)

pub version_etags_differ : (m n : ℕ) → m < 2 ^ 64 → n < 2 ^ 64 → etag_of_version m ≡ etag_of_version n → m ≡ n
version_etags_differ m n low high same = decimal_injective m n low high (cc)
