-- One reading more is told as long as it can be counted.
use Rattle.std.proofs.Common.{◌≡◌, ℕ, suc, ◌+◌, List, [], ◌∷◌, ◌++◌, min, Bool, true, false, cond, nat_lt, Some, None, refl, sym, ap, ◌∙◌, arith}
use Rattle.std.proofs.lemmas.Bool.Decides.{nat_tests}
use Rattle.mp_io.specs.Bytes.{Gives}
use Rattle.mp_io.specs.Readings.{reading_after, given}

told_while : (counts counted : Bool) (told now_told : List ℕ) (reading : ℕ) → (counted ≡ true → counts ≡ true) → (counted ≡ true → now_told ≡ told ++ reading ∷ []) → Gives (cond counts (Some told) None) reading (cond counted (Some now_told) None)
told_while true true told now_told reading earlier longer = longer refl
told_while true false told now_told reading earlier longer = tt
told_while false true told now_told reading earlier longer = absurd (cc (earlier refl))
told_while false false told now_told reading earlier longer = tt

counts_before : (count last : ℕ) → nat_lt (min (count + 1) last) last ≡ true → nat_lt count last ≡ true
counts_before count last counts = grind (arith, nat_tests)

counts_one : (count last : ℕ) → nat_lt (min (count + 1) last) last ≡ true → min (count + 1) last ≡ suc count
counts_one count last counts = grind (arith, nat_tests)

pub given-next : (readings : List ℕ) (count last reading : ℕ) → reading ≡ reading_after readings count → Gives (cond (nat_lt count last) (Some (given readings count)) None) reading (cond (nat_lt (min (count + 1) last) last) (Some (given readings (min (count + 1) last))) None)
given-next readings count last reading is =
    told_while _ _ _ _ reading (counts_before count last) (λ counts. ap (given readings) (counts_one count last counts) ∙ ap (λ r. given readings count ++ r ∷ []) (sym is))
