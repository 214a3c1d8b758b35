-- Numbers that stop at a greatest one.
use Rattle.std.proofs.Common.{◌≡◌, ℕ, ◌+◌, ◌-◌, ◌*◌, ◌<◌, List, [], ◌∷◌, length, drop, get_or, min, refl, sym, ap, ◌∙◌, arith, add-one, drop-cons}
use Rattle.std.specs.List.{fold}

abbrev pub more : ℕ → ℕ → ℕ
more n digit = 10 * n + (digit - 48)

capped : (most a b : ℕ) (digits : List ℕ) → min most a ≡ min most b → min most (fold more a digits) ≡ min most (fold more b digits)
capped most a b [] same = same
capped most a b (digit ∷ digits) same = capped most (more a digit) (more b digit) digits (omega arith)

pub next_digit : (most number now i total : ℕ) (digits : List ℕ) → i < length digits → now ≡ min most (10 * number + (get_or digits i 0 - 48))
    → min most (fold more number (drop i digits)) ≡ total → min most (fold more now (drop (i + 1) digits)) ≡ total
next_digit most number now i total digits lt is so_far =
    let here : fold more number (drop i digits) ≡ fold more (more number (get_or digits i 0)) (drop (i + 1) digits) = rw (drop-cons digits i 0 lt, add-one) refl in
    let same : min most now ≡ min most (more number (get_or digits i 0)) = omega arith in
    capped most now (more number (get_or digits i 0)) (drop (i + 1) digits) same ∙ ap (λ (n : ℕ). min most n) (sym here) ∙ so_far
