-- A text that begins with another one and a `/`.
use Rattle.std.proofs.Common.{◌≡◌, ℕ, ◌-◌, Bool, true, false, ◌&&◌, List, [], ◌∷◌, ◌++◌, length, take, drop, length-drop, refl, sym, ap, ◌∙◌, eqb, arith}
use Rattle.std.proofs.Math.Seq.{take_all}
use Rattle.std.specs.Prelude.{nat_eq}
use Rattle.std.specs.List.{starts_with}
use Rattle.mp_types.specs.Path.{slash}
use Rattle.mp_rules.specs.Keys.{is_below}

both_and : (a b c whole : Bool) → whole ≡ (b && c) → (a && whole) ≡ ((a && b) && c)
both_and true b c whole is = is
both_and false b c whole is = refl

-- it begins with the other, and then comes a `/`
begins : (key above : List ℕ) → starts_with nat_eq key (above ++ slash ∷ []) ≡ (starts_with nat_eq key above && starts_with nat_eq (drop (length above) key) (slash ∷ []))
begins key [] = refl
begins [] (x ∷ above) = refl
begins (k ∷ key) (x ∷ above) =
    both_and (nat_eq x k) (starts_with nat_eq key above) (starts_with nat_eq (drop (length above) key) (slash ∷ [])) (starts_with nat_eq key (above ++ slash ∷ [])) (begins key above)

-- it begins with the other, which is not empty
pub then_slash : (key above : List ℕ) (r : Bool) → eqb (length above) 0 ≡ false → starts_with nat_eq key above ≡ true → r ≡ starts_with nat_eq (take (length key - length above) (drop (length above) key)) (slash ∷ []) → r ≡ is_below key above
then_slash key [] r some front next = absurd (cc)
then_slash key (x ∷ above) r some front next =
    let rest : List ℕ = drop (length (x ∷ above)) key in
    let whole = take_all (length key - length (x ∷ above)) rest (omega (arith, length-drop (length (x ∷ above)) key)) in
    next ∙ ap (λ (text : List ℕ). starts_with nat_eq text (slash ∷ [])) whole ∙ sym (begins key (x ∷ above) ∙ ap (λ (b : Bool). b && starts_with nat_eq (drop (length (x ∷ above)) key) (slash ∷ [])) front)

-- it doesn't
pub other_front : (key above : List ℕ) (r : Bool) → eqb (length above) 0 ≡ false → r ≡ starts_with nat_eq key above → r ≡ false → r ≡ is_below key above
other_front key [] r some front is = absurd (cc)
other_front key (x ∷ above) r some front is =
    is ∙ sym (begins key (x ∷ above) ∙ ap (λ (b : Bool). b && starts_with nat_eq (drop (length (x ∷ above)) key) (slash ∷ [])) (sym front ∙ is))
