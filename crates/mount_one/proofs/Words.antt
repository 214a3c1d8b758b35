-- Whether a list of words is the one word that is asked for.
use Rattle.std.proofs.Common.{◌≡◌, ℕ, ◌<◌, ◌≤◌, Bool, true, false, IsTrue, nat_eq, List, [], ◌∷◌, length, get_or, refl, sym, ap, ◌∙◌, arith}
use Rattle.std.specs.Cmp.Lexicographic.{pointwise, same_text, other_text}

one_word : (words : List (List ℕ)) (word : List ℕ) → 1 ≤ length words → length words < 2 → word ≡ get_or words 0 word → words ≡ word ∷ []
one_word [] word some few first = absurd (omega (arith, some))
one_word (w ∷ []) word some few first = ap (λ x. x ∷ []) (sym first)
one_word (w ∷ v ∷ words) word some few first = absurd (omega (arith, few))

same_word : (b : Bool) (text word : List ℕ) (words : List (List ℕ)) → words ≡ word ∷ [] → b ≡ pointwise nat_eq word text → (IsTrue b → words ≡ text ∷ []) × (words ≡ text ∷ [] → IsTrue b)
same_word true text word words alone told = (λ _. alone ∙ ap (λ x. x ∷ []) (same_text word text told), λ _. refl)
same_word false text word words alone told = (λ is. absurd (cc), λ same. absurd (other_text word text told (let e : word ∷ [] ≡ text ∷ [] = sym alone ∙ same in cc)))

pub is_word : (b : Bool) (text word : List ℕ) (words : List (List ℕ)) → 1 ≤ length words → length words < 2 → word ≡ get_or words 0 word → b ≡ pointwise nat_eq word text → (IsTrue b → words ≡ text ∷ []) × (words ≡ text ∷ [] → IsTrue b)
is_word b text word words some few first told = same_word b text word words (one_word words word some few first) told
