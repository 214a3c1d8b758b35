-- The lines that a journal knows.
use Rattle.std.proofs.Common.{◌≡◌, ℕ, ◌+◌, ◌<◌, Bool, true, false, eqb, cond, ◌&&◌, ◌||◌, List, [], ◌∷◌, length, get_or, take, Option, Some, None, refl, sym, ap, ◌∙◌, arith}
use Rattle.std.specs.Map.{lookup, keys_of}
use Rattle.std.specs.Option.{is_some, option_flatten}
use Rattle.std.specs.Ordering.{nat_cmp, is_eq}
use Rattle.std.proofs.lemmas.Bool.Decides.{nat_tests}
use Rattle.std.proofs.lemmas.List.{take_more}
use Rattle.std.proofs.lemmas.List.Folds.{list_all-append}
use Rattle.mount_model.specs.declared.request.Line.{Line}
use Rattle.mount_model.specs.Run.{is_among}
use Rattle.job_table.specs.Journal.{all_known}

-- a number is known where the table has an entry at it
pub known-get : {V : Type 0} (n : ℕ) (entries : List (ℕ × V)) → is_some (lookup (λ k. is_eq (nat_cmp n k)) entries) ≡ is_among n (keys_of entries)
known-get n [] = refl
known-get n (entry ∷ entries) =
    let here : is_eq (nat_cmp n entry.0) ≡ eqb entry.0 n = grind (arith, nat_tests) in
    at_one (is_eq (nat_cmp n entry.0)) (eqb entry.0 n) here (known-get n entries)
  where
    at_one : (a b : Bool) → a ≡ b → is_some (lookup (λ k. is_eq (nat_cmp n k)) entries) ≡ is_among n (keys_of entries) → is_some (cond a (Some entry.1) (lookup (λ k. is_eq (nat_cmp n k)) entries)) ≡ (b || is_among n (keys_of entries))
    at_one true b e below = rw (← e) refl
    at_one false b e below = rw (← e) below

-- a table with one number more
module _ (line : ℕ) (old new : List (ℕ × Option ℕ)) (updates : (q : ℕ) → lookup (λ k. is_eq (nat_cmp q k)) new ≡ cond (is_eq (nat_cmp line q)) (Some None) (lookup (λ k. is_eq (nat_cmp q k)) old)) where
  pub none_noted : (q : ℕ) → option_flatten (lookup (λ k. is_eq (nat_cmp q k)) old) ≡ None → option_flatten (lookup (λ k. is_eq (nat_cmp q k)) new) ≡ None
  none_noted q none = ap option_flatten (updates q) ∙ at_one (is_eq (nat_cmp line q))
    where
      at_one : (b : Bool) → option_flatten (cond b (Some None) (lookup (λ k. is_eq (nat_cmp q k)) old)) ≡ None
      at_one true = refl
      at_one false = none

  known_still : (q : ℕ) → is_among q (keys_of old) ≡ true → is_among q (keys_of new) ≡ true
  known_still q there = sym (known-get q new) ∙ (ap is_some (updates q) ∙ at_one (is_eq (nat_cmp line q)))
    where
      at_one : (b : Bool) → is_some (cond b (Some None) (lookup (λ k. is_eq (nat_cmp q k)) old)) ≡ true
      at_one true = refl
      at_one false = known-get q old ∙ there

  all_known_still : (lines : List Line) → all_known (keys_of old) lines ≡ true → all_known (keys_of new) lines ≡ true
  all_known_still [] all = refl
  all_known_still (l ∷ lines) all = at_one (is_among l.number (keys_of old)) refl all (all_known_still lines)
    where
      at_one : (b : Bool) → is_among l.number (keys_of old) ≡ b → (b && all_known (keys_of old) lines) ≡ true → (all_known (keys_of old) lines ≡ true → all_known (keys_of new) lines ≡ true) → all_known (keys_of new) (l ∷ lines) ≡ true
      at_one true e all below = rw (known_still l.number e) (below all)
      at_one false e all below = absurd (cc)

  pub all_known_more : (lines : List Line) (i : ℕ) (l : Line) → i < length lines → l ≡ get_or lines i l → is_among l.number (keys_of new) ≡ true → all_known (keys_of old) (take i lines) ≡ true → all_known (keys_of new) (take (i + 1) lines) ≡ true
  all_known_more lines i l within is here all =
      let p : Line → Bool = λ m. is_among m.number (keys_of new) in
      rw (take_more lines i l within, ← is) (list_all-append p (take i lines) (l ∷ []) ∙ (rw (all_known_still (take i lines) all, here) refl))
