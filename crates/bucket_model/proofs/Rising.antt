-- Lists whose elements stand in the order of their texts.
use Rattle.std.proofs.Common.{◌≡◌, ℕ, Bool, true, false, cond, List, [], ◌∷◌, ◌++◌, refl, sym, ap, ◌∙◌, subst, filter}
use Rattle.std.specs.Cmp.Lexicographic.{pointwise}
use Rattle.std.specs.List.{dedup, dedup_from}
use Rattle.std.specs.Prelude.{nat_eq}
use Rattle.std.proofs.lemmas.Slice.Eq.{bytes_eq-Decides}
use Rattle.bucket_model.proofs.Order.{is_before, both_answers, false_unless, true_unless, not_before_itself, same_place, before_upto, before_before}

-- every later text passes where an earlier one does
abbrev pub IsUpward : (List ℕ → Bool) → Type 0
IsUpward test = (a b : List ℕ) → is_before a b ≡ true → test a ≡ true → test b ≡ true

-- the first of what a test leaves has passed
passes_by : {X : Type 0} (test : X → Bool) (x first : X) (xs rest : List X) (b : Bool) → test x ≡ b → cond b (x ∷ xs) xs ≡ first ∷ rest → (xs ≡ first ∷ rest → test first ≡ true) → test first ≡ true
passes_by test x first xs rest true at is more = let same : x ≡ first = cc in ap test (sym same) ∙ at
passes_by test x first xs rest false at is more = more is

pub first_passes : {X : Type 0} (test : X → Bool) (xs : List X) (first : X) (rest : List X) → filter test xs ≡ first ∷ rest → test first ≡ true
first_passes test [] first rest is = absurd (cc)
first_passes test (x ∷ xs) first rest is = passes_by test x first (filter test xs) rest (test x) refl is (first_passes test xs first rest)

module _ {X : Type 0} (text : X → List ℕ) where
  abbrev pub AllBehind : List ℕ → List X → Type 0
  AllBehind start [] = Unit {0}
  AllBehind start (x ∷ xs) = (is_before start (text x) ≡ true) × AllBehind start xs

  -- the texts strictly rise
  abbrev pub Rises : List X → Type 0
  Rises [] = Unit {0}
  Rises (x ∷ xs) = AllBehind (text x) xs × Rises xs

  abbrev pub AllFrom : List ℕ → List X → Type 0
  AllFrom start [] = Unit {0}
  AllFrom start (x ∷ xs) = (is_before (text x) start ≡ false) × AllFrom start xs

  -- no text is before an earlier one
  abbrev pub Climbs : List X → Type 0
  Climbs [] = Unit {0}
  Climbs (x ∷ xs) = AllFrom (text x) xs × Climbs xs

  abbrev pub behind : List ℕ → List X → List X
  behind start xs = filter (λ x. is_before start (text x)) xs

  abbrev pub is_same : X → X → Bool
  is_same a b = pointwise nat_eq (text a) (text b)

  kept : (x : X) (xs left : List X) (b : Bool) → b ≡ true → left ≡ xs → cond b (x ∷ left) left ≡ x ∷ xs
  kept x xs left true at is = ap (λ l. x ∷ l) is
  kept x xs left false at is = absurd (cc)

  pub all_pass : (test : List ℕ → Bool) (start : List ℕ) (xs : List X) → IsUpward test → test start ≡ true → AllBehind start xs → filter (λ x. test (text x)) xs ≡ xs
  all_pass test start [] upward passes all = refl
  all_pass test start (x ∷ xs) upward passes all = kept x xs _ (test (text x)) (upward start (text x) all.0 passes) (all_pass test start xs upward passes all.1)

  pub all_behind : (start : List ℕ) (xs : List X) → AllBehind start xs → behind start xs ≡ xs
  all_behind start [] all = refl
  all_behind start (x ∷ xs) all = kept x xs _ (is_before start (text x)) all.0 (all_behind start xs all.1)

  left_out : (x : X) (xs left : List X) (b : Bool) → b ≡ false → left ≡ xs → cond b (x ∷ left) left ≡ xs
  left_out x xs left true at is = absurd (cc)
  left_out x xs left false at is = is

  -- what stands behind the first of what such a test leaves is the rest of it
  rest_by : (test : List ℕ → Bool) (x first : X) (xs rest : List X) (b : Bool) → test (text x) ≡ b → IsUpward test → AllBehind (text x) xs
      → cond b (x ∷ filter (λ y. test (text y)) xs) (filter (λ y. test (text y)) xs) ≡ first ∷ rest
      → (filter (λ y. test (text y)) xs ≡ first ∷ rest → behind (text first) xs ≡ rest) → behind (text first) (x ∷ xs) ≡ rest
  rest_by test x first xs rest true at upward all is more =
      let same : x ≡ first = cc in
      let left : filter (λ y. test (text y)) xs ≡ rest = cc in
      let P : X → Type 0 = λ y. behind (text y) (x ∷ xs) ≡ rest in
      subst P same
      (left_out x rest (behind (text x) xs) (is_before (text x) (text x)) (not_before_itself (text x)) (all_behind (text x) xs all ∙ sym (all_pass test (text x) xs upward at all) ∙ left))
  rest_by test x first xs rest false at upward all is more =
      let passes = first_passes (λ y. test (text y)) xs first rest is in
      left_out x rest (behind (text first) xs) (is_before (text first) (text x)) (false_unless _ (λ wrong. both_answers (test (text x)) (upward (text first) (text x) wrong passes) at)) (more is)

  pub behind_first : (test : List ℕ → Bool) (xs : List X) (first : X) (rest : List X) → IsUpward test → Rises xs → filter (λ x. test (text x)) xs ≡ first ∷ rest → behind (text first) xs ≡ rest
  behind_first test [] first rest upward rises is = absurd (cc)
  behind_first test (x ∷ xs) first rest upward rises is = rest_by test x first xs rest (test (text x)) refl upward rises.0 is (behind_first test xs first rest upward rises.1)

  pub behind_upward : (start : List ℕ) → IsUpward (λ t. is_before start t)
  behind_upward start a b less passes = before_before start a b passes less

  -- what stands behind the last of the first ones is all but these
  pub behind_last : (start : List ℕ) (xs front : List X) (last : X) (rest : List X) → Rises xs → behind start xs ≡ front ++ last ∷ rest → behind (text last) xs ≡ rest
  behind_last start xs [] last rest rises is = behind_first (λ t. is_before start t) xs last rest (behind_upward start) rises is
  behind_last start xs (x ∷ front) last rest rises is = behind_last (text x) xs front last rest rises (behind_first (λ t. is_before start t) xs x (front ++ last ∷ rest) (behind_upward start) rises is)

  -- elements of one text once: the texts strictly rise then
  pub behind_from : (start middle : List ℕ) (xs : List X) → is_before start middle ≡ true → AllFrom middle xs → AllBehind start xs
  behind_from start middle [] less all = tt
  behind_from start middle (x ∷ xs) less all = (before_upto start middle (text x) less all.0, behind_from start middle xs less all.1)

  climbs_on : (k x : X) → is_before (text x) (text k) ≡ false → is_same x k ≡ false → is_before (text k) (text x) ≡ true
  climbs_on k x from other = true_unless _ (λ wrong. both_answers (is_same x k) ((bytes_eq-Decides (text x) (text k)).1 (same_place (text x) (text k) from wrong)) other)

  mutual_by : (start : List ℕ) (k x : X) (xs : List X) (b : Bool) → is_before start (text k) ≡ true → AllBehind start (dedup_from is_same k xs) → AllBehind start (dedup_from is_same x xs) → AllBehind start (cond b (dedup_from is_same k xs) (k ∷ dedup_from is_same x xs))
  mutual_by start k x xs true less all other = all
  mutual_by start k x xs false less all other = (less, other)

  once_behind : (start : List ℕ) (k : X) (xs : List X) → is_before start (text k) ≡ true → Climbs (k ∷ xs) → AllBehind start (dedup_from is_same k xs)
  once_behind start k [] less climbs = (less, tt)
  once_behind start k (x ∷ xs) less climbs =
      mutual_by start k x xs (is_same x k) less (once_behind start k xs less (climbs.0.1, climbs.1.1)) (once_behind start x xs (before_upto start (text k) (text x) less climbs.0.0) climbs.1)

  once_by : (k x : X) (xs : List X) (b : Bool) → is_same x k ≡ b → Climbs (k ∷ x ∷ xs) → Rises (dedup_from is_same k xs) → Rises (dedup_from is_same x xs) → Rises (cond b (dedup_from is_same k xs) (k ∷ dedup_from is_same x xs))
  once_by k x xs true at climbs same other = same
  once_by k x xs false at climbs same other = (once_behind (text k) x xs (climbs_on k x climbs.0.0 at) climbs.1, other)

  once_rises_from : (k : X) (xs : List X) → Climbs (k ∷ xs) → Rises (dedup_from is_same k xs)
  once_rises_from k [] climbs = (tt, tt)
  once_rises_from k (x ∷ xs) climbs = once_by k x xs (is_same x k) refl climbs (once_rises_from k xs (climbs.0.1, climbs.1.1)) (once_rises_from x xs climbs.1)

  pub once_rises : (xs : List X) → Climbs xs → Rises (dedup is_same xs)
  once_rises [] climbs = tt
  once_rises (x ∷ xs) climbs = once_rises_from x xs climbs

  -- what stands behind a text, before or after equal ones are taken away
  once_all : (start : List ℕ) (k : X) (xs : List X) → is_before start (text k) ≡ true → Climbs (k ∷ xs) → behind start (dedup_from is_same k xs) ≡ dedup is_same (behind start (k ∷ xs))
  once_all start k xs less climbs =
      let all = all_behind start (dedup_from is_same k xs) (once_behind start k xs less climbs) in
      let same = all_behind start (k ∷ xs) (less, behind_from start (text k) xs less climbs.0) in
      all ∙ sym (ap (dedup is_same) same)

  out : (start : List ℕ) (k : X) (xs : List X) → is_before start (text k) ≡ false → behind start (k ∷ xs) ≡ behind start xs
  out start k xs at = left_out k (behind start xs) (behind start xs) (is_before start (text k)) at refl

  none_by : (start : List ℕ) (k x : X) (xs : List X) (b : Bool) → is_same x k ≡ b → is_before start (text k) ≡ false → behind start (dedup_from is_same k xs) ≡ dedup is_same (behind start (k ∷ xs))
      → behind start (dedup_from is_same x xs) ≡ dedup is_same (behind start (x ∷ xs)) → behind start (cond b (dedup_from is_same k xs) (k ∷ dedup_from is_same x xs)) ≡ dedup is_same (behind start (k ∷ x ∷ xs))
  none_by start k x xs true at not_behind same other =
      let texts = (bytes_eq-Decides (text x) (text k)).0 at in
      same ∙ ap (dedup is_same) (out start k xs not_behind ∙ sym (out start x xs (ap (is_before start) texts ∙ not_behind)) ∙ sym (out start k (x ∷ xs) not_behind))
  none_by start k x xs false at not_behind same other = out start k (dedup_from is_same x xs) not_behind ∙ other ∙ ap (dedup is_same) (sym (out start k (x ∷ xs) not_behind))

  mutual_once : (start : List ℕ) (k : X) (xs : List X) (b : Bool) → is_before start (text k) ≡ b → Climbs (k ∷ xs) → (is_before start (text k) ≡ false → behind start (dedup_from is_same k xs) ≡ dedup is_same (behind start (k ∷ xs)))
      → behind start (dedup_from is_same k xs) ≡ dedup is_same (behind start (k ∷ xs))
  mutual_once start k xs true at climbs less = once_all start k xs at climbs
  mutual_once start k xs false at climbs less = less at

  behind_once_from : (start : List ℕ) (k : X) (xs : List X) → Climbs (k ∷ xs) → behind start (dedup_from is_same k xs) ≡ dedup is_same (behind start (k ∷ xs))
  behind_once_from start k [] climbs = mutual_once start k [] (is_before start (text k)) refl climbs (λ at. out start k [] at ∙ sym (ap (dedup is_same) (out start k [] at)))
  behind_once_from start k (x ∷ xs) climbs =
      mutual_once start k (x ∷ xs) (is_before start (text k)) refl climbs
      (λ at. none_by start k x xs (is_same x k) refl at (behind_once_from start k xs (climbs.0.1, climbs.1.1)) (behind_once_from start x xs climbs.1))

  pub behind_once : (start : List ℕ) (xs : List X) → Climbs xs → behind start (dedup is_same xs) ≡ dedup is_same (behind start xs)
  behind_once start [] climbs = refl
  behind_once start (x ∷ xs) climbs = behind_once_from start x xs climbs
