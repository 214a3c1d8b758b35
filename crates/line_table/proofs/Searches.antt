-- Binary search among values whose keys rise, and what changes at the place that it finds.
use Rattle.std.proofs.Common.{◌≡◌, ℕ, zero, suc, ◌<◌, ◌≤◌, List, [], ◌∷◌, length, get_or, set, map, find, Bool, true, false, ◌==◌, if◌then◌else◌, Some, None, slice_get, Result, Ok, Err, MatchResult, refl, sym, ap, ◌∙◌, arith}
use Rattle.std.specs.List.{insert, remove}
use Rattle.std.specs.List.Sorted.{IsSearchInRange, IsBinarySearchResult, IsNonDecreasingBy}
use Rattle.std.specs.Ordering.{nat_cmp, ordering_index}
use Rattle.std.proofs.lemmas.Cmp.{ranked}
use Rattle.std.proofs.lemmas.Option.{slice_get-get_or, slice_get_within, get_or_from_slice_get}
use Rattle.std.proofs.lemmas.Bool.{eq-eqb}
use Rattle.std.proofs.lemmas.Bool.Decides.{nat_tests}
use Rattle.std.proofs.Math.Bool.{or-true}
use Rattle.mount_model.specs.Run.{is_among}
use Rattle.line_table.specs.Table.{RisingBy, AreAbove, put_in}

-- the value at the place has the key
pub record HasPlace {X : Type 0} (key : X → ℕ) (k : ℕ) (xs : List X) (at : ℕ) : Type 0 where
  pub value : X
  pub stands : slice_get xs at ≡ Some value
  pub has_key : key value ≡ k

-- the keys before the place are lower, and from it on higher
pub record HasGap {X : Type 0} (key : X → ℕ) (k : ℕ) (xs : List X) (at : ℕ) : Type 0 where
  pub in_range : at ≤ length xs
  pub below : (j : ℕ) (d : X) → j < at → key (get_or xs j d) < k
  pub above : (j : ℕ) (d : X) → at ≤ j → j < length xs → k < key (get_or xs j d)

module _ {X : Type 0} (key : X → ℕ) where
  pub rising_above : (above : ℕ) (xs : List X) → RisingBy key above xs → (j : ℕ) (d : X) → j < length xs → above < key (get_or xs j d)
  rising_above above [] rising j d within = absurd (omega arith)
  rising_above above (x ∷ xs) rising zero d within = rising.0
  rising_above above (x ∷ xs) rising (suc j) d within = omega (arith, rising.0, rising_above (key x) xs rising.1 j d (omega arith))

  pub rising_lower : (low above : ℕ) (xs : List X) → low ≤ above → RisingBy key above xs → RisingBy key low xs
  rising_lower low above [] le rising = tt
  rising_lower low above (x ∷ xs) le rising = (omega (arith, rising.0), rising.1)

  rising_le : (above : ℕ) (xs : List X) → RisingBy key above xs → (i j : ℕ) (d : X) → i ≤ j → j < length xs → key (get_or xs i d) ≤ key (get_or xs j d)
  rising_le above [] rising i j d le within = absurd (omega arith)
  rising_le above (x ∷ xs) rising zero zero d le within = omega arith
  rising_le above (x ∷ xs) rising zero (suc j) d le within = omega (arith, rising_above (key x) xs rising.1 j d (omega arith))
  rising_le above (x ∷ xs) rising (suc i) zero d le within = absurd (omega arith)
  rising_le above (x ∷ xs) rising (suc i) (suc j) d le within = rising_le (key x) xs rising.1 i j d (omega arith) (omega arith)

  comparisons_rise : (k above : ℕ) (xs : List X) → RisingBy key above xs → IsNonDecreasingBy (λ x. ordering_index (nat_cmp (key x) k)) xs
  comparisons_rise k above xs rising i j d le within =
      let keys_rise : key (get_or xs i d) ≤ key (get_or xs j d) = rising_le above xs rising i j d le within in
      grind (arith, nat_tests)

  value_at : (k : ℕ) (xs : List X) (at : ℕ) (x : X) → slice_get xs at ≡ Some x → ((d : X) → key (get_or xs at d) ≡ k) → HasPlace key k xs at
  value_at k xs at x stands equal = record { value = x; stands = stands; has_key = rw (get_or_from_slice_get xs at x x stands) at (equal x) }

  place_within : (k : ℕ) (xs : List X) (at : ℕ) → at < length xs → ((d : X) → key (get_or xs at d) ≡ k) → HasPlace key k xs at
  place_within k [] at within equal = absurd (omega arith)
  place_within k (x ∷ xs) at within equal = value_at k (x ∷ xs) at (get_or (x ∷ xs) at x) (slice_get-get_or (x ∷ xs) at x within) equal

  -- what a binary search by the key finds
  pub searched : (k above : ℕ) (xs : List X) → RisingBy key above xs → (r : Result ℕ ℕ) → IsSearchInRange r (length xs) → IsBinarySearchResult (λ x. nat_cmp (key x) k) xs r → MatchResult r (HasPlace key k xs) (HasGap key k xs)
  searched k above xs rising (Ok at) in_range equal = place_within k xs at in_range (λ d. ranked _ k _ (sym (equal d)))
  searched k above xs rising (Err at) in_range parted = record {
    in_range = in_range;
    below = λ j d lt. ranked _ k _ (sym ((parted (comparisons_rise k above xs rising)).0 j d (omega arith) lt));
    above = λ j d le lt. ranked _ k _ (sym ((parted (comparisons_rise k above xs rising)).1 j d le lt));
  }

  -- a key with a gap isn't found
  gap_next : (k : ℕ) (x : X) (xs : List X) (at : ℕ) → HasGap key k (x ∷ xs) (suc at) → HasGap key k xs at
  gap_next k x xs at gap = record {
    in_range = omega (arith, gap.in_range);
    below = λ j d lt. gap.below (suc j) d (omega arith);
    above = λ j d le lt. gap.above (suc j) d (omega arith) (omega arith);
  }

  gap_zero : (k : ℕ) (x : X) (xs : List X) → HasGap key k (x ∷ xs) zero → HasGap key k xs zero
  gap_zero k x xs gap = record {
    in_range = omega arith;
    below = λ j d lt. absurd (omega arith);
    above = λ j d le lt. gap.above (suc j) d (omega arith) (omega arith);
  }

  pub none_in_gap : (k : ℕ) (xs : List X) (at : ℕ) → HasGap key k xs at → find (λ x. key x == k) xs ≡ None
  none_in_gap k [] at gap = refl
  none_in_gap k (x ∷ xs) zero gap = grind (arith, nat_tests, gap.above 0 x (omega arith) (omega arith), none_in_gap k xs zero (gap_zero k x xs gap))
  none_in_gap k (x ∷ xs) (suc at) gap = grind (arith, nat_tests, gap.below 0 x (omega arith), none_in_gap k xs at (gap_next k x xs at gap))

  pub none_above : (k : ℕ) (xs : List X) → RisingBy key k xs → find (λ x. key x == k) xs ≡ None
  none_above k xs rising = none_in_gap k xs zero (record { in_range = omega arith; below = λ j d lt. absurd (omega arith); above = λ j d le lt. rising_above k xs rising j d lt })

  -- a change by key does nothing where the key isn't
  pub change_none : (k : ℕ) (g : X → X) (xs : List X) → find (λ x. key x == k) xs ≡ None → map (λ x. if key x == k then g x else x) xs ≡ xs
  change_none k g [] none = refl
  change_none k g (x ∷ xs) none = by_test (key x == k) (change_none k g xs) none
    where
      by_test : (b : Bool) → (find (λ x. key x == k) xs ≡ None → map (λ x. if key x == k then g x else x) xs ≡ xs) → (if b then Some x else find (λ x. key x == k) xs) ≡ None → (if b then g x else x) ∷ map (λ x. if key x == k then g x else x) xs ≡ x ∷ xs
      by_test true same none = absurd (cc)
      by_test false same none = ap (λ ys. x ∷ ys) (same none)

  pub change_here : (k : ℕ) (g : X → X) (x : X) (xs : List X) → key x ≡ k → RisingBy key (key x) xs → map (λ x. if key x == k then g x else x) (x ∷ xs) ≡ g x ∷ xs
  change_here k g x xs same rising = rw (eq-eqb (key x) k same, change_none k g xs (none_above k xs (rw same at rising)))

  pub change_there : (k : ℕ) (g : X → X) (x : X) (xs : List X) → (key x == k) ≡ false → map (λ x. if key x == k then g x else x) (x ∷ xs) ≡ x ∷ map (λ x. if key x == k then g x else x) xs
  change_there k g x xs differs = rw differs

  pub above_at : (above : ℕ) (xs : List X) → RisingBy key above xs → (at : ℕ) (v : X) → slice_get xs at ≡ Some v → above < key v
  above_at above xs rising at v stands = rw (get_or_from_slice_get xs at v v stands) at (rising_above above xs rising at v (slice_get_within xs at v stands))

  -- the value at a place is the one that is found by its key
  pub find_at : (above k : ℕ) (xs : List X) → RisingBy key above xs → (at : ℕ) (v : X) → slice_get xs at ≡ Some v → key v ≡ k → find (λ x. key x == k) xs ≡ Some v
  find_at above k [] rising at v stands has = absurd (cc)
  find_at above k (x ∷ xs) rising zero v stands has =
      let same : x ≡ v = cc in
      rw (eq-eqb (key x) k (ap key same ∙ has)) stands
  find_at above k (x ∷ xs) rising (suc at) v stands has =
      let lower : key x < key v = above_at (key x) xs rising.1 at v stands in
      let differs : (key x == k) ≡ false = grind (arith, nat_tests) in
      rw differs (find_at (key x) k xs rising.1 at v stands has)

  -- a change by key is a change at the place
  pub change_at : (above k : ℕ) (g : X → X) (xs : List X) → RisingBy key above xs → (at : ℕ) (v : X) → slice_get xs at ≡ Some v → key v ≡ k → map (λ x. if key x == k then g x else x) xs ≡ set xs at (g v)
  change_at above k g [] rising at v stands has = absurd (cc)
  change_at above k g (x ∷ xs) rising zero v stands has =
      let same : x ≡ v = cc in
      change_here k g x xs (ap key same ∙ has) rising.1 ∙ ap (λ y. g y ∷ xs) same
  change_at above k g (x ∷ xs) rising (suc at) v stands has =
      let lower : key x < key v = above_at (key x) xs rising.1 at v stands in
      let differs : (key x == k) ≡ false = grind (arith, nat_tests) in
      change_there k g x xs differs ∙ ap (λ ys. x ∷ ys) (change_at (key x) k g xs rising.1 at v stands has)

-- numbers that rise

-- the list without the first such number
abbrev pub remove_first : ℕ → List ℕ → List ℕ
remove_first n [] = []
remove_first n (m ∷ numbers) = if m == n then numbers else m ∷ remove_first n numbers

pub none_among : (n : ℕ) (numbers : List ℕ) → AreAbove n numbers → is_among n numbers ≡ false
none_among n [] rising = refl
none_among n (m ∷ numbers) rising = grind (arith, nat_tests, rising.0, none_among n numbers (rising_lower (λ n. n) n m numbers (omega (arith, rising.0)) rising.1))

pub not_among-in_gap : (n : ℕ) (numbers : List ℕ) (at : ℕ) → HasGap (λ n. n) n numbers at → is_among n numbers ≡ false
not_among-in_gap n [] at gap = refl
not_among-in_gap n (m ∷ numbers) zero gap = grind (arith, nat_tests, gap.above 0 m (omega arith) (omega arith), not_among-in_gap n numbers zero (gap_zero (λ n. n) n m numbers gap))
not_among-in_gap n (m ∷ numbers) (suc at) gap = grind (arith, nat_tests, gap.below 0 m (omega arith), not_among-in_gap n numbers at (gap_next (λ n. n) n m numbers at gap))

pub put_in-in_gap : (n : ℕ) (numbers : List ℕ) (at : ℕ) → HasGap (λ n. n) n numbers at → put_in n numbers ≡ insert numbers at n
put_in-in_gap n [] at gap = let none : at ≡ 0 = omega (arith, gap.in_range) in rw none
put_in-in_gap n (m ∷ numbers) zero gap = grind (arith, nat_tests, gap.above 0 m (omega arith) (omega arith))
put_in-in_gap n (m ∷ numbers) (suc at) gap = grind (arith, nat_tests, gap.below 0 m (omega arith), put_in-in_gap n numbers at (gap_next (λ n. n) n m numbers at gap))

pub among_at : (n : ℕ) (numbers : List ℕ) (at : ℕ) → slice_get numbers at ≡ Some n → is_among n numbers ≡ true
among_at n [] at stands = absurd (cc)
among_at n (m ∷ numbers) zero stands = let same : m ≡ n = cc in rw (eq-eqb m n same)
among_at n (m ∷ numbers) (suc at) stands = rw (among_at n numbers at stands) (or-true (m == n))

pub put_in-there : (n above : ℕ) (numbers : List ℕ) → AreAbove above numbers → (at : ℕ) → slice_get numbers at ≡ Some n → put_in n numbers ≡ numbers
put_in-there n above [] rising at stands = absurd (cc)
put_in-there n above (m ∷ numbers) rising zero stands = let same : m ≡ n = cc in grind (arith, nat_tests)
put_in-there n above (m ∷ numbers) rising (suc at) stands =
    let lower : m < n = above_at (λ n. n) m numbers rising.1 at n stands in
    grind (arith, nat_tests, put_in-there n m numbers rising.1 at stands)

pub remove_first-at : (n above : ℕ) (numbers : List ℕ) → AreAbove above numbers → (at : ℕ) → slice_get numbers at ≡ Some n → remove_first n numbers ≡ remove numbers at
remove_first-at n above [] rising at stands = absurd (cc)
remove_first-at n above (m ∷ numbers) rising zero stands = let same : m ≡ n = cc in grind (arith, nat_tests)
remove_first-at n above (m ∷ numbers) rising (suc at) stands =
    let lower : m < n = above_at (λ n. n) m numbers rising.1 at n stands in
    grind (arith, nat_tests, remove_first-at n m numbers rising.1 at stands)

pub put_in-front : (n : ℕ) (numbers : List ℕ) → AreAbove n numbers → put_in n numbers ≡ n ∷ numbers
put_in-front n [] rising = refl
put_in-front n (m ∷ numbers) rising = grind (arith, nat_tests, rising.0)

pub place_stands : (n : ℕ) (numbers : List ℕ) (at : ℕ) → HasPlace (λ m. m) n numbers at → slice_get numbers at ≡ Some n
place_stands n numbers at place = rw (place.has_key) at (place.stands)
