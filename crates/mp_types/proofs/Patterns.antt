-- The bytes of a pattern, place by place.
use Rattle.std.proofs.Common.{◌≡◌, ℕ, ◌+◌, ◌-◌, ◌%◌, ◌<◌, ◌≤◌, List, length, get_or, take, drop, slice_index, sym, ap, ◌∙◌, arith}
use Rattle.std.specs.List.{slice_range}
use Rattle.std.proofs.Math.Nat.{mod-add-mod}
use Rattle.std.proofs.lemmas.List.{get_or-take, get_or-drop, length-take, length-drop}
use Rattle.std.proofs.lemmas.List.FromFn.{length-map-range_with_len, get_or-map-range_with_len, fill_by_all}
use Rattle.mp_types.specs.Content.{pattern}

pub pattern-length : (seed count : ℕ) → length (pattern seed count) ≡ count
pattern-length seed count = length-map-range_with_len (λ place. (seed + place) % 251) 0 count

pub pattern-index : (seed count place : ℕ) → place < count → slice_index (pattern seed count) place ≡ (seed + place) % 251
pattern-index seed count place within = get_or-map-range_with_len (λ p. (seed + p) % 251) 0 count place place 0 within (omega arith)

-- bytes that are those of the pattern at each place are the pattern
pub all-pattern : (seed count : ℕ) (bytes : List ℕ) → length bytes ≡ count → ((place : ℕ) → place < count → slice_index bytes place ≡ (seed + place) % 251) → bytes ≡ pattern seed count
all-pattern seed count bytes long each = fill_by_all (λ place. (seed + place) % 251) bytes count 0 long each

-- a part of a pattern is the pattern from its first byte on
pub pattern-range : (seed count at size : ℕ) → at + size ≤ count → slice_range (pattern seed count) at (at + size) ≡ pattern ((seed + at) % 251) size
pattern-range seed count at size within = all-pattern ((seed + at) % 251) size (slice_range (pattern seed count) at (at + size)) long each
  where
    long : length (slice_range (pattern seed count) at (at + size)) ≡ size
    long = omega (arith, length-take (at + size - at) (drop at (pattern seed count)), length-drop at (pattern seed count), pattern-length seed count)

    each : (place : ℕ) → place < size → slice_index (slice_range (pattern seed count) at (at + size)) place ≡ ((seed + at) % 251 + place) % 251
    each place inside =
        let there : get_or (take (at + size - at) (drop at (pattern seed count))) place 0 ≡ get_or (drop at (pattern seed count)) place 0 = get_or-take (at + size - at) (drop at (pattern seed count)) place 0 (omega arith) in
        let behind : get_or (drop at (pattern seed count)) place 0 ≡ get_or (pattern seed count) (at + place) 0 = get_or-drop at (pattern seed count) place 0 in
        let is : get_or (pattern seed count) (at + place) 0 ≡ (seed + (at + place)) % 251 = pattern-index seed count (at + place) (omega arith) in
        let sums : seed + (at + place) ≡ seed + at + place = omega arith in
        there ∙ (behind ∙ (is ∙ (ap (λ n. n % 251) sums ∙ sym (mod-add-mod (seed + at) 251 place))))
