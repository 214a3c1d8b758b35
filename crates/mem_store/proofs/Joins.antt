-- How an upload's parts are joined, one after another.
use Rattle.std.proofs.Common.{◌≡◌, ℕ, ◌+◌, ◌-◌, ◌^◌, ◌<◌, ◌≤◌, cond, min, suc, List, [], ◌++◌, length, Option, Some, None, refl, sym, ap, subst, ◌∙◌, append_assoc, append-nil, arith, eq-eqb, length-append}
use Rattle.std.specs.FinMap as map
use Rattle.std.specs.Option.{option_map}
use Rattle.bucket_model.specs.Bucket.{Parts, joined, joined_from}
use Rattle.mem_store.specs.Uploads.{whole_bytes}

-- the parts from this number on, as many as are left, put behind the bytes
abbrev pub joined_behind : Parts → List ℕ → ℕ → ℕ → Option (List ℕ)
joined_behind parts bytes number left = option_map (λ more. bytes ++ more) (joined_from parts number left)

-- their length added to the size, as far as a `usize` counts
abbrev pub length_behind : Parts → ℕ → ℕ → ℕ → Option ℕ
length_behind parts size number left = option_map (λ more. min (size + length more) (2 ^ 64 - 1)) (joined_from parts number left)

-- the length of the parts from 1 to the count
abbrev pub length_of : Parts → ℕ → Option ℕ
length_of parts count = option_map (λ bytes. min (length bytes) (2 ^ 64 - 1)) (joined_from parts 1 count)

-- what a loop over the numbers has joined before this number
pub record IsJoinedTo (parts : Parts) (count number : ℕ) (bytes : List ℕ) : Type 0 where
  pub within : number ≤ count + 1
  pub all : (left : ℕ) → number + left ≡ count + 1 → joined_behind parts bytes number left ≡ joined_from parts 1 count

-- the size of what stands before this number
pub record IsSizeTo (parts : Parts) (count number size : ℕ) : Type 0 where
  pub within : number ≤ count + 1
  pub small : size < 2 ^ 64
  pub all : (left : ℕ) → number + left ≡ count + 1 → length_behind parts size number left ≡ length_of parts count

-- the part of this number isn't there
joined_none : (parts : Parts) (number left : ℕ) → map.get parts number ≡ None → joined_from parts number (suc left) ≡ None
joined_none parts number left is = ap (λ o. joined o (joined_from parts (number + 1) left)) is

joined_some : (parts : Parts) (part : List ℕ) (number left : ℕ) → map.get parts number ≡ Some part → joined_from parts number (suc left) ≡ option_map (λ more. part ++ more) (joined_from parts (number + 1) left)
joined_some parts part number left is = ap (λ o. joined o (joined_from parts (number + 1) left)) is

unchanged : (o : Option (List ℕ)) → option_map (λ more. [] ++ more) o ≡ o
unchanged None = refl
unchanged (Some more) = refl

counted : (o : Option (List ℕ)) → option_map (λ more. min (0 + length more) (2 ^ 64 - 1)) o ≡ option_map (λ more. min (length more) (2 ^ 64 - 1)) o
counted None = refl
counted (Some more) = ap Some (omega arith)

behind : (bytes part : List ℕ) (rest : Option (List ℕ)) → option_map (λ more. (bytes ++ part) ++ more) rest ≡ option_map (λ more. bytes ++ more) (option_map (λ more. part ++ more) rest)
behind bytes part None = refl
behind bytes part (Some more) = ap Some (append_assoc bytes part more)

counted_behind : (size more : ℕ) (part : List ℕ) (rest : Option (List ℕ)) → more ≡ min (size + length part) (2 ^ 64 - 1)
    → option_map (λ bytes. min (more + length bytes) (2 ^ 64 - 1)) rest ≡ option_map (λ bytes. min (size + length bytes) (2 ^ 64 - 1)) (option_map (λ bytes. part ++ bytes) rest)
counted_behind size more part None is = refl
counted_behind size more part (Some bytes) is = ap Some (omega (arith, length-append part bytes))

pub join_begins : (parts : Parts) (count : ℕ) (bytes : List ℕ) → bytes ≡ [] → IsJoinedTo parts count 1 bytes
join_begins parts count bytes none =
    let P : List ℕ → Type 0 = λ b. IsJoinedTo parts count 1 b in
    subst P (sym none) (record {
      within = omega arith;
      all = λ left is. unchanged (joined_from parts 1 left) ∙ ap (joined_from parts 1) (omega arith);
    })

pub join_goes_on : {parts : Parts} {count number : ℕ} {bytes : List ℕ} (part more : List ℕ) → IsJoinedTo parts count number bytes → number ≤ count → Some part ≡ map.get parts number → more ≡ bytes ++ part → IsJoinedTo parts count (number + 1) more
join_goes_on {parts} {count} {number} {bytes} part more to below is more_is = record {
  within = omega arith;
  all = λ left at.
      ap (λ b. joined_behind parts b (number + 1) left) more_is ∙ behind bytes part (joined_from parts (number + 1) left)
      ∙ ap (option_map (λ bs. bytes ++ bs)) (sym (joined_some parts part number left (sym is)))
      ∙ to.all (suc left) (omega arith);
}

pub join_ends : {parts : Parts} {count number : ℕ} {bytes : List ℕ} → IsJoinedTo parts count number bytes → count < number → Some bytes ≡ joined_from parts 1 count
join_ends {bytes = bytes} to past = ap Some (sym (append-nil bytes)) ∙ to.all 0 (omega (arith, to.within))

pub join_lacks : {parts : Parts} {count number : ℕ} {bytes : List ℕ} → IsJoinedTo parts count number bytes → number ≤ count → None ≡ map.get parts number → None ≡ joined_from parts 1 count
join_lacks {parts} {count} {number} {bytes} to below is =
    ap (option_map (λ more. bytes ++ more)) (sym (joined_none parts number (count - number) (sym is))) ∙ to.all (suc (count - number)) (omega arith)

pub size_begins : (parts : Parts) (count : ℕ) → IsSizeTo parts count 1 0
size_begins parts count = record {
  within = omega arith;
  small = omega arith;
  all = λ left is. counted (joined_from parts 1 left) ∙ ap (length_of parts) (omega arith);
}

pub size_goes_on : {parts : Parts} {count number size : ℕ} (part : List ℕ) (more : ℕ) → IsSizeTo parts count number size → number ≤ count → Some part ≡ map.get parts number → more ≡ min (size + length part) (2 ^ 64 - 1) → IsSizeTo parts count (number + 1) more
size_goes_on {parts} {count} {number} {size} part more to below is more_is = record {
  within = omega arith;
  small = omega arith;
  all = λ left at.
      counted_behind size more part (joined_from parts (number + 1) left) more_is
      ∙ ap (option_map (λ bytes. min (size + length bytes) (2 ^ 64 - 1))) (sym (joined_some parts part number left (sym is)))
      ∙ to.all (suc left) (omega arith);
}

pub size_ends : {parts : Parts} {count number size : ℕ} → IsSizeTo parts count number size → count < number → Some size ≡ length_of parts count
size_ends {size = size} to past = ap Some (omega (arith, to.small)) ∙ to.all 0 (omega (arith, to.within))

pub size_lacks : {parts : Parts} {count number size : ℕ} → IsSizeTo parts count number size → number ≤ count → None ≡ map.get parts number → None ≡ length_of parts count
size_lacks {parts} {count} {number} {size} to below is =
    ap (option_map (λ bytes. min (size + length bytes) (2 ^ 64 - 1))) (sym (joined_none parts number (count - number) (sym is))) ∙ to.all (suc (count - number)) (omega arith)

-- where the parts are as many as the count
pub whole_is : (parts : Parts) (count : ℕ) → map.len parts ≡ count → joined_from parts 1 count ≡ whole_bytes count parts
whole_is parts count same = ap (λ b. cond b (joined_from parts 1 count) None) (sym (eq-eqb (map.len parts) count same))
