-- Names at the front of a text, and texts that end with a `/`.
use Rattle.std.proofs.Common.{◌≡◌, ℕ, Bool, true, false, cond, not, ◌&&◌, List, [], ◌∷◌, ◌++◌, length, length-append, take, take-append-drop, drop, suc, ◌+◌, ◌-◌, arith, option_map, Some, None, refl, sym, ap, ◌∙◌}
use Rattle.std.proofs.lemmas.Bool.{and_from, and_parts}
use Rattle.std.specs.List.{before_first, ends_with, list_all, position_or_len}
use Rattle.std.specs.Prelude.{nat_eq}
use Rattle.std.specs.Cmp.Lexicographic.{pointwise}
use Rattle.std.proofs.lemmas.Slice.Eq.{bytes_eq-Decides}
use Rattle.bucket_model.specs.Listing.{up_to_slash}
use Rattle.mp_types.proofs.Prefixes.{drop_joined}
use Rattle.mp_types.specs.Path.{is_slash, is_valid_name, slash}

-- a valid name has bytes, and no `/`

abbrev pub has_no_slash : List ℕ → Bool
has_no_slash name = list_all (λ byte. not (is_slash byte)) name

only_slashes : (name : List ℕ) → list_all (λ byte. not (is_slash byte) && not (nat_eq byte 0)) name ≡ true → has_no_slash name ≡ true
only_slashes [] all = refl
only_slashes (byte ∷ name) all =
    let parts = and_parts (not (is_slash byte) && not (nat_eq byte 0)) _ all in
    and_from (not (is_slash byte)) (has_no_slash name) (and_parts (not (is_slash byte)) (not (nat_eq byte 0)) parts.0).0 (only_slashes name parts.1)

pub valid_bytes : (name : List ℕ) → is_valid_name name ≡ true → has_no_slash name ≡ true
valid_bytes name valid = only_slashes name (and_parts (not (nat_eq (length name) 0) && not (pointwise nat_eq name (46 ∷ [])) && not (pointwise nat_eq name (46 ∷ 46 ∷ []))) _ valid).1

pub valid_some : (name : List ℕ) → is_valid_name name ≡ true → not (nat_eq (length name) 0) ≡ true
valid_some name valid =
    let front = (and_parts (not (nat_eq (length name) 0) && not (pointwise nat_eq name (46 ∷ [])) && not (pointwise nat_eq name (46 ∷ 46 ∷ []))) _ valid).0 in
    let first = (and_parts (not (nat_eq (length name) 0) && not (pointwise nat_eq name (46 ∷ []))) _ front).0 in
    (and_parts (not (nat_eq (length name) 0)) _ first).0

other_byte : (b : Bool) → not b ≡ true → b ≡ false
other_byte true is = absurd (cc)
other_byte false is = refl

-- what stands before the first `/`

one_more : (n : ℕ) → 1 + n ≡ suc n
one_more n = omega arith

pub whole_name : (name : List ℕ) → has_no_slash name ≡ true → before_first is_slash name ≡ name
whole_name [] none = refl
whole_name (byte ∷ name) none =
    let parts = and_parts (not (is_slash byte)) (has_no_slash name) none in
    ap (λ (b : Bool). take (cond b (1 + position_or_len is_slash name) 0) (byte ∷ name)) parts.0 ∙ ap (λ (n : ℕ). take n (byte ∷ name)) (one_more (position_or_len is_slash name)) ∙ ap (λ (text : List ℕ). byte ∷ text) (whole_name name parts.1)

pub name_before : (name more : List ℕ) → has_no_slash name ≡ true → before_first is_slash (name ++ slash ∷ more) ≡ name
name_before [] more none = refl
name_before (byte ∷ name) more none =
    let parts = and_parts (not (is_slash byte)) (has_no_slash name) none in
    ap (λ (b : Bool). take (cond b (1 + position_or_len is_slash (name ++ slash ∷ more)) 0) (byte ∷ (name ++ slash ∷ more))) parts.0 ∙ ap (λ (n : ℕ). take n (byte ∷ (name ++ slash ∷ more))) (one_more (position_or_len is_slash (name ++ slash ∷ more))) ∙ ap (λ (text : List ℕ). byte ∷ text) (name_before name more parts.1)

-- a text that ends with a `/`

pub ends_split : (text : List ℕ) → ends_with nat_eq text (slash ∷ []) ≡ true → text ≡ take (length text - 1) text ++ slash ∷ []
ends_split text ends = sym (take-append-drop (length text - 1) text) ∙ ap (λ (last : List ℕ). take (length text - 1) text ++ last) (sym ((bytes_eq-Decides (slash ∷ []) (drop (length text - 1) text)).0 ends))

take_joined : (front rest : List ℕ) → take (length front) (front ++ rest) ≡ front
take_joined [] rest = refl
take_joined (byte ∷ front) rest = ap (λ (text : List ℕ). byte ∷ text) (take_joined front rest)

length_front : (front : List ℕ) → length (front ++ slash ∷ []) - 1 ≡ length front
length_front front = omega (arith, length-append front (slash ∷ []))

pub ends_joined : (front : List ℕ) → ends_with nat_eq (front ++ slash ∷ []) (slash ∷ []) ≡ true
ends_joined front = ap (λ (n : ℕ). pointwise nat_eq (slash ∷ []) (drop n (front ++ slash ∷ []))) (length_front front) ∙ ap (pointwise nat_eq (slash ∷ [])) (drop_joined front (slash ∷ []))

pub front_joined : (front : List ℕ) → take (length (front ++ slash ∷ []) - 1) (front ++ slash ∷ []) ≡ front
front_joined front = ap (λ (n : ℕ). take n (front ++ slash ∷ [])) (length_front front) ∙ take_joined front (slash ∷ [])

-- the bytes up to the first `/`

pub up_to_none : (name : List ℕ) → has_no_slash name ≡ true → up_to_slash name ≡ None
up_to_none [] none = refl
up_to_none (byte ∷ name) none =
    let parts = and_parts (not (is_slash byte)) (has_no_slash name) none in
    ap (λ (b : Bool). cond b (Some (byte ∷ [])) (option_map (λ front. byte ∷ front) (up_to_slash name))) (other_byte (is_slash byte) parts.0) ∙ ap (option_map (λ front. byte ∷ front)) (up_to_none name parts.1)

pub up_to_name : (name more : List ℕ) → has_no_slash name ≡ true → up_to_slash (name ++ slash ∷ more) ≡ Some (name ++ slash ∷ [])
up_to_name [] more none = refl
up_to_name (byte ∷ name) more none =
    let parts = and_parts (not (is_slash byte)) (has_no_slash name) none in
    ap (λ (b : Bool). cond b (Some (byte ∷ [])) (option_map (λ front. byte ∷ front) (up_to_slash (name ++ slash ∷ more)))) (other_byte (is_slash byte) parts.0) ∙ ap (option_map (λ front. byte ∷ front)) (up_to_name name more parts.1)
