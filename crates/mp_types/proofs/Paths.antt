-- Texts that are paths, and texts that aren't.
use Rattle.std.proofs.Common.{◌≡◌, ◌≢◌, ℕ, ◌+◌, ◌<◌, ◌≤◌, Bool, true, false, cond, not, List, [], ◌∷◌, length, Ok, Err, refl, sym, ap, ◌∙◌, eqb, arith}
use Rattle.std.specs.Prelude.{nat_lt, None, Some}
use Rattle.std.specs.List.{position_from, slice_split}
use Rattle.std.proofs.lemmas.Bool.{eqb-true, ltb-true, ltb-false}
use Rattle.std.proofs.lemmas.List.Splits.{join_with_byte-slice_split}
use Rattle.mp_types.specs.declared.path.PathFault.TheVariants.{Empty, TooLong, BadName}
use Rattle.mp_types.specs.Key.{max_key_length}
use Rattle.mp_types.specs.Path.{slash, is_slash, is_valid_name, checked, names_below, path_of, names_in, is_bad_name, are_names, joined, IsPathText}

no_slash_by : (b : Bool) (byte : ℕ) (bytes : List ℕ) → eqb byte slash ≡ b → (b ≡ true → ⊥) → cond b (names_below bytes) (Err Empty) ≡ Err Empty
no_slash_by true byte bytes is none = absurd (none refl)
no_slash_by false byte bytes is none = refl

-- a text that doesn't begin with `/`
pub no_slash : (text : List ℕ) → ((rest : List ℕ) → text ≢ slash ∷ rest) → path_of text ≡ Err Empty
no_slash [] none = refl
no_slash (byte ∷ bytes) none =
    no_slash_by (eqb byte slash) byte bytes refl (λ is. none bytes (ap (λ (b : ℕ). b ∷ bytes) (eqb-true byte slash is)))

too_long_by : (b : Bool) (bytes : List ℕ) → nat_lt max_key_length (length bytes) ≡ b → max_key_length < length bytes → cond b (Err TooLong) (checked 0 (slice_split is_slash bytes)) ≡ Err TooLong
too_long_by true bytes is long = refl
too_long_by false bytes is long = absurd (omega (arith, ltb-false max_key_length (length bytes) is))

below_long : (below : List ℕ) → max_key_length < length below → names_below below ≡ Err TooLong
below_long [] long = absurd (omega (arith, long))
below_long (byte ∷ bytes) long = too_long_by (nat_lt max_key_length (length (byte ∷ bytes))) (byte ∷ bytes) refl long

within_by : (b : Bool) (bytes : List ℕ) → nat_lt max_key_length (length bytes) ≡ b → length bytes ≤ max_key_length → cond b (Err TooLong) (checked 0 (slice_split is_slash bytes)) ≡ checked 0 (slice_split is_slash bytes)
within_by true bytes long short = let more : max_key_length < length bytes = ltb-true max_key_length (length bytes) long in absurd (omega arith)
within_by false bytes long short = refl

-- more than 1,024 bytes behind the first `/`
pub too_long : (text below : List ℕ) → text ≡ slash ∷ below → max_key_length < length below → path_of text ≡ Err TooLong
too_long text below is long = ap path_of is ∙ below_long below long

names_below-some : (below : List ℕ) → length below ≤ max_key_length → eqb (length below) 0 ≡ false → (names_below below ≡ checked 0 (slice_split is_slash below)) × (names_in below ≡ slice_split is_slash below)
names_below-some [] short some = absurd (cc)
names_below-some (byte ∷ bytes) short some = (within_by (nat_lt max_key_length (length (byte ∷ bytes))) (byte ∷ bytes) refl short, refl)

checked_bad_by : (b : Bool) (place i : ℕ) (name : List ℕ) (names : List (List ℕ)) → is_valid_name name ≡ b → cond (not b) (Some place) (position_from is_bad_name (place + 1) names) ≡ Some i
    → (position_from is_bad_name (place + 1) names ≡ Some i → checked (place + 1) names ≡ Err (BadName i)) → checked place (name ∷ names) ≡ Err (BadName i)
checked_bad_by true place i name names valid at below = let e = below at in rw (valid, e) refl
checked_bad_by false place i name names valid at below = let e : place ≡ i = cc in rw valid (ap (λ (k : ℕ). Err (BadName k)) e)

checked_bad : (place i : ℕ) (names : List (List ℕ)) → position_from is_bad_name place names ≡ Some i → checked place names ≡ Err (BadName i)
checked_bad place i [] at = absurd (cc)
checked_bad place i (name ∷ names) at = checked_bad_by (is_valid_name name) place i name names refl at (checked_bad (place + 1) i names)

checked_good_by : (b : Bool) (place : ℕ) (name : List ℕ) (names : List (List ℕ)) → is_valid_name name ≡ b → cond (not b) (Some place) (position_from is_bad_name (place + 1) names) ≡ None
    → (position_from is_bad_name (place + 1) names ≡ None → (checked (place + 1) names ≡ Ok names) × (are_names names ≡ true)) → (checked place (name ∷ names) ≡ Ok (name ∷ names)) × (are_names (name ∷ names) ≡ true)
checked_good_by true place name names valid at below = let e = below at in let on = e.0 in (rw (valid, on) refl, rw valid e.1)
checked_good_by false place name names valid at below = absurd (cc)

checked_good : (place : ℕ) (names : List (List ℕ)) → position_from is_bad_name place names ≡ None → (checked place names ≡ Ok names) × (are_names names ≡ true)
checked_good place [] at = (refl, refl)
checked_good place (name ∷ names) at = checked_good_by (is_valid_name name) place name names refl at (checked_good (place + 1) names)

-- a part that is no name
pub bad_name : (text below : List ℕ) (place : ℕ) → text ≡ slash ∷ below → length below ≤ max_key_length → eqb (length below) 0 ≡ false → position_from is_bad_name 0 (slice_split is_slash below) ≡ Some place → path_of text ≡ Err (BadName place)
bad_name text below place is short some at = ap path_of is ∙ ((names_below-some below short some).0 ∙ checked_bad 0 place (slice_split is_slash below) at)

-- names alone
pub is_path : (text below : List ℕ) → text ≡ slash ∷ below → length below ≤ max_key_length → eqb (length below) 0 ≡ false → position_from is_bad_name 0 (slice_split is_slash below) ≡ None → IsPathText text below
is_path text below is short some at =
    let names = names_below-some below short some in
    let good = checked_good 0 (slice_split is_slash below) at in
    (ap path_of is ∙ (names.0 ∙ (good.0 ∙ ap Ok (sym names.1))), short, ap are_names names.1 ∙ good.1)

-- the names of a text that is not empty
pub names_of_some : (below : List ℕ) → eqb (length below) 0 ≡ false → names_in below ≡ slice_split is_slash below
names_of_some [] some = absurd (cc)
names_of_some (byte ∷ bytes) some = refl

-- the names in a row are the text
pub joined_is : (below : List ℕ) → joined (names_in below) ≡ below
joined_is [] = refl
joined_is (byte ∷ bytes) = join_with_byte-slice_split slash (byte ∷ bytes)
