-- What cutting a text at a prefix or at a `/` gives.
use Rattle.std.proofs.Common.{◌≡◌, ℕ, suc, ◌<◌, Bool, true, false, cond, List, [], ◌∷◌, ◌++◌, length, drop, Option, Some, None, option_map, MatchOption, refl, ap, ◌∙◌, arith, get_or, take, ◌+◌, sym, IsUtf8, IsCharBoundary, ◌≢◌, zero, eqb-true, Bor}
use Rattle.std.specs.Prelude.{◌==◌}
use Rattle.std.proofs.lemmas.List.{append_assoc, get_or_at, length-append, take_at}
use Rattle.std.proofs.lemmas.Str.{IsCharBoundary-after_ascii}
use Rattle.mp_types.specs.Path.{slash}
use Rattle.bucket_model.specs.Listing.{has_prefix, up_to_slash}
use Rattle.mp_types.proofs.Prefixes.{begins_joined, drop_joined}
use Rattle.bucket_model.proofs.Order.{false_unless}

not_slash : (byte : ℕ) (bytes : List ℕ) → (byte ≢ slash) → up_to_slash (byte ∷ bytes) ≡ option_map (λ front. byte ∷ front) (up_to_slash bytes)
not_slash byte bytes other = ap (λ b. cond b (Some (byte ∷ [])) (option_map (λ front. byte ∷ front) (up_to_slash bytes))) (false_unless (byte == slash) (λ same. other (eqb-true byte slash same)))

pub no_slash : (bytes : List ℕ) → ((i : ℕ) → i < length bytes → get_or bytes i 0 ≢ slash) → up_to_slash bytes ≡ None
no_slash [] free = refl
no_slash (byte ∷ bytes) free =
    not_slash byte bytes (free zero (omega arith))
    ∙ ap (option_map (λ front. byte ∷ front)) (no_slash bytes (λ i inside. free (suc i) (omega (arith, inside))))

pub slash_behind : (name rest : List ℕ) → ((i : ℕ) → i < length name → get_or name i 0 ≢ slash) → up_to_slash (name ++ slash ∷ rest) ≡ Some (name ++ slash ∷ [])
slash_behind [] rest free = refl
slash_behind (byte ∷ name) rest free =
    not_slash byte (name ++ slash ∷ rest) (free zero (omega arith))
    ∙ ap (option_map (λ front. byte ∷ front)) (slash_behind name rest (λ i inside. free (suc i) (omega (arith, inside))))

-- the name before the first `/` of what stands behind the prefix
pub name_behind : (prefix text rest : List ℕ) (name : Option (Bor (List ℕ))) → text ≡ prefix ++ rest → MatchOption name (up_to_slash rest ≡ None) (λ n. up_to_slash rest ≡ Some (n.now ++ slash ∷ []))
    → MatchOption name (has_prefix prefix text ≡ true → up_to_slash (drop (length prefix) text) ≡ None) (λ n. (has_prefix prefix text ≡ true) × (up_to_slash (drop (length prefix) text) ≡ Some (n.now ++ slash ∷ [])))
name_behind prefix text rest None is at = λ has. ap (λ t. up_to_slash (drop (length prefix) t)) is ∙ ap up_to_slash (drop_joined prefix rest) ∙ at
name_behind prefix text rest (Some name) is at = (ap (has_prefix prefix) is ∙ begins_joined prefix rest, ap (λ t. up_to_slash (drop (length prefix) t)) is ∙ ap up_to_slash (drop_joined prefix rest) ∙ at)

-- what stands up to the first `/` is a front of the bytes
pub record HasFront (bytes front : List ℕ) : Type 0 where
  pub rest : List ℕ
  pub is : bytes ≡ front ++ rest

front_some_by : (byte : ℕ) (bytes front : List ℕ) (b : Bool) (o : Option (List ℕ)) → cond b (Some (byte ∷ [])) (option_map (λ f. byte ∷ f) o) ≡ Some front → ((f : List ℕ) → o ≡ Some f → HasFront bytes f) → HasFront (byte ∷ bytes) front
front_some_by byte bytes front true o is below = let whole : byte ∷ [] ≡ front = cc in record { rest = bytes; is = ap (λ (f : List ℕ). f ++ bytes) whole }
front_some_by byte bytes front false None is below = absurd (cc)
front_some_by byte bytes front false (Some f) is below = let whole : byte ∷ f ≡ front = cc in let more = below f refl in record { rest = more.rest; is = ap (λ (l : List ℕ). byte ∷ l) more.is ∙ ap (λ (l : List ℕ). l ++ more.rest) whole }

pub front_of : (bytes front : List ℕ) → up_to_slash bytes ≡ Some front → HasFront bytes front
front_of [] front is = absurd (cc)
front_of (byte ∷ bytes) front is = front_some_by byte bytes front (byte == slash) (up_to_slash bytes) is (front_of bytes)

-- a key may be cut behind the `/` that follows the name, and its front is what keys share
pub record IsFrontAt (key text : List ℕ) (end : ℕ) : Type 0 where
  pub may : IsCharBoundary key end
  pub front : take end key ≡ text

pub front_at : (key prefix name rest : List ℕ) → IsUtf8 key → key ≡ prefix ++ rest → up_to_slash rest ≡ Some (name ++ slash ∷ []) → IsFrontAt key (prefix ++ (name ++ slash ∷ [])) (length prefix + length name + 1)
front_at key prefix name rest utf8 key_is at =
    let found = front_of rest (name ++ slash ∷ []) at in
    let whole : key ≡ (prefix ++ (name ++ slash ∷ [])) ++ found.rest = key_is ∙ ap (λ (r : List ℕ). prefix ++ r) found.is ∙ sym (append_assoc prefix (name ++ slash ∷ []) found.rest) in
    let split : key ≡ (prefix ++ name) ++ slash ∷ found.rest = key_is ∙ ap (λ (r : List ℕ). prefix ++ r) (found.is ∙ append_assoc name (slash ∷ []) found.rest) ∙ sym (append_assoc prefix name (slash ∷ found.rest)) in
    let before : length (prefix ++ name) ≡ length prefix + length name = length-append prefix name in
    let long : length (prefix ++ (name ++ slash ∷ [])) ≡ length prefix + length name + 1 = omega (arith, length-append prefix (name ++ slash ∷ []), length-append name (slash ∷ [])) in
    let byte : get_or key (length prefix + length name) 0 ≡ slash = ap (λ k. get_or k (length prefix + length name) 0) split ∙ get_or_at (prefix ++ name) slash found.rest 0 (length prefix + length name) before in
    let inside : length prefix + length name < length key = omega (arith, ap length whole, long, length-append (prefix ++ (name ++ slash ∷ [])) found.rest) in
    record {
      may = IsCharBoundary-after_ascii key (length prefix + length name) utf8 inside (omega (arith, byte));
      front = ap (λ k. take (length prefix + length name + 1) k) whole ∙ take_at (prefix ++ (name ++ slash ∷ [])) found.rest (length prefix + length name + 1) long;
    }
