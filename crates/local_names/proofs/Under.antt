-- What stands above a key, by its last `/`.
use Rattle.std.proofs.Common.{◌≡◌, ◌≢◌, ℕ, ◌<◌, Bool, true, false, ◌&&◌, ◌||◌, List, [], ◌∷◌, ◌++◌, length, take, drop, get_or, Some, None, refl, sym, ap, ◌∙◌, subst, arith, suc, length-append, ◌⊎◌, inl, inr}
use Rattle.std.proofs.lemmas.Bool.{ne_eqb}
use Rattle.std.proofs.lemmas.List.{take-append-drop}
use Rattle.std.proofs.lemmas.Str.Pattern.{NoCharPasses-char, drop_at_char}
use Rattle.std.specs.Cmp.Lexicographic.{nat_list_eq_equiv, bytes_decides}
use Rattle.std.specs.Prelude.{nat_eq}
use Rattle.std.specs.Str.{bytes_eq}
use Rattle.std.specs.Str.Pattern.{RFindsChar}
use Rattle.mp_types.specs.Path.{slash}
use Rattle.mp_rules.specs.Keys.{is_under}
use Rattle.local_names.specs.Under.{IsParent}

abbrev HasNoSlash : List ℕ → Type 0
HasNoSlash [] = Unit {0}
HasNoSlash (byte ∷ bytes) = (nat_eq slash byte ≡ false) × HasNoSlash bytes

pub both_false : (a b : Bool) → b ≡ false → (a && b) ≡ false
both_false true b is = is
both_false false b is = refl

either_of : (a b c : Bool) → (a && (b || c)) ≡ ((a && b) || (a && c))
either_of true b c = refl
either_of false b c = refl

pub nothing_above : (last q : List ℕ) → HasNoSlash last → is_under last q ≡ false
nothing_above [] [] none = refl
nothing_above [] (x ∷ q) none = refl
nothing_above (byte ∷ last) [] none = ap (λ (b : Bool). b && true) none.0
nothing_above (byte ∷ last) (x ∷ q) none = both_false (nat_eq x byte) (is_under last q) (nothing_above last q none.1)

-- above a key stand its front before the last `/`, and what stands above that
front_and_above : (above last q : List ℕ) → HasNoSlash last → is_under (above ++ slash ∷ last) q ≡ (bytes_eq q above || is_under above q)
front_and_above [] last [] none = refl
front_and_above [] last (x ∷ q) none = both_false (nat_eq x slash) (is_under last q) (nothing_above last q none)
front_and_above (a ∷ above) last [] none = refl
front_and_above (a ∷ above) last (x ∷ q) none =
    ap (λ (b : Bool). nat_eq x a && b) (front_and_above above last q none) ∙ either_of (nat_eq x a) (bytes_eq q above) (is_under above q)

pub not_under_itself : (key : List ℕ) → is_under key key ≡ false
not_under_itself [] = refl
not_under_itself (byte ∷ key) = both_false (nat_eq byte byte) (is_under key key) (not_under_itself key)

has_no_slash : (last : List ℕ) → ((i : ℕ) → i < length last → get_or last i 0 ≢ slash) → HasNoSlash last
has_no_slash [] none = tt
has_no_slash (byte ∷ last) none =
    (ne_eqb slash byte (λ e. none 0 (omega arith) (sym e)), has_no_slash last (λ i less. none (suc i) (omega arith)))

no_slash : (text : List ℕ) → RFindsChar slash text None → HasNoSlash text
no_slash text none = has_no_slash text (λ i less. NoCharPasses-char slash text i none (omega arith) less)

-- `rsplit_once('/')` finds nothing
pub no_parent : (key q : List ℕ) → RFindsChar slash key None → is_under key q ≡ false
no_parent key q none = nothing_above key q (no_slash key none)

-- or a last `/`
parent_at : (key above last : List ℕ) → HasNoSlash last → key ≡ above ++ slash ∷ last → IsParent key above
parent_at key above last none split = record {
  shorter = omega (arith, ap length split, length-append above (slash ∷ last));
  over = λ q. ap (λ (text : List ℕ). is_under text q) split ∙ front_and_above above last q none ∙ ap (λ (b : Bool). b || is_under above q) (nat_list_eq_equiv.symm q above);
}

pub parent_found : (key above : List ℕ) (i j : ℕ) → RFindsChar slash key (Some (i, j)) → above ≡ take i key → IsParent key above
parent_found key above i j found front =
    parent_at key above (drop j key) (no_slash (drop j key) found.0)
    (sym (take-append-drop i key) ∙ ap (λ (text : List ℕ). text ++ drop i key) (sym front) ∙ ap (λ (text : List ℕ). above ++ text) (drop_at_char slash key i j found.1 (omega arith)))

-- a key is the parent itself, or stands above both or neither
pub record IsParentItself (rest above q : List ℕ) : Type 0 where
  pub same : above ≡ q
  pub test : bytes_eq above q ≡ true
  pub before : is_under rest q ≡ true
  pub after : is_under above q ≡ false

pub record IsAboveBoth (rest above q : List ℕ) : Type 0 where
  pub test : bytes_eq above q ≡ false
  pub alike : is_under rest q ≡ is_under above q

pub by_parent : (rest above : List ℕ) → IsParent rest above → (q : List ℕ) → IsParentItself rest above q ⊎ IsAboveBoth rest above q
by_parent rest above parent q = by_test (bytes_eq above q) refl
  where
    by_test : (b : Bool) → bytes_eq above q ≡ b → IsParentItself rest above q ⊎ IsAboveBoth rest above q
    by_test true is =
        let same : above ≡ q = (bytes_decides above q).0 is in
        inl (record {
          same = same;
          test = is;
          before = parent.over q ∙ ap (λ (b : Bool). b || is_under above q) is;
          after = subst (λ (key : List ℕ). is_under above key ≡ false) same (not_under_itself above);
        })
    by_test false is = inr (record { test = is; alike = parent.over q ∙ ap (λ (b : Bool). b || is_under above q) is })
