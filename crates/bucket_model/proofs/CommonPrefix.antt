-- What keys share up to the first `/` behind a prefix.
use Rattle.std.proofs.Common.{◌≡◌, ℕ, Bool, true, false, cond, ◌&&◌, List, [], ◌∷◌, ◌++◌, length, drop, Option, Some, None, option_map, unwrap_or, refl, sym, ap, ◌∙◌, subst, append_assoc, eqb-true, eq-eqb}
use Rattle.std.specs.List.{starts_with}
use Rattle.std.specs.Prelude.{nat_eq, ◌==◌}
use Rattle.std.proofs.lemmas.Bool.{and_from, and_parts}
use Rattle.mp_types.specs.Path.{slash}
use Rattle.bucket_model.specs.Listing.{common_prefix, has_prefix, up_to_slash}
use Rattle.bucket_model.proofs.Order.{is_before, behind_is, both_answers, false_unless, not_before_itself, not_both, before_upto, upto_upto}
use Rattle.mp_types.proofs.Prefixes.{begins_joined, between, from_start, split_at}

-- ---- what a text begins with

pub begins_both : (front xs ys : List ℕ) → starts_with nat_eq (front ++ xs) (front ++ ys) ≡ starts_with nat_eq xs ys
begins_both [] xs ys = refl
begins_both (x ∷ front) xs ys = ap (λ b. b && starts_with nat_eq (front ++ xs) (front ++ ys)) (eq-eqb x x refl) ∙ begins_both front xs ys

pub begins_longer : (front more text : List ℕ) → starts_with nat_eq text (front ++ more) ≡ true → (starts_with nat_eq text front ≡ true) × (starts_with nat_eq (drop (length front) text) more ≡ true)
begins_longer [] more text begins = (refl, begins)
begins_longer (x ∷ front) more [] begins = absurd (cc)
begins_longer (x ∷ front) more (y ∷ text) begins =
    let parts = and_parts (nat_eq x y) (starts_with nat_eq text (front ++ more)) begins in
    let rest = begins_longer front more text parts.1 in
    (and_from (nat_eq x y) (starts_with nat_eq text front) parts.0 rest.0, rest.1)

pub at_or_behind : (start text : List ℕ) → starts_with nat_eq text start ≡ true → is_before text start ≡ false
at_or_behind start text begins = sym (behind_is start text) ∙ from_start start text begins

pub begins_between : (start text last : List ℕ) → starts_with nat_eq last start ≡ true → is_before text start ≡ false → is_before last text ≡ false → starts_with nat_eq text start ≡ true
begins_between start text last begins low high = between start text last begins (behind_is start text ∙ low) (behind_is text last ∙ high)

-- ---- the bytes up to the first `/`

pub record IsCut (bytes cut : List ℕ) : Type 0 where
  pub front : List ℕ
  pub ends : cut ≡ front ++ slash ∷ []
  pub begins : starts_with nat_eq bytes cut ≡ true
  pub again : (other : List ℕ) → starts_with nat_eq other cut ≡ true → up_to_slash other ≡ Some cut

again_here : (byte : ℕ) (other : List ℕ) → (byte == slash) ≡ true → starts_with nat_eq other (byte ∷ []) ≡ true → up_to_slash other ≡ Some (byte ∷ [])
again_here byte [] at begins = absurd (cc)
again_here byte (x ∷ other) at begins =
    let same : byte ≡ x = eqb-true byte x (and_parts (nat_eq byte x) true begins).0 in
    let P : ℕ → Type 0 = λ z. up_to_slash (z ∷ other) ≡ Some (byte ∷ []) in
    subst P same (ap (λ b. cond b (Some (byte ∷ [])) (option_map (λ front. byte ∷ front) (up_to_slash other))) at)

again_later : (byte : ℕ) (cut other : List ℕ) → (byte == slash) ≡ false → ((more : List ℕ) → starts_with nat_eq more cut ≡ true → up_to_slash more ≡ Some cut) → starts_with nat_eq other (byte ∷ cut) ≡ true
    → up_to_slash other ≡ Some (byte ∷ cut)
again_later byte cut [] at again begins = absurd (cc)
again_later byte cut (x ∷ other) at again begins =
    let parts = and_parts (nat_eq byte x) (starts_with nat_eq other cut) begins in
    let same : byte ≡ x = eqb-true byte x parts.0 in
    let P : ℕ → Type 0 = λ z. up_to_slash (z ∷ other) ≡ Some (byte ∷ cut) in
    subst P same (ap (λ b. cond b (Some (byte ∷ [])) (option_map (λ front. byte ∷ front) (up_to_slash other))) at ∙ ap (option_map (λ front. byte ∷ front)) (again other parts.1))

cut_here : (byte : ℕ) (bytes cut : List ℕ) → (byte == slash) ≡ true → Some (byte ∷ []) ≡ Some cut → IsCut (byte ∷ bytes) cut
cut_here byte bytes cut at is =
    let same : byte ∷ [] ≡ cut = ap (λ o. unwrap_or o []) is in
    let P : List ℕ → Type 0 = λ c. IsCut (byte ∷ bytes) c in
    subst P same (record {
      front = [];
      ends = ap (λ b. b ∷ []) (eqb-true byte slash at);
      begins = and_from (nat_eq byte byte) true (eq-eqb byte byte refl) refl;
      again = λ other begins. again_here byte other at begins;
    })

cut_later : (byte : ℕ) (bytes cut : List ℕ) (o : Option (List ℕ)) → (byte == slash) ≡ false → up_to_slash bytes ≡ o → option_map (λ front. byte ∷ front) o ≡ Some cut → ((rest : List ℕ) → up_to_slash bytes ≡ Some rest → IsCut bytes rest)
    → IsCut (byte ∷ bytes) cut
cut_later byte bytes cut None at here is more = absurd (cc)
cut_later byte bytes cut (Some rest) at here is more =
    let same : byte ∷ rest ≡ cut = ap (λ o. unwrap_or o []) is in
    let P : List ℕ → Type 0 = λ c. IsCut (byte ∷ bytes) c in
    let later = more rest here in
    subst P same (record {
      front = byte ∷ later.front;
      ends = ap (λ c. byte ∷ c) later.ends;
      begins = and_from (nat_eq byte byte) (starts_with nat_eq bytes rest) (eq-eqb byte byte refl) later.begins;
      again = λ other begins. again_later byte rest other at later.again begins;
    })

cut_by : (byte : ℕ) (bytes cut : List ℕ) (b : Bool) → (byte == slash) ≡ b → cond b (Some (byte ∷ [])) (option_map (λ front. byte ∷ front) (up_to_slash bytes)) ≡ Some cut → ((rest : List ℕ) → up_to_slash bytes ≡ Some rest → IsCut bytes rest)
    → IsCut (byte ∷ bytes) cut
cut_by byte bytes cut true at is more = cut_here byte bytes cut at is
cut_by byte bytes cut false at is more = cut_later byte bytes cut (up_to_slash bytes) at refl is more

pub cut_is : (bytes cut : List ℕ) → up_to_slash bytes ≡ Some cut → IsCut bytes cut
cut_is [] cut is = absurd (cc)
cut_is (byte ∷ bytes) cut is = cut_by byte bytes cut (byte == slash) refl is (cut_is bytes)

-- ---- common prefixes

pub record IsCommon (prefix key common : List ℕ) : Type 0 where
  pub front : List ℕ
  pub ends : common ≡ front ++ slash ∷ []
  pub has : has_prefix prefix common ≡ true
  pub begins : has_prefix prefix key ≡ true → starts_with nat_eq key common ≡ true
  pub again : (other : List ℕ) → starts_with nat_eq other common ≡ true → (has_prefix prefix other ≡ true) × (common_prefix prefix other ≡ Some common)

common_by : (prefix key common : List ℕ) (o : Option (List ℕ)) → up_to_slash (drop (length prefix) key) ≡ o → option_map (λ front. prefix ++ front) o ≡ Some common → IsCommon prefix key common
common_by prefix key common None at is = absurd (cc)
common_by prefix key common (Some cut) at is =
    let same : prefix ++ cut ≡ common = ap (λ o. unwrap_or o []) is in
    let here = cut_is (drop (length prefix) key) cut at in
    let P : List ℕ → Type 0 = λ c. IsCommon prefix key c in
    let Begins : List ℕ → Type 0 = λ k. starts_with nat_eq k (prefix ++ cut) ≡ true in
    subst P same (record {
      front = prefix ++ here.front;
      ends = ap (λ c. prefix ++ c) here.ends ∙ sym (append_assoc prefix here.front (slash ∷ []));
      has = begins_joined prefix cut;
      begins = λ has. subst Begins (sym (split_at prefix key has)) (begins_both prefix (drop (length prefix) key) cut ∙ here.begins);
      again = λ other begins.
          let parts = begins_longer prefix cut other begins in
          (parts.0, ap (option_map (λ front. prefix ++ front)) (here.again (drop (length prefix) other) parts.1));
    })

pub common_is : (prefix key common : List ℕ) → common_prefix prefix key ≡ Some common → IsCommon prefix key common
common_is prefix key common is = common_by prefix key common (up_to_slash (drop (length prefix) key)) refl is

-- the text of the item that a key gives
abbrev pub text_under : List ℕ → List ℕ → List ℕ
text_under prefix key = unwrap_or (common_prefix prefix key) key

text_has_by : (prefix key : List ℕ) (o : Option (List ℕ)) → common_prefix prefix key ≡ o → has_prefix prefix key ≡ true → has_prefix prefix (unwrap_or o key) ≡ true
text_has_by prefix key None at has = has
text_has_by prefix key (Some common) at has = (common_is prefix key common at).has

pub text_has : (prefix key : List ℕ) → has_prefix prefix key ≡ true → has_prefix prefix (text_under prefix key) ≡ true
text_has prefix key has = text_has_by prefix key (common_prefix prefix key) refl has

text_upto_by : (prefix key : List ℕ) (o : Option (List ℕ)) → common_prefix prefix key ≡ o → has_prefix prefix key ≡ true → is_before key (unwrap_or o key) ≡ false
text_upto_by prefix key None at has = not_before_itself key
text_upto_by prefix key (Some common) at has = at_or_behind common key ((common_is prefix key common at).begins has)

pub text_upto : (prefix key : List ℕ) → has_prefix prefix key ≡ true → is_before key (text_under prefix key) ≡ false
text_upto prefix key has = text_upto_by prefix key (common_prefix prefix key) refl has

some_is : (a b : List ℕ) → Some a ≡ Some b → a ≡ b
some_is a b is = ap (λ o. unwrap_or o []) is

-- a text from a key on, up to the item's text of a later key, stands in the common prefix of that
climbs_by : (prefix a b : List ℕ) (o : Option (List ℕ)) → common_prefix prefix b ≡ o → has_prefix prefix a ≡ true → has_prefix prefix b ≡ true → is_before a b ≡ true → is_before (unwrap_or o b) (text_under prefix a) ≡ false
climbs_by prefix a b None at has_a has_b less = false_unless _ (λ wrong. both_answers (is_before b b) (before_upto b (text_under prefix a) b wrong (upto_upto (text_under prefix a) a b (text_upto prefix a has_a) (not_both a b less))) (not_before_itself b))
climbs_by prefix a b (Some common) at has_a has_b less =
    let here = common_is prefix b common at in
    false_unless _ (λ wrong.
    let low = not_both common a (before_upto common (text_under prefix a) a wrong (text_upto prefix a has_a)) in
    let same = (here.again a (begins_between common a b (here.begins has_b) low (not_both a b less))).1 in
    both_answers (is_before common common) (ap (λ o. is_before common (unwrap_or o a)) (sym same) ∙ wrong) (not_before_itself common))

pub text_climbs : (prefix a b : List ℕ) → has_prefix prefix a ≡ true → has_prefix prefix b ≡ true → is_before a b ≡ true → is_before (text_under prefix b) (text_under prefix a) ≡ false
text_climbs prefix a b has_a has_b less = climbs_by prefix a b (common_prefix prefix b) refl has_a has_b less
