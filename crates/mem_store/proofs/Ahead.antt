-- Which entries have items behind a text.
use Rattle.std.proofs.Common.{◌≡◌, ℕ, ◌<◌, Bool, true, false, true≢false, not, ◌&&◌, List, [], ◌∷◌, ◌++◌, drop, length, Option, Some, None, option_map, unwrap_or, refl, sym, ap, ◌∙◌, arith, append_assoc, is_le, is_lt, is_gt, Ordering, Less, Equal, Greater, nat_cmp, eqb-true, eq-eqb, BTreeMap}
use Rattle.std.specs.BTreeMap as tree
use Rattle.std.specs.BTreeMap.Range.{entries_between, range_contains}
use Rattle.std.specs.Cmp.{both_ways}
use Rattle.std.specs.Cmp.Lexicographic.{slice_cmp}
use Rattle.std.specs.List.{starts_with}
use Rattle.std.specs.Ordering.{MatchOrdering, ordering_then}
use Rattle.std.specs.Prelude.{nat_eq}
use Rattle.std.specs.declared.ops.Bound.TheVariants.{Excluded, Included, Unbounded}
use Rattle.std.proofs.lemmas.Bool.{and_from, and_parts}
use Rattle.std.proofs.lemmas.Cmp.{ranked}
use Rattle.mp_types.specs.Path.{slash}
use Rattle.bucket_model.specs.declared.history.Object.{Object}
use Rattle.bucket_model.specs.Listing.{common_prefix, has_prefix, is_behind, item_of, up_to_slash}
use Rattle.bucket_model.proofs.CommonPrefix.{at_or_behind, begins_between, common_is, text_has, text_under, text_upto}
use Rattle.bucket_model.proofs.Listing.{item_text}
use Rattle.bucket_model.proofs.Order.{is_before, before_upto, behind_is, both_answers, false_unless, not_both, true_unless, upto_before}
use Rattle.mem_store.specs.Listed.{StandBehind}

pub and_true : (b : Bool) → (b && true) ≡ b
and_true true = refl
and_true false = refl

and_false : (b : Bool) → (b && false) ≡ false
and_false true = refl
and_false false = refl

-- ---- `0` is the byte behind `/`

zero_by : (y : ℕ) (ys : List ℕ) (o p : Ordering) (b : Bool) → MatchOrdering o (48 < y) (48 ≡ y) (y < 48) → MatchOrdering p (47 < y) (47 ≡ y) (y < 47) → nat_eq 47 y ≡ b
    → is_le (ordering_then o (slice_cmp nat_cmp [] ys)) ≡ (is_lt (ordering_then p (slice_cmp nat_cmp [] ys)) && not (b && true))
zero_by y ys Less Less true o_is p_is at = absurd (omega (arith, o_is, eqb-true 47 y at))
zero_by y ys Less Less false o_is p_is at = refl
zero_by y ys Less Equal b o_is p_is at = absurd (omega (arith, o_is, p_is))
zero_by y ys Less Greater b o_is p_is at = absurd (omega (arith, o_is, p_is))
zero_by y ys Equal Less true o_is p_is at = absurd (omega (arith, o_is, eqb-true 47 y at))
zero_by y [] Equal Less false o_is p_is at = refl
zero_by y (z ∷ ys) Equal Less false o_is p_is at = refl
zero_by y ys Equal Equal b o_is p_is at = absurd (omega (arith, o_is, p_is))
zero_by y ys Equal Greater b o_is p_is at = absurd (omega (arith, o_is, p_is))
zero_by y ys Greater Less b o_is p_is at = absurd (omega (arith, o_is, p_is))
zero_by y ys Greater Equal true o_is p_is at = sym (and_false _)
zero_by y ys Greater Equal false o_is p_is at = absurd (true≢false (sym (eq-eqb 47 y p_is) ∙ at))
zero_by y ys Greater Greater b o_is p_is at = refl

past_by : (x y : ℕ) (o r s : Ordering) (t b : Bool) → MatchOrdering o (x < y) (x ≡ y) (y < x) → nat_eq x y ≡ b → is_le r ≡ (is_lt s && not t) → is_le (ordering_then o r) ≡ (is_lt (ordering_then o s) && not (b && t))
past_by x y Less r s t true o_is at more = absurd (omega (arith, o_is, eqb-true x y at))
past_by x y Less r s t false o_is at more = refl
past_by x y Equal r s t true o_is at more = more
past_by x y Equal r s t false o_is at more = absurd (true≢false (sym (eq-eqb x y o_is) ∙ at))
past_by x y Greater r s t b o_is at more = refl

-- from the text with `0` in the place of its last `/` on stands what is behind the text and doesn't begin with it
pub past_slash : (front text : List ℕ) → is_le (slice_cmp nat_cmp (front ++ 48 ∷ []) text) ≡ (is_before (front ++ slash ∷ []) text && not (starts_with nat_eq text (front ++ slash ∷ [])))
past_slash [] [] = refl
past_slash [] (y ∷ ys) = zero_by y ys (nat_cmp 48 y) (nat_cmp 47 y) (nat_eq 47 y) (ranked 48 y _ refl) (ranked 47 y _ refl) refl
past_slash (x ∷ front) [] = refl
past_slash (x ∷ front) (y ∷ ys) =
    past_by x y (nat_cmp x y) (slice_cmp nat_cmp (front ++ 48 ∷ []) ys) (slice_cmp nat_cmp (front ++ slash ∷ []) ys) (starts_with nat_eq ys (front ++ slash ∷ [])) (nat_eq x y) (ranked x y _ refl) refl (past_slash front ys)

not_true : (b : Bool) → not b ≡ true → b ≡ false
not_true true h = absurd (cc)
not_true false h = refl

true_not : (b : Bool) → b ≡ false → not b ≡ true
true_not true h = absurd (cc)
true_not false h = refl

le_is_by : (o : Ordering) → is_le o ≡ not (is_gt o)
le_is_by Less = refl
le_is_by Equal = refl
le_is_by Greater = refl

pub le_is : (a b : List ℕ) → is_le (slice_cmp nat_cmp a b) ≡ not (is_before b a)
le_is a b = le_is_by (slice_cmp nat_cmp a b) ∙ ap not (behind_is a b)

-- ---- which keys give an item behind the text

-- the item of a key behind the text is behind it, where the text is in no directory that the item is
behind_by : (prefix text key : List ℕ) (o : Option (List ℕ)) → common_prefix prefix key ≡ o → has_prefix prefix key ≡ true → is_before text key ≡ true
    → ((common : List ℕ) → starts_with nat_eq key common ≡ true → common_prefix prefix text ≡ Some common → has_prefix prefix text ≡ true → ⊥) → is_before text (unwrap_or o key) ≡ true
behind_by prefix text key None at has less apart = less
behind_by prefix text key (Some common) at has less apart =
    let here = common_is prefix key common at in
    true_unless _ (λ wrong.
    let again = here.again text (begins_between common text key (here.begins has) wrong (not_both text key less)) in
    apart common (here.begins has) again.1 again.0)

item_behind : (prefix text : List ℕ) (entry : List ℕ × Object) → is_behind text (item_of prefix entry) ≡ is_before text (text_under prefix entry.0)
item_behind prefix text entry = ap (is_before text) (item_text prefix entry)

before_key : (prefix text key : List ℕ) → has_prefix prefix key ≡ true → is_before text (text_under prefix key) ≡ true → is_before text key ≡ true
before_key prefix text key has less = before_upto text (text_under prefix key) key less (text_upto prefix key has)

-- where the text is before the prefix
pub stand_at : (prefix text : List ℕ) (objects : BTreeMap (List ℕ) Object) (entries : List (List ℕ × Object)) → is_before text prefix ≡ true → entries ≡ entries_between (slice_cmp nat_cmp) (Included prefix) Unbounded objects.entries
    → tree.IsOrdered (slice_cmp nat_cmp) objects → StandBehind prefix text objects entries
stand_at prefix text objects entries less from ordered = record {
  bound = Included prefix;
  from = from;
  decides = λ entry has.
      and_true _ ∙ le_is prefix entry.0 ∙ true_not _ (at_or_behind prefix entry.0 has)
      ∙ sym (item_behind prefix text entry ∙ before_upto text prefix (text_under prefix entry.0) less (at_or_behind prefix (text_under prefix entry.0) (text_has prefix entry.0 has)));
  low = λ key inside. not_true _ (sym (le_is prefix key) ∙ sym (and_true _) ∙ inside);
  ordered = ordered;
}

-- where the text is in a directory, or is one
past_decides : (prefix text common front key : List ℕ) → common ≡ front ++ slash ∷ [] → has_prefix prefix text ≡ true → common_prefix prefix text ≡ Some common → has_prefix prefix key ≡ true
    → (is_before common key && not (starts_with nat_eq key common)) ≡ is_before text (text_under prefix key)
past_decides prefix text common front key ends has_text at has =
    let here = common_is prefix text common at in
    let begins = here.begins has_text in
    both_ways _ _
    (λ inside.
    let parts = and_parts (is_before common key) (not (starts_with nat_eq key common)) inside in
    let apart = not_true _ parts.1 in
    let less : is_before text key ≡ true = true_unless _ (λ wrong. both_answers _ (begins_between common key text begins (not_both common key parts.0) wrong) apart) in
    behind_by prefix text key (common_prefix prefix key) refl has less (λ other key_begins other_at _.
    let same : common ≡ other = ap (λ o. unwrap_or o []) (sym at ∙ other_at) in
    both_answers _ (ap (starts_with nat_eq key) same ∙ key_begins) apart))
    (λ less.
    let behind = upto_before common text key (at_or_behind common text begins) (before_key prefix text key has less) in
    and_from (is_before common key) _ behind (true_not _ (false_unless _ (λ wrong.
    let key_at = (here.again key wrong).1 in
    both_answers (is_before text (text_under prefix key)) less (ap (λ o. is_before text (unwrap_or o key)) key_at ∙ at_or_behind common text begins)))))

pub stand_past : (prefix text common front : List ℕ) (objects : BTreeMap (List ℕ) Object) (entries : List (List ℕ × Object)) → common ≡ front ++ slash ∷ [] → has_prefix prefix text ≡ true → common_prefix prefix text ≡ Some common
    → entries ≡ entries_between (slice_cmp nat_cmp) (Included (front ++ 48 ∷ [])) Unbounded objects.entries → tree.IsOrdered (slice_cmp nat_cmp) objects → StandBehind prefix text objects entries
stand_past prefix text common front objects entries ends has_text at from ordered =
    let passes : (key : List ℕ) → range_contains (slice_cmp nat_cmp) (Included (front ++ 48 ∷ [])) Unbounded key ≡ (is_before common key && not (starts_with nat_eq key common)) =
    λ key. and_true _ ∙ past_slash front key ∙ ap (λ c. is_before c key && not (starts_with nat_eq key c)) (sym ends) in
    record {
      bound = Included (front ++ 48 ∷ []);
      from = from;
      decides = λ entry has. passes entry.0 ∙ past_decides prefix text common front entry.0 ends has_text at has ∙ sym (item_behind prefix text entry);
      low = λ key inside.
          let behind = (and_parts (is_before common key) (not (starts_with nat_eq key common)) (sym (passes key) ∙ inside)).0 in
          not_both prefix key (upto_before prefix common key (at_or_behind prefix common (common_is prefix text common at).has) behind);
      ordered = ordered;
    }

-- where it isn't
pub stand_after : (prefix text : List ℕ) (objects : BTreeMap (List ℕ) Object) (entries : List (List ℕ × Object)) → is_before text prefix ≡ false → (has_prefix prefix text ≡ true → common_prefix prefix text ≡ None)
    → entries ≡ entries_between (slice_cmp nat_cmp) (Excluded text) Unbounded objects.entries → tree.IsOrdered (slice_cmp nat_cmp) objects → StandBehind prefix text objects entries
stand_after prefix text objects entries upto none from ordered = record {
  bound = Excluded text;
  from = from;
  decides = λ entry has.
      and_true _
      ∙ both_ways (is_before text entry.0) (is_before text (text_under prefix entry.0))
      (λ less. behind_by prefix text entry.0 (common_prefix prefix entry.0) refl has less (λ common begins at has_text. none_is_some common (sym (none has_text) ∙ at)))
      (before_key prefix text entry.0 has)
      ∙ sym (item_behind prefix text entry);
  low = λ key inside. not_both prefix key (upto_before prefix text key upto (sym (and_true _) ∙ inside));
  ordered = ordered;
}
  where
    none_is_some : (common : List ℕ) → None ≡ Some common → ⊥
    none_is_some common is = absurd (cc)

-- the same, of texts that are equal to these
pub stand_past_named : (prefix text p t q name : List ℕ) (objects : BTreeMap (List ℕ) Object) (entries : List (List ℕ × Object)) → p ≡ prefix → t ≡ text → q ≡ prefix
    → (has_prefix p t ≡ true) × (up_to_slash (drop (length p) t) ≡ Some (name ++ slash ∷ [])) → entries ≡ entries_between (slice_cmp nat_cmp) (Included (q ++ (name ++ 48 ∷ []))) Unbounded objects.entries
    → tree.IsOrdered (slice_cmp nat_cmp) objects → StandBehind prefix text objects entries
stand_past_named prefix text p t q name objects entries p_is t_is q_is below from ordered =
    let join : Option (List ℕ) → Option (List ℕ) = option_map (λ front. prefix ++ front) in
    let has : has_prefix prefix text ≡ true = ap (λ x. has_prefix x text) (sym p_is) ∙ ap (has_prefix p) (sym t_is) ∙ below.0 in
    let at : common_prefix prefix text ≡ Some ((prefix ++ name) ++ slash ∷ []) =
    ap (λ x. join (up_to_slash (drop (length x) text))) (sym p_is) ∙ ap (λ x. join (up_to_slash (drop (length p) x))) (sym t_is) ∙ ap join below.1 ∙ ap Some (sym (append_assoc prefix name (slash ∷ []))) in
    let now : entries ≡ entries_between (slice_cmp nat_cmp) (Included ((prefix ++ name) ++ 48 ∷ [])) Unbounded objects.entries =
    from ∙ ap (λ x. entries_between (slice_cmp nat_cmp) (Included (x ++ (name ++ 48 ∷ []))) Unbounded objects.entries) q_is
    ∙ ap (λ x. entries_between (slice_cmp nat_cmp) (Included x) Unbounded objects.entries) (sym (append_assoc prefix name (48 ∷ []))) in
    stand_past prefix text ((prefix ++ name) ++ slash ∷ []) (prefix ++ name) objects entries refl has at now ordered

pub stand_after_named : (prefix text p t : List ℕ) (objects : BTreeMap (List ℕ) Object) (entries : List (List ℕ × Object)) → p ≡ prefix → t ≡ text → is_before text prefix ≡ false
    → (has_prefix p t ≡ true → up_to_slash (drop (length p) t) ≡ None) → entries ≡ entries_between (slice_cmp nat_cmp) (Excluded text) Unbounded objects.entries → tree.IsOrdered (slice_cmp nat_cmp) objects
    → StandBehind prefix text objects entries
stand_after_named prefix text p t objects entries p_is t_is upto none from ordered =
    let join : Option (List ℕ) → Option (List ℕ) = option_map (λ front. prefix ++ front) in
    stand_after prefix text objects entries upto
    (λ has.
    let below = none (ap (has_prefix p) t_is ∙ ap (λ x. has_prefix x text) p_is ∙ has) in
    ap (λ x. join (up_to_slash (drop (length x) text))) (sym p_is) ∙ ap (λ x. join (up_to_slash (drop (length p) x))) (sym t_is) ∙ ap join below) from ordered
