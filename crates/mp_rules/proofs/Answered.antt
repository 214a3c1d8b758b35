-- Questions and their answers in a list of facts.
use Rattle.std.proofs.Common.{ℕ, zero, suc, slice_get, append-nil, option_to_list, ◌≡◌, List, [], ◌∷◌, ◌++◌, Bool, true, false, ◌||◌, cond, if◌then◌else◌, Option, Some, None, is_some, option_map, refl, sym, ap, ◌∙◌}
use Rattle.std.specs.List.{find, list_any}
use Rattle.std.specs.Cmp.Lexicographic.{nat_list_eq_equiv}
use Rattle.mp_rules.specs.declared.facts.Question.{Question}
use Rattle.mp_rules.specs.declared.facts.Question.TheVariants.{Head, Probe}
use Rattle.mp_rules.specs.declared.facts.Fact.{Fact}
use Rattle.mp_rules.specs.declared.facts.Known.{Known}
use Rattle.mp_rules.specs.Walk.{AreDistinct, fact_in, is_question, with_known, with_last}

pub is_question-sym : (q r : Question) → is_question q r ≡ is_question r q
is_question-sym (Head key) (Head other) = nat_list_eq_equiv.symm key other
is_question-sym (Probe key) (Probe other) = nat_list_eq_equiv.symm key other
is_question-sym (Head key) (Probe other) = refl
is_question-sym (Probe key) (Head other) = refl

-- a question is answered where one of the facts has it
pub answered-any : (facts : List Known) (q : Question) → list_any (λ k. is_question q k.question) facts ≡ is_some (fact_in facts q)
answered-any [] q = refl
answered-any (known ∷ facts) q = go (is_question q known.question) (answered-any facts q)
  where
    go : (b : Bool) → list_any (λ k. is_question q k.question) facts ≡ is_some (fact_in facts q) → (b || list_any (λ k. is_question q k.question) facts) ≡ is_some (option_map (λ (k : Known). k.fact) (cond b (Some known) (find (λ k. is_question q k.question) facts)))
    go true e = refl
    go false e = e

first-other : (b : Bool) (first : Known) (rest : Option Known) → option_map (λ (k : Known). k.fact) (cond b (Some first) rest) ≡ None → (b ≡ false) × (option_map (λ (k : Known). k.fact) rest ≡ None)
first-other true first rest none = absurd (cc)
first-other false first rest none = (refl, none)

-- what is found behind one more fact
pub fact_in-push : (facts : List Known) (known : Known) (q : Question) → fact_in facts q ≡ None → is_question q known.question ≡ false → fact_in (facts ++ known ∷ []) q ≡ None
fact_in-push [] known q none other = ap (λ b. option_map (λ (k : Known). k.fact) (cond b (Some known) None)) other
fact_in-push (first ∷ facts) known q none other =
    let apart = first-other (is_question q first.question) first (find (λ k. is_question q k.question) facts) none in
    ap (λ b. option_map (λ (k : Known). k.fact) (cond b (Some first) (find (λ k. is_question q k.question) (facts ++ known ∷ [])))) apart.0 ∙ fact_in-push facts known q apart.1 other

pub distinct-push : (facts : List Known) (known : Known) → fact_in facts known.question ≡ None → AreDistinct facts → AreDistinct (facts ++ known ∷ [])
distinct-push [] known none distinct = (refl, tt)
distinct-push (first ∷ facts) known none distinct =
    let apart = first-other (is_question known.question first.question) first (find (λ k. is_question known.question k.question) facts) none in
    (fact_in-push facts known first.question distinct.0 (is_question-sym first.question known.question ∙ apart.0), distinct-push facts known apart.1 distinct.1)

pub none-found : (o : Option Fact) → is_some o ≡ false → o ≡ None
none-found None e = refl
none-found (Some fact) e = absurd (cc)

pub distinct-either : (b : Bool) (facts : List Known) (known : Known) → fact_in facts known.question ≡ None → AreDistinct facts → AreDistinct (if b then facts ++ known ∷ [] else facts)
distinct-either true facts known none distinct = distinct-push facts known none distinct
distinct-either false facts known none distinct = distinct

pub known-again : (facts : List Known) (known : Known) → is_some (fact_in facts known.question) ≡ true → facts ≡ with_known known facts
known-again facts known some = go (is_some (fact_in facts known.question)) some
  where
    go : (b : Bool) → b ≡ true → facts ≡ (if b then facts else facts ++ known ∷ [])
    go true e = refl
    go false e = absurd (cc)

pub known-new : (facts : List Known) (known : Known) → fact_in facts known.question ≡ None → facts ++ known ∷ [] ≡ with_known known facts
known-new facts known none = ap (λ (o : Option Fact). if is_some o then facts else facts ++ known ∷ []) (sym none)

is_question-congr : (q r s : Question) → is_question q r ≡ true → is_question q s ≡ is_question r s
is_question-congr (Head key) (Head other) (Head third) same = nat_list_eq_equiv.congr key other third same
is_question-congr (Head key) (Head other) (Probe third) same = refl
is_question-congr (Head key) (Probe other) s same = absurd (cc)
is_question-congr (Probe key) (Head other) s same = absurd (cc)
is_question-congr (Probe key) (Probe other) (Head third) same = refl
is_question-congr (Probe key) (Probe other) (Probe third) same = nat_list_eq_equiv.congr key other third same

-- the same question has the same answer
pub fact_in-alike : (facts : List Known) (q r : Question) → is_question q r ≡ true → fact_in facts q ≡ fact_in facts r
fact_in-alike facts q r same = λ i. option_map (λ (k : Known). k.fact) (find (λ k. is_question-congr q r k.question same i) facts)

-- what stands behind a fact that is found changes nothing
fact_in-before : (facts more : List Known) (q : Question) → is_some (fact_in facts q) ≡ true → fact_in (facts ++ more) q ≡ fact_in facts q
fact_in-before [] more q some = absurd (cc)
fact_in-before (first ∷ facts) more q some = go (is_question q first.question) some (fact_in-before facts more q)
  where
    go : (b : Bool) → is_some (option_map (λ (k : Known). k.fact) (cond b (Some first) (find (λ k. is_question q k.question) facts))) ≡ true → (is_some (fact_in facts q) ≡ true → fact_in (facts ++ more) q ≡ fact_in facts q) → option_map (λ (k : Known). k.fact) (cond b (Some first) (find (λ k. is_question q k.question) (facts ++ more))) ≡ option_map (λ (k : Known). k.fact) (cond b (Some first) (find (λ k. is_question q k.question) facts))
    go true some rest = refl
    go false some rest = rest some

-- and neither does a fact of another question
fact_in-other : (facts : List Known) (known : Known) (q : Question) → is_question q known.question ≡ false → fact_in (facts ++ known ∷ []) q ≡ fact_in facts q
fact_in-other [] known q other = ap (λ b. option_map (λ (k : Known). k.fact) (cond b (Some known) None)) other
fact_in-other (first ∷ facts) known q other = go (is_question q first.question) (fact_in-other facts known q other)
  where
    go : (b : Bool) → fact_in (facts ++ known ∷ []) q ≡ fact_in facts q → option_map (λ (k : Known). k.fact) (cond b (Some first) (find (λ k. is_question q k.question) (facts ++ known ∷ []))) ≡ option_map (λ (k : Known). k.fact) (cond b (Some first) (find (λ k. is_question q k.question) facts))
    go true rest = refl
    go false rest = rest

-- a fact that is kept once tells what it tells at the end of the list
pub fact_in-known : (facts : List Known) (known : Known) (q : Question) → fact_in (with_known known facts) q ≡ fact_in (facts ++ known ∷ []) q
fact_in-known facts known q = go (fact_in facts known.question) refl
  where
    again : (b : Bool) → is_question q known.question ≡ b → is_some (fact_in facts known.question) ≡ true → fact_in facts q ≡ fact_in (facts ++ known ∷ []) q
    again true same some = sym (fact_in-before facts (known ∷ []) q (ap is_some (fact_in-alike facts q known.question same) ∙ some))
    again false other some = sym (fact_in-other facts known q other)

    go : (o : Option Fact) → fact_in facts known.question ≡ o → fact_in (if is_some o then facts else facts ++ known ∷ []) q ≡ fact_in (facts ++ known ∷ []) q
    go None none = refl
    go (Some fact) some = again (is_question q known.question) refl (ap is_some some)

pub fact_in-last : (facts : List Known) (last : Option Known) (q : Question) → fact_in (with_last last facts) q ≡ fact_in (facts ++ option_to_list last) q
fact_in-last facts None q = ap (λ all. fact_in all q) (sym (append-nil facts))
fact_in-last facts (Some known) q = fact_in-known facts known q

-- the fact at any place with the question's own is the one that is found
pub found-at : (facts : List Known) (place : ℕ) (known : Known) (q : Question) → AreDistinct facts → slice_get facts place ≡ Some known → is_question q known.question ≡ true → find (λ k. is_question q k.question) facts ≡ Some known
found-at [] place known q distinct at same = absurd (cc)
found-at (first ∷ facts) zero known q distinct at same =
    let is : first ≡ known = cc in
    ap (λ b. cond b (Some first) (find (λ k. is_question q k.question) facts)) (ap (λ (k : Known). is_question q k.question) is ∙ same) ∙ ap Some is
found-at (first ∷ facts) (suc place) known q distinct at same = go (is_question q first.question) refl (found-at facts place known q distinct.1 at same)
  where
    go : (b : Bool) → is_question q first.question ≡ b → find (λ k. is_question q k.question) facts ≡ Some known → cond b (Some first) (find (λ k. is_question q k.question) facts) ≡ Some known
    go true earlier rest =
        let told : fact_in facts q ≡ Some known.fact = ap (option_map (λ (k : Known). k.fact)) rest in
        let none : fact_in facts q ≡ None = fact_in-alike facts q first.question earlier ∙ distinct.0 in
        absurd (cc)
    go false other rest = rest
