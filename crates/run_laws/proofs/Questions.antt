-- Each answer to a question that a walk asks leaves fewer questions open.
use Rattle.std.proofs.Common.{◌≡◌, ℕ, ◌+◌, ◌*◌, ◌<◌, ◌≤◌, List, [], ◌∷◌, ◌++◌, length, find, cond, Bool, true, false, if◌then◌else◌, Option, Some, None, is_some, option_map, refl, ap, ◌∙◌, arith}
use Rattle.std.proofs.lemmas.Cmp.{nat_list_eq_equiv}
use Rattle.mp_types.specs.Path.{slash}
use Rattle.mp_rules.specs.declared.entry.Entry.TheVariants.{RemoteDir, LocalDir, LocalFile, File, Nothing}
use Rattle.mp_rules.specs.declared.entry.Local.{Local}
use Rattle.mp_rules.specs.declared.entry.Local.TheVariants as local
use Rattle.mp_rules.specs.declared.facts.Question.{Question}
use Rattle.mp_rules.specs.declared.facts.Question.TheVariants.{Head, Probe}
use Rattle.mp_rules.specs.declared.facts.Fact.{Fact}
use Rattle.mp_rules.specs.declared.facts.Fact.TheVariants.{Found, Missing, Yes, No}
use Rattle.mp_rules.specs.declared.facts.Known.{Known}
use Rattle.mp_rules.specs.Walk.{is_question, fact_in, with_known, Decision, Need, Is, Refused, by_head, by_local, by_probe, entry_at, below, walk}
use Rattle.run_laws.specs.Work.{if_unknown, if_open, open_at, open_from, open_along}

-- a question that gets its answer
record Learns (facts more : Question → Option Fact) (question : Question) : Type 0 where
  told : if_open more question ≡ 0
  kept : (other : Question) → if_open more other ≤ if_open facts other

same-question : (question : Question) → is_question question question ≡ true
same-question (Head key) = nat_list_eq_equiv.refl key
same-question (Probe key) = nat_list_eq_equiv.refl key

unknown-most : (o : Option Fact) → if_unknown o ≤ 1
unknown-most None = omega arith
unknown-most (Some fact) = omega arith

-- the answer of one more that is known, behind those that are
abbrev found_in : List Known → Question → Option Known
found_in known question = find (λ k. is_question question k.question) known

added-told : (known : List Known) (k : Known) → if_open (fact_in (known ++ k ∷ [])) k.question ≡ 0
added-told [] k = let same = same-question k.question in rw same refl
added-told (first ∷ known) k = go (is_question k.question first.question) (added-told known k)
  where
    go : (b : Bool) → if_open (fact_in (known ++ k ∷ [])) k.question ≡ 0 → if_unknown (option_map (λ (n : Known). n.fact) (cond b (Some first) (found_in (known ++ k ∷ []) k.question))) ≡ 0
    go true e = refl
    go false e = e

added-kept : (known : List Known) (k : Known) (other : Question) → if_open (fact_in (known ++ k ∷ [])) other ≤ if_open (fact_in known) other
added-kept [] k other = unknown-most (fact_in (k ∷ []) other)
added-kept (first ∷ known) k other = go (is_question other first.question) (added-kept known k other)
  where
    go : (b : Bool) → if_open (fact_in (known ++ k ∷ [])) other ≤ if_open (fact_in known) other → if_unknown (option_map (λ (n : Known). n.fact) (cond b (Some first) (found_in (known ++ k ∷ []) other))) ≤ if_unknown (option_map (λ (n : Known). n.fact) (cond b (Some first) (found_in known other)))
    go true h = omega arith
    go false h = h

learns : (known : List Known) (k : Known) → Learns (fact_in known) (fact_in (with_known k known)) k.question
learns known k = go (fact_in known k.question) refl
  where
    go : (o : Option Fact) → fact_in known k.question ≡ o → Learns (fact_in known) (fact_in (if is_some o then known else known ++ k ∷ [])) k.question
    go None unknown = record { told = added-told known k; kept = added-kept known k }
    go (Some fact) answered = record { told = ap if_unknown answered; kept = λ other. omega arith }

-- what a walk asks

entry-kept : (facts more : Question → Option Fact) (question : Question) (key : List ℕ) → Learns facts more question → open_at more key ≤ open_at facts key
entry-kept facts more question key learned = let probe = learned.kept (Probe key) in let head = learned.kept (Head key) in omega arith

entry-falls : (facts more : Question → Option Fact) (local_of : List ℕ → Local) (question : Question) (key : List ℕ) → Learns facts more question → entry_at facts local_of key ≡ Need question → open_at more key < open_at facts key
entry-falls facts more local_of question key learned asks = go (facts (Probe key)) refl asks
  where
    head : (o : Option Fact) → facts (Head key) ≡ o → by_head key o ≡ Need question → open_at more key < open_at facts key
    head None unknown is =
        let same : Head key ≡ question = cc in
        let before : if_open facts (Head key) ≡ 1 = ap if_unknown unknown in
        let behind : if_open more (Head key) ≡ 0 = ap (if_open more) same ∙ learned.told in
        let probe = learned.kept (Probe key) in
        omega arith
    head (Some (Found etag size)) known is = absurd (cc)
    head (Some Missing) known is = absurd (cc)
    head (Some Yes) known is = absurd (cc)
    head (Some No) known is = absurd (cc)

    no_key : (here : Local) → by_local key here (facts (Head key)) ≡ Need question → open_at more key < open_at facts key
    no_key local.None is = head (facts (Head key)) refl is
    no_key local.Dir is = absurd (cc)
    no_key (local.File size) is = absurd (cc)

    go : (o : Option Fact) → facts (Probe key) ≡ o → by_probe key o (local_of key) (facts (Head key)) ≡ Need question → open_at more key < open_at facts key
    go None unknown is =
        let same : Probe key ≡ question = cc in
        let before : if_open facts (Probe key) ≡ 1 = ap if_unknown unknown in
        let behind : if_open more (Probe key) ≡ 0 = ap (if_open more) same ∙ learned.told in
        let other = learned.kept (Head key) in
        omega arith
    go (Some (Found etag size)) known is = no_key (local_of key) is
    go (Some Missing) known is = no_key (local_of key) is
    go (Some Yes) known is = absurd (cc)
    go (Some No) known is = no_key (local_of key) is

walk-kept : (facts more : Question → Option Fact) (question : Question) (key : List ℕ) (names : List (List ℕ)) → Learns facts more question → open_from more key names ≤ open_from facts key names
walk-kept facts more question key [] learned = entry-kept facts more question key learned
walk-kept facts more question key (name ∷ names) learned =
    let here = entry-kept facts more question key learned in
    let rest = walk-kept facts more question (key ++ slash ∷ name) names learned in
    omega arith

walk-falls : (facts more : Question → Option Fact) (local_of : List ℕ → Local) (question : Question) (key : List ℕ) (names : List (List ℕ)) → Learns facts more question → walk facts local_of key names ≡ Need question → open_from more key names < open_from facts key names
walk-falls facts more local_of question key [] learned asks = entry-falls facts more local_of question key learned asks
walk-falls facts more local_of question key (name ∷ names) learned asks = go (entry_at facts local_of key) refl asks (walk-falls facts more local_of question (key ++ slash ∷ name) names learned)
  where
    longer : List ℕ
    longer = key ++ slash ∷ name

    go : (decision : Decision) → entry_at facts local_of key ≡ decision → below decision (walk facts local_of longer names) ≡ Need question → (walk facts local_of longer names ≡ Need question → open_from more longer names < open_from facts longer names) → open_at more key + open_from more longer names < open_at facts key + open_from facts longer names
    go (Need asked) at is rest =
        let here = entry-falls facts more local_of question key learned (at ∙ is) in
        let kept = walk-kept facts more question longer names learned in
        omega arith
    go (Is RemoteDir) at is rest =
        let here = entry-kept facts more question key learned in
        let falls = rest is in
        omega arith
    go (Is LocalDir) at is rest =
        let here = entry-kept facts more question key learned in
        let falls = rest is in
        omega arith
    go (Is (LocalFile size)) at is rest = absurd (cc)
    go (Is (File etag size)) at is rest = absurd (cc)
    go (Is Nothing) at is rest = absurd (cc)
    go (Refused errno) at is rest = absurd (cc)

-- the answer to the question that is asked leaves fewer open
pub path-falls : (known : List Known) (local_of : List ℕ → Local) (name : List ℕ) (names : List (List ℕ)) (question : Question) (fact : Fact) → walk (fact_in known) local_of name names ≡ Need question → open_along (fact_in (with_known (record { question = question; fact = fact }) known)) (name ∷ names) < open_along (fact_in known) (name ∷ names)
path-falls known local_of name names question fact asks =
    let k : Known = record { question = question; fact = fact } in
    walk-falls (fact_in known) (fact_in (with_known k known)) local_of question name names (learns known k) asks

-- two questions for each name

walk-most : (facts : Question → Option Fact) (key : List ℕ) (names : List (List ℕ)) → open_from facts key names ≤ 2 * length names + 2
walk-most facts key [] = let probe = unknown-most (facts (Probe key)) in let head = unknown-most (facts (Head key)) in omega arith
walk-most facts key (name ∷ names) =
    let probe = unknown-most (facts (Probe key)) in
    let head = unknown-most (facts (Head key)) in
    let rest = walk-most facts (key ++ slash ∷ name) names in
    omega arith

pub path-most : (facts : Question → Option Fact) (names : List (List ℕ)) → open_along facts names ≤ 2 * length names
path-most facts [] = omega arith
path-most facts (name ∷ names) = let rest = walk-most facts name names in omega arith
