-- The answer to a question: at which place, and among facts of which the last may stand apart.
use Rattle.std.proofs.Common.{◌≡◌, ℕ, ◌+◌, ◌-◌, ◌<◌, Bool, true, false, cond, List, [], ◌∷◌, ◌++◌, length, drop, get_or, slice_get, length-drop, Option, Some, None, option_copied, Bor, refl, sym, ap, ◌∙◌, arith}
use Rattle.std.specs.Prelude.{option_map, nat_lt}
use Rattle.std.specs.Option.{option_or}
use Rattle.std.specs.List.{find, position, position_or_len, slice_range}
use Rattle.std.proofs.Math.Seq.{drop-nil, take_all}
use Rattle.std.proofs.lemmas.Bool.{ltb-false}
use Rattle.std.proofs.lemmas.List.Folds.{find_at, find-append}
use Rattle.std.proofs.lemmas.List.{get_or-drop}
use Rattle.std.proofs.lemmas.List.Quantifiers.{position-Some}
use Rattle.std.proofs.lemmas.Option.{slice_get_past, slice_get-get_or}
use Rattle.mp_rules.specs.declared.facts.Known.{Known}
use Rattle.mp_rules.specs.declared.facts.Question.{Question}
use Rattle.mp_rules.specs.Walk.{AreDistinct, fact_in, is_question}
use Rattle.mp_rules.proofs.Answered.{found-at}

-- the facts from a place on
from_place : (own : List Known) (start : ℕ) → slice_range own start (length own) ≡ drop start own
from_place own start = take_all (length own - start) (drop start own) (omega (arith, length-drop start own))

found_nowhere : {A : Type 0} (p : A → Bool) (xs : List A) → position p xs ≡ None → find p xs ≡ None
found_nowhere p xs none = go (nat_lt (position_or_len p xs) (length xs)) refl none
  where
    go : (b : Bool) → nat_lt (position_or_len p xs) (length xs) ≡ b → cond b (Some (position_or_len p xs)) None ≡ None → find p xs ≡ None
    go true within is = absurd (cc)
    go false past is = find_at p xs ∙ slice_get_past xs (position_or_len p xs) (ltb-false _ _ past)

-- a place with the question's own is that of its fact
pub found_behind : (question : Question) (own rest : List Known) (start behind : ℕ) → AreDistinct own → rest ≡ slice_range own start (length own) → Some behind ≡ position (λ known. is_question question known.question) rest
    → (start + behind < length own) × (find (λ known. is_question question known.question) own ≡ slice_get own (start + behind))
found_behind question own rest start behind distinct is at = by_first own distinct (ap (position (λ known. is_question question known.question)) (sym (is ∙ from_place own start)) ∙ sym at)
  where
    by_first : (own : List Known) → AreDistinct own → position (λ known. is_question question known.question) (drop start own) ≡ Some behind
        → (start + behind < length own) × (find (λ known. is_question question known.question) own ≡ slice_get own (start + behind))
    by_first [] distinct there =
        let none : position (λ known. is_question question known.question) (drop {A = Known} start []) ≡ None = ap (position (λ (known : Known). is_question question known.question)) (drop-nil start) in
        absurd (cc)
    by_first (first ∷ others) distinct there =
        let all : List Known = first ∷ others in
        let passes = position-Some (λ known. is_question question known.question) (drop start all) behind first there in
        let within : start + behind < length all = omega (arith, passes.0, length-drop start all) in
        let known : Known = get_or all (start + behind) first in
        let stands : slice_get all (start + behind) ≡ Some known = slice_get-get_or all (start + behind) first within in
        let asked : is_question question known.question ≡ true = ap (λ (k : Known). is_question question k.question) (sym (get_or-drop start all behind first)) ∙ passes.1 in
        (within, found-at all (start + behind) known question distinct stands asked ∙ sym stands)

pub found_nowhere_behind : (question : Question) (own rest : List Known) (start : ℕ) → rest ≡ slice_range own start (length own) → None ≡ position (λ known. is_question question known.question) rest → find (λ known. is_question question known.question) (drop start own) ≡ None
found_nowhere_behind question own rest start is none =
    found_nowhere (λ known. is_question question known.question) (drop start own) (ap (position (λ known. is_question question known.question)) (sym (is ∙ from_place own start)) ∙ sym none)

copied_or : (a b : Option (Bor Known)) → option_copied (option_or a b) ≡ option_or (option_copied a) (option_copied b)
copied_or None b = refl
copied_or (Some known) b = refl

-- the answer of what was found among the own facts, or else apart
pub fact_is : (question : Question) (own last : List Known) (among apart found : Option (Bor Known)) → option_copied among ≡ find (λ known. is_question question known.question) own → option_copied apart ≡ find (λ known. is_question question known.question) last
    → found ≡ option_or among apart → option_map (λ known. known.fact) (option_copied found) ≡ fact_in (own ++ last) question
fact_is question own last among apart found first second is =
    ap (λ (f : Option Known). option_map (λ known. known.fact) f) (ap option_copied is ∙ (copied_or among apart ∙ rw (first, second) (sym (find-append (λ known. is_question question known.question) own last))))
