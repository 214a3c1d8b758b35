-- The steps of the passes that prepare a table.
use Rattle.std.proofs.Common.{◌≡◌, ℕ, suc, ◌+◌, ◌<◌, ◌≤◌, List, [], ◌∷◌, ◌++◌, length, get_or, drop, reverse, map, Bool, true, false, ◌==◌, ◌||◌, not, cond, Option, Some, refl, sym, ap, ◌∙◌, arith, append_assoc, add-one, drop-cons}
use Rattle.std.specs.List.{list_any}
use Rattle.std.specs.Ordering.{nat_cmp, is_eq}
use Rattle.std.proofs.lemmas.Bool.Decides.{nat_tests}
use Rattle.std.proofs.lemmas.Grind.{reverse_onto}
use Rattle.mount_model.specs.declared.request.Line.{Line}
use Rattle.mount_model.specs.declared.standing.Standing.{Standing}
use Rattle.mount_model.specs.Run.{is_among, startable, startable_from, AreRising}
use Rattle.line_table.specs.Table.{waiting, script_of, first_of, followers_of, OneEach, open_place, IsTable}
use Rattle.line_table.proofs.Starts.{startable_step, same_busy, or_known}

pub is_eq-nat_cmp : (x y : ℕ) → is_eq (nat_cmp x y) ≡ (x == y)
is_eq-nat_cmp x y = grind (arith, nat_tests)

-- one line more, from the last line up
pub followers_step : (line : Line) (rest : List Line) (followers : List (Option ℕ)) (follower : Option ℕ) → followers ≡ reverse (followers_of rest) → follower ≡ first_of line.actor rest → followers ++ follower ∷ [] ≡ reverse (followers_of (line ∷ rest))
followers_step line rest followers follower done is = rw (done, is) (sym (reverse_onto (followers_of rest) (first_of line.actor rest) []))

pub first_step : (line : Line) (rest : List Line) (actor : ℕ) → cond (is_eq (nat_cmp line.actor actor)) (Some line.number) (first_of actor rest) ≡ first_of actor (line ∷ rest)
first_step line rest actor = rw (is_eq-nat_cmp line.actor actor)

pub among-contains : (k : ℕ) (keys : List ℕ) → list_any (λ q. is_eq (nat_cmp k q)) keys ≡ is_among k keys
among-contains k [] = refl
among-contains k (q ∷ keys) =
    let here : is_eq (nat_cmp k q) ≡ (q == k) = grind (arith, nat_tests) in
    rw (here, among-contains k keys)

-- busy actors, as a set tells them
pub among_updated : (k : ℕ) (keys keys' : List ℕ) → ((q : ℕ) → list_any (λ x. is_eq (nat_cmp q x)) keys' ≡ cond (is_eq (nat_cmp k q)) true (list_any (λ x. is_eq (nat_cmp q x)) keys)) → (q : ℕ) → is_among q (k ∷ keys) ≡ is_among q keys'
among_updated k keys keys' updates q = sym (sym (among-contains q keys') ∙ updates q ∙ (rw (is_eq-nat_cmp k q, among-contains q keys) (or_is (k == q) (is_among q keys))))
  where
    or_is : (t b : Bool) → cond t true b ≡ (t || b)
    or_is true b = refl
    or_is false b = refl

-- a line whose actor isn't busy above may begin
pub start_first : (line : Line) (rest : List Line) (keys keys' numbers whole : List ℕ) → numbers ++ startable_from keys (map waiting (line ∷ rest)) ≡ whole → ((q : ℕ) → is_among q (line.actor ∷ keys) ≡ is_among q keys') → is_among line.actor keys ≡ false → (numbers ++ line.number ∷ []) ++ startable_from keys' (map waiting rest) ≡ whole
start_first line rest keys keys' numbers whole done alike free =
    let more = same_busy (line.actor ∷ keys) keys' (map waiting rest) alike in
    append_assoc numbers (line.number ∷ []) (startable_from keys' (map waiting rest)) ∙ ap (λ xs. numbers ++ xs) (sym (startable_step keys (waiting line) (map waiting rest) ∙ (rw (free, more)))) ∙ done

pub start_other : (line : Line) (rest : List Line) (keys keys' numbers whole : List ℕ) → numbers ++ startable_from keys (map waiting (line ∷ rest)) ≡ whole → ((q : ℕ) → is_among q (line.actor ∷ keys) ≡ is_among q keys') → is_among line.actor keys ≡ true → numbers ++ startable_from keys' (map waiting rest) ≡ whole
start_other line rest keys keys' numbers whole done alike busy =
    let same = same_busy keys keys' (map waiting rest) (λ q. or_known q line.actor keys busy ∙ alike q) in
    ap (λ xs. numbers ++ xs) (sym (startable_step keys (waiting line) (map waiting rest) ∙ (rw (busy, same)))) ∙ done

-- the table of a script

script_waits : (lines : List Line) → script_of (map waiting lines) ≡ lines
script_waits [] = refl
script_waits (line ∷ lines) = ap (λ xs. line ∷ xs) (script_waits lines)

one_each_waits : (busy : List ℕ) (lines : List Line) → OneEach busy (map waiting lines)
one_each_waits busy [] = tt
one_each_waits busy (line ∷ lines) = (λ among. refl, one_each_waits (line.actor ∷ busy) lines)

length_waits : (lines : List Line) → length (map waiting lines) ≡ length lines
length_waits [] = refl
length_waits (line ∷ lines) = ap suc (length_waits lines)

pub new_table : (lines : List Line) (standings : List Standing) (followers : List (Option ℕ)) (numbers : List ℕ) (room first : ℕ) → AreRising 0 lines → standings ≡ map waiting lines → followers ≡ followers_of lines → numbers ≡ startable (map waiting lines) → length lines ≤ room → first ≡ open_place standings → IsTable standings followers numbers room first
new_table lines standings followers numbers room first rising is follow start has_room from_open =
    let script : script_of standings ≡ lines = ap script_of is ∙ script_waits lines in
    record {
      rising = rw script rising;
      one_each = rw is (one_each_waits [] lines);
      follow = follow ∙ ap followers_of (sym script);
      may_start = start ∙ ap startable (sym is);
      has_room = rw (is, length_waits lines) has_room;
      from_open = from_open;
    }

-- one line of a pass from the first line down
pub drop_at : (lines : List Line) (i : ℕ) (line : Line) → i < length lines → line ≡ get_or lines i line → drop i lines ≡ line ∷ drop (i + 1) lines
drop_at lines i line within is = drop-cons lines i line within ∙ (rw (← is, add-one) refl)

pub free_from_added : (k : ℕ) (keys : List ℕ) (added : Bool) → added ≡ not (list_any (λ q. is_eq (nat_cmp k q)) keys) → added ≡ true → is_among k keys ≡ false
free_from_added k keys added is yes_ = sym (among-contains k keys) ∙ not_is (list_any (λ q. is_eq (nat_cmp k q)) keys) (sym is ∙ yes_)
  where
    not_is : (b : Bool) → not b ≡ true → b ≡ false
    not_is true h = absurd (cc)
    not_is false h = refl

pub busy_from_added : (k : ℕ) (keys : List ℕ) (added : Bool) → added ≡ not (list_any (λ q. is_eq (nat_cmp k q)) keys) → added ≡ false → is_among k keys ≡ true
busy_from_added k keys added is no_ = sym (among-contains k keys) ∙ not_is (list_any (λ q. is_eq (nat_cmp k q)) keys) (sym is ∙ no_)
  where
    not_is : (b : Bool) → not b ≡ false → b ≡ true
    not_is true h = refl
    not_is false h = absurd (cc)
