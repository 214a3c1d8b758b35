-- Each step of the lock keeps its rule.
use Rattle.std.proofs.Common.{◌≡◌, ◌≢◌, ℕ, zero, suc, ◌+◌, ◌<◌, ◌≤◌, ◌^◌, eqb, Bool, true, false, List, [], ◌∷◌, ◌++◌, length, get_or, set, Option, Some, None, ⊎_elim, refl, sym, ap, ◌∙◌, subst, arith}
use Rattle.std.specs.Prelude.{Contains}
use mathlib.Core.Logic.{dite}
use mathlib.Core.Option.{some, none, some-injective, some-ne-none}
use mathlib.Core.Option as maybe
use native.Mathlib.Decide.{ℕ_discrete}
use lib.ListN.{get_elem?}
use lib.Seq.{set-get_or}
use prog.Atomic.{either}
use Rattle.atomic_table.specs.Table.{State, Me, Act, Valid, keeps, takes, gives, rest, step, stepped, carried_after, Allows, Splits, Joins, opening, Final, Seen}
use Rattle.atomic_table.proofs.Lists.{at_set, set_else, set_again, at_longer, at_snoc, exchanged}
use Rattle.turn_lock.specs.declared.view.Phase.{Phase}
use Rattle.turn_lock.specs.declared.view.Phase.TheVariants.{Idle, Waiting, Turn, Left, Closing}
use Rattle.turn_lock.specs.declared.view.View.{View}
use Rattle.turn_lock.specs.Seen.{longer, shorter, IsPrefix, IsOwn, AddsAtMostOne, own_after, StayOpen, ClosesOwn}
use Rattle.turn_lock.specs.View.{ticket_in, is_away, viewed, at_phase, newcomer, after_meeting, spent}
use Rattle.turn_lock.specs.Rule.{IsServed, IsInTurn, AreApart, NobodyIsAway, Fits, IsHome, Ruled}
use Rattle.turn_lock.specs.Steps.{draws, passes, shuts, learns, Begins, sees, gives_back}
use Rattle.turn_lock.proofs.Lists.{prefix_whole, prefix_nothing, prefix_more, prefix_length, prefix_of_both, both_lengths, adds_prefix, stay_less, stay_at_end, stay_added, contains_none}
use Rattle.turn_lock.proofs.Places.{rise_wider, rise_merged, among_merged, own_after_rises, own_after_apart}

set_here : {A : Type 0} (l : List A) (i : ℕ) (a b : A) → get_elem? l i ≡ some a → get_elem? (set l i b) i ≡ some b
set_here [] i a b is = absurd (some-ne-none a (sym is))
set_here (x ∷ xs) zero a b is = refl
set_here (x ∷ xs) (suc i) a b is = set_here xs i a b is

set_swap : {A : Type 0} (l : List A) (i j : ℕ) (a b : A) → i ≢ j → set (set l i a) j b ≡ set (set l j b) i a
set_swap [] i j a b apart = refl
set_swap (x ∷ xs) zero zero a b apart = absurd (apart refl)
set_swap (x ∷ xs) zero (suc j) a b apart = refl
set_swap (x ∷ xs) (suc i) zero a b apart = refl
set_swap {A = A} (x ∷ xs) (suc i) (suc j) a b apart = ap (λ (rest : List A). x ∷ rest) (set_swap xs i j a b (λ same. apart (ap suc same)))

abbrev last_in : {T : Type 0} → List (ℕ × Option T) → Option T
last_in [] = None
last_in (held ∷ more) = held.1

-- the seat after the value went into the slot that it holds
pub put_in : {T V : Type 0} (m after : Me (Option T) V) (value : T) → after ≡ (m.0, (0, Some value) ∷ rest m.1) → m.1 ≡ (0, None) ∷ [] → after ≡ (m.0, (0, Some value) ∷ [])
put_in m after value is held = is ∙ ap (λ cs. (m.0, (0, Some value) ∷ rest cs)) held

-- the slot that a seat took last
pub slot_taken : {S : Type 0} (slots : List (ℕ × S)) (held : S) → slots ≡ (0, held) ∷ [] → slots ≡ (0, held) ∷ rest slots
slot_taken slots held is = is ∙ ap (λ cs. (0, held) ∷ rest cs) (sym is)

set_one : {A : Type 0} (l : List A) (a : A) → length l ≡ 1 → set l 0 a ≡ a ∷ []
set_one [] a is = absurd (omega arith)
set_one (x ∷ []) a is = refl
set_one (x ∷ y ∷ ys) a is = absurd (omega arith)

module _ {E : Type 0} (ticket serving : ℕ) (longest : List E) where
  drawn_within : (seen : List E) (phase : Phase) (drawn : ℕ) → IsInTurn ticket serving longest seen phase → ticket_in phase ≡ Some drawn → (serving ≤ drawn) × (drawn < ticket)
  drawn_within seen Idle drawn turn is = absurd (cc)
  drawn_within seen (Waiting t) drawn turn is = let same : t ≡ drawn = cc in let low = turn.0 in let high = turn.1 in (omega arith, omega arith)
  drawn_within seen (Turn t) drawn turn is = let same : t ≡ drawn = cc in let low = turn.0 in let high = turn.1 in (omega arith, omega arith)
  drawn_within seen (Left t) drawn turn is = let same : t ≡ drawn = cc in let low = turn.0 in let high = turn.1 in (omega arith, omega arith)
  drawn_within seen (Closing t) drawn turn is = let same : t ≡ drawn = cc in let low = turn.0 in let high = turn.1 in (omega arith, omega arith)

  -- one more ticket is drawn
  one_more : (seen : List E) (phase : Phase) → IsInTurn ticket serving longest seen phase → IsInTurn (ticket + 1) serving longest seen phase
  one_more seen Idle turn = tt
  one_more seen (Waiting t) turn = let high = turn.1 in (turn.0, omega arith)
  one_more seen (Turn t) turn = let high = turn.1 in (turn.0, omega arith, turn.2)
  one_more seen (Left t) turn = let high = turn.1 in (turn.0, omega arith, turn.2)
  one_more seen (Closing t) turn = let high = turn.1 in (turn.0, omega arith, turn.2)

  -- a seat whose ticket isn't served stays in turn, where the list or the ticket served goes on
  still_in_turn : (next : ℕ) (after seen : List E) (phase : Phase) → next ≤ serving + 1 → (ticket_in phase ≡ Some serving → ⊥) → IsInTurn ticket serving longest seen phase → IsInTurn ticket next after seen phase
  still_in_turn next after seen Idle on other turn = tt
  still_in_turn next after seen (Waiting t) on other turn = let low = turn.0 in let apart : t ≡ serving → ⊥ = λ same. other (ap Some same) in (omega (arith, apart), turn.1)
  still_in_turn next after seen (Turn t) on other turn = absurd (other (ap Some turn.0))
  still_in_turn next after seen (Left t) on other turn = absurd (other (ap Some turn.0))
  still_in_turn next after seen (Closing t) on other turn = absurd (other (ap Some turn.0))

  away_is_served : (seen : List E) (phase : Phase) → IsInTurn ticket serving longest seen phase → (b : Bool) → is_away phase ≡ b → (ticket_in phase ≡ Some serving → ⊥) → is_away phase ≡ false
  away_is_served seen Idle turn b is other = refl
  away_is_served seen (Waiting t) turn b is other = refl
  away_is_served seen (Turn t) turn b is other = absurd (other (ap Some turn.0))
  away_is_served seen (Left t) turn b is other = refl
  away_is_served seen (Closing t) turn b is other = absurd (other (ap Some turn.0))

closing_is_away : (phase : Phase) (drawn : ℕ) → phase ≡ Closing drawn → is_away phase ≡ true
closing_is_away phase drawn is = ap is_away is

module _ {E G : Type 0} where
  swapped : (v w : View E G) → AreApart v w → AreApart w v
  swapped v w apart = (λ drawn mine other. apart.0 drawn other mine, λ place mine other. apart.1 place other mine)

  -- a seat that holds no ticket and has no own places is apart from each
  apart_from_all : (v w : View E G) → v.phase ≡ Idle → v.own ≡ [] → AreApart v w
  apart_from_all v w idle nothing = (
    (λ drawn mine other. absurd (let e : ticket_in Idle ≡ Some drawn = ap ticket_in (sym idle) ∙ mine in cc)),
    λ place mine other. contains_none place (subst (λ (places : List ℕ). Contains places place) nothing mine),
  )

  -- who was back before is back still
  nobody_before : (views : List (View E G)) (id : ℕ) (v w : View E G) → get_elem? views id ≡ some v → is_away v.phase ≡ false → NobodyIsAway (set views id w) → NobodyIsAway views
  nobody_before views id v w at back nobody j u at_j =
      dite (ℕ_discrete j id)
      (λ (same : j ≡ id). let one : u ≡ v = some-injective u v (sym at_j ∙ ap (get_elem? views) same ∙ at) in ap (λ (x : View E G). is_away x.phase) one ∙ back)
      (λ (other : j ≢ id). nobody j u (set_else views id j w other ∙ at_j))

module _ {T E G : Type 0} (entries : T → List E) (ground_of : T → G) (closes : List E → E → Option ℕ) where
  abbrev Rule : State (Option T) (View E G) → Type 0
  Rule = Ruled entries ground_of closes

  abbrev Homes : Type 0
  Homes = List (maybe.Option (Option T))

  -- the rule after a change of one seat's view
  moved : (s : State (Option T) (View E G)) (r : Rule s) (id ticket serving : ℕ) (longest : List E) (words : List ℕ) (homes : Homes) (w : View E G)
      → words ≡ ticket ∷ serving ∷ [] → length homes ≡ 1 → ticket < 2 ^ 64 → serving ≤ ticket → Fits closes ticket serving longest r.base w
      → ((j : ℕ) (u : View E G) → j ≢ id → get_elem? s.views j ≡ some u → Fits closes ticket serving longest r.base u × AreApart w u)
      → (NobodyIsAway (set s.views id w) → IsHome entries ground_of homes longest r.base)
      → ((j : ℕ) (u : View E G) (drawn : ℕ) → get_elem? (set s.views id w) j ≡ some u → u.phase ≡ Closing drawn → homes ≡ some None ∷ [])
      → Rule record { words = words; homes = homes; views = set s.views id w }
  moved s r id ticket serving longest words homes w words_are one below order fits others home closed = record {
    ticket = ticket;
    serving = serving;
    longest = longest;
    base = r.base;
    two_words = words_are;
    one_slot = one;
    below = below;
    in_order = order;
    each_fits = λ j u at. ⊎_elim (λ (mine : (j ≡ id) × (w ≡ u)). subst (Fits closes ticket serving longest r.base) mine.1 fits) (λ (other : (j ≢ id) × (get_elem? s.views j ≡ some u)). (others j u other.0 other.1).0) (at_set s.views id j w u at);
    all_apart = λ i j u x at_i at_j apart.
        ⊎_elim
        (λ (mine : (i ≡ id) × (w ≡ u)).
        ⊎_elim (λ (too : (j ≡ id) × (w ≡ x)). absurd (apart (mine.0 ∙ sym too.0)))
        (λ (other : (j ≢ id) × (get_elem? s.views j ≡ some x)). subst (λ (y : View E G). AreApart y x) mine.1 (others j x other.0 other.1).1) (at_set s.views id j w x at_j))
        (λ (other : (i ≢ id) × (get_elem? s.views i ≡ some u)).
        ⊎_elim (λ (mine : (j ≡ id) × (w ≡ x)). subst (λ (y : View E G). AreApart u y) mine.1 (swapped w u (others i u other.0 other.1).1))
        (λ (too : (j ≢ id) × (get_elem? s.views j ≡ some x)). r.all_apart i j u x other.1 too.1 apart) (at_set s.views id j w x at_j)) (at_set s.views id i w u at_i);
    at_home = home;
    is_closed = closed;
  }

  -- a step that changes nothing
  nothing_moves : (s : State (Option T) (View E G)) (id i : ℕ) (v : View E G) (cs : List (ℕ × Option T)) → Rule s → get_elem? s.views id ≡ some v → Rule (stepped s i (get_or s.words i 0) id cs v keeps)
  nothing_moves s id i v cs r at = subst (λ (x : List ℕ × List (View E G)). Rule record { words = x.0; homes = s.homes; views = x.1 }) (λ k. (sym (set-get_or s.words i 0) k, sym (set_again s.views id v at) k)) r

  -- where this seat isn't closing, no more seats are than before
  closed_before : (s : State (Option T) (View E G)) (r : Rule s) (id : ℕ) (w : View E G) → is_away w.phase ≡ false → (j : ℕ) (u : View E G) (drawn : ℕ) → get_elem? (set s.views id w) j ≡ some u → u.phase ≡ Closing drawn → s.homes ≡ some None ∷ []
  closed_before s r id w back j u drawn at is =
      ⊎_elim (λ (mine : (j ≡ id) × (w ≡ u)). absurd (let away = closing_is_away u.phase drawn is in let not : is_away u.phase ≡ false = ap (λ (x : View E G). is_away x.phase) (sym mine.1) ∙ back in cc))
      (λ (other : (j ≢ id) × (get_elem? s.views j ≡ some u)). r.is_closed j u drawn other.1 is) (at_set s.views id j w u at)

  -- where the ticket that is served is this seat's, no other seat closes
  none_closes : (s : State (Option T) (View E G)) (r : Rule s) (id : ℕ) (v w : View E G) (homes : Homes) → get_elem? s.views id ≡ some v → ticket_in v.phase ≡ Some r.serving → ((drawn : ℕ) → w.phase ≡ Closing drawn → homes ≡ some None ∷ [])
      → (j : ℕ) (u : View E G) (drawn : ℕ) → get_elem? (set s.views id w) j ≡ some u → u.phase ≡ Closing drawn → homes ≡ some None ∷ []
  none_closes s r id v w homes at mine own j u drawn at_j is =
      ⊎_elim (λ (me : (j ≡ id) × (w ≡ u)). own drawn (ap (λ (x : View E G). x.phase) me.1 ∙ is))
      (λ (other : (j ≢ id) × (get_elem? s.views j ≡ some u)).
      let turn : IsInTurn r.ticket r.serving r.longest u.seen (Closing drawn) = subst (IsInTurn r.ticket r.serving r.longest u.seen) is (r.each_fits j u other.1).in_turn in
      absurd ((r.all_apart id j v u at other.1 (λ same. other.0 (sym same))).0 r.serving mine (ap ticket_in is ∙ ap Some turn.0))) (at_set s.views id j w u at_j)

  -- where this seat is away, nothing is said of the slot
  away_here : (views : List (View E G)) (id : ℕ) (v w : View E G) (homes : Homes) (longest : List E) (base : G) → get_elem? views id ≡ some v → is_away w.phase ≡ true → NobodyIsAway (set views id w) → IsHome entries ground_of homes longest base
  away_here views id v w homes longest base at away nobody = absurd (let back = nobody id w (set_here views id v w at) in cc)

  pub draw_allowed : (slots id drawn : ℕ) (me : Me (Option T) (View E G)) → me.0.phase ≡ Idle → drawn + 1 < 2 ^ 64
      → Allows Rule slots id me 0 (λ n. either (eqb n drawn) (drawn + 1) n) (draws (step slots 0 drawn (drawn + 1) none) me)
  draw_allowed slots id drawn me idle room s r wide at bound =
      exchanged (get_or s.words 0 0) drawn (drawn + 1)
      (λ n. (w : View E G) × (a : Act (Option T)) × Valid s.homes me.1 a × Rule (stepped s 0 n id me.1 w a) × draws (step slots 0 drawn (drawn + 1) none) me (get_or s.words 0 0) (w, carried_after me.1 a)) hit miss
    where
      hit : get_or s.words 0 0 ≡ drawn → (w : View E G) × (a : Act (Option T)) × Valid s.homes me.1 a × Rule (stepped s 0 (drawn + 1) id me.1 w a) × draws (step slots 0 drawn (drawn + 1) none) me (get_or s.words 0 0) (w, carried_after me.1 a)
      hit is =
          let next : drawn ≡ r.ticket = sym is ∙ ap (λ (ws : List ℕ). get_or ws 0 0) r.two_words in
          let order = r.in_order in
          let w : View E G = at_phase (Waiting drawn) me.0 in
          let mine = r.each_fits id me.0 at in
          let back : is_away me.0.phase ≡ false = ap is_away idle in
          let fits : Fits closes (drawn + 1) r.serving r.longest r.base w = record { in_turn = (omega arith, omega arith); seen_begins = mine.seen_begins; met_begins = prefix_nothing me.0.seen; is_own = mine.is_own; stay_open = mine.stay_open; over_base = mine.over_base } in (
            w,
            keeps,
            tt,
            moved s r id (drawn + 1) r.serving r.longest (set s.words 0 (drawn + 1)) s.homes w (ap (λ (ws : List ℕ). set ws 0 (drawn + 1)) r.two_words) r.one_slot room (omega arith) fits
                (λ j u other at_j.
                let f = r.each_fits j u at_j in (
                  record { in_turn = subst (λ (n : ℕ). IsInTurn (n + 1) r.serving r.longest u.seen u.phase) (sym next) (one_more r.ticket r.serving r.longest u.seen u.phase f.in_turn); seen_begins = f.seen_begins; met_begins = f.met_begins; is_own = f.is_own; stay_open = f.stay_open; over_base = f.over_base },
                  (
                    (λ (n : ℕ) (own : Some drawn ≡ Some n) (theirs : ticket_in u.phase ≡ Some n).
                        let same : drawn ≡ n = cc in
                        let b = drawn_within r.ticket r.serving r.longest u.seen u.phase n f.in_turn theirs in absurd (omega (arith, b.1))),
                    (r.all_apart id j me.0 u at at_j (λ same. other (sym same))).1,
                  ),
                ))
                (λ nobody. r.at_home (nobody_before s.views id me.0 w at back nobody)) (closed_before s r id w refl),
            ((λ _. refl), λ other. absurd (other is)),
          )

      miss : get_or s.words 0 0 ≢ drawn → (w : View E G) × (a : Act (Option T)) × Valid s.homes me.1 a × Rule (stepped s 0 (get_or s.words 0 0) id me.1 w a) × draws (step slots 0 drawn (drawn + 1) none) me (get_or s.words 0 0) (w, carried_after me.1 a)
      miss other = (me.0, keeps, tt, nothing_moves s id 0 me.0 me.1 r at, ((λ same. absurd (other same)), λ _. refl))

  pub sees_allowed : (slots id drawn : ℕ) (me : Me (Option T) (View E G)) → me.0.phase ≡ Waiting drawn → me.1 ≡ [] → Allows Rule slots id me 1 (λ n. n) (sees entries ground_of closes (step slots 1 0 0 none) me)
  sees_allowed slots id drawn me waits holds_none s r wide at bound = dite (ℕ_discrete r.serving drawn) hit miss
    where
      read : get_or s.words 1 0 ≡ r.serving
      read = ap (λ (ws : List ℕ). get_or ws 1 0) r.two_words

      mine : Fits closes r.ticket r.serving r.longest r.base me.0
      mine = r.each_fits id me.0 at

      turn : IsInTurn r.ticket r.serving r.longest me.0.seen (Waiting drawn)
      turn = subst (IsInTurn r.ticket r.serving r.longest me.0.seen) waits mine.in_turn

      back : is_away me.0.phase ≡ false
      back = ap is_away waits

      nobody_is : r.serving ≡ drawn → NobodyIsAway s.views
      nobody_is is j u at_j = dite (ℕ_discrete j id) (λ (same : j ≡ id). let one : u ≡ me.0 = some-injective u me.0 (sym at_j ∙ ap (get_elem? s.views) same ∙ at) in ap (λ (x : View E G). is_away x.phase) one ∙ back)
          (λ (other : j ≢ id).
          away_is_served r.ticket r.serving r.longest u.seen u.phase (r.each_fits j u at_j).in_turn (is_away u.phase) refl
          (λ theirs. (r.all_apart id j me.0 u at at_j (λ same. other (sym same))).0 r.serving (ap ticket_in waits ∙ ap Some (sym is)) theirs))

      begun : r.serving ≡ drawn → IsHome entries ground_of s.homes r.longest r.base → (w : View E G) × (a : Act (Option T)) × Valid s.homes me.1 a × Rule (stepped s 1 (get_or s.words 1 0) id me.1 w a) × sees entries ground_of closes (step slots 1 0 0 none) me (get_or s.words 1 0) (w, carried_after me.1 a)
      begun is home =
          let value : T = home.0 in
          let seen : List E = entries value in
          let all : seen ≡ r.longest = home.2 in
          let w : View E G = viewed (Turn drawn) (me.0.turns + 1) seen me.0.own me.0.over in
          let front : IsPrefix me.0.seen seen = subst (IsPrefix me.0.seen) (sym all) mine.seen_begins in
          let own_in : IsOwn me.0.own seen = rise_wider 0 (length me.0.seen) (length seen) me.0.own (prefix_length me.0.seen seen front) mine.is_own in
          let low = turn.0 in
          let high = turn.1 in
          let fits : Fits closes r.ticket r.serving r.longest r.base w = record { in_turn = (sym is, omega arith, all); seen_begins = subst (IsPrefix seen) all (prefix_whole seen); met_begins = prefix_nothing seen; is_own = own_in; stay_open = stay_at_end closes me.0.own seen r.longest all; over_base = mine.over_base } in (
            w,
            takes 0 (Some value),
            ap (λ (hs : Homes). get_elem? hs 0) home.1,
            moved s r id r.ticket r.serving r.longest (set s.words 1 (get_or s.words 1 0)) (set s.homes 0 none) w (ap (λ (ws : List ℕ). set ws 1 (get_or ws 1 0)) r.two_words) (ap (λ (hs : Homes). length (set hs 0 none)) home.1) r.below r.in_order fits
                (λ j u other at_j. (r.each_fits j u at_j, (λ n own theirs. (r.all_apart id j me.0 u at at_j (λ same. other (sym same))).0 n (ap ticket_in waits ∙ own) theirs, (r.all_apart id j me.0 u at at_j (λ same. other (sym same))).1)))
                (away_here s.views id me.0 w (set s.homes 0 none) r.longest r.base at refl) (none_closes s r id me.0 w (set s.homes 0 none) at (ap ticket_in waits ∙ ap Some (sym is)) (λ n closing. absurd (cc))),
            λ n waits_n.
                let one : drawn ≡ n = cc in (
                  (λ _. subst (λ (k : ℕ). Begins entries ground_of closes k me.0 (viewed (Turn drawn) (me.0.turns + 1) seen me.0.own me.0.over, (0, Some value) ∷ me.1)) one (record {
                    value = value;
                    view_is = refl;
                    slot_is = ap (λ (cs : List (ℕ × Option T)). (0, Some value) ∷ cs) holds_none;
                    begins = front;
                    is_own = own_in;
                    stay_open = subst (StayOpen closes me.0.own me.0.seen) (sym all) mine.stay_open;
                    over_same = λ g is_over. home.3 ∙ sym (mine.over_base g is_over);
                  })),
                  λ apart. absurd (apart (read ∙ is ∙ one)),
                ),
          )

      hit : r.serving ≡ drawn → (w : View E G) × (a : Act (Option T)) × Valid s.homes me.1 a × Rule (stepped s 1 (get_or s.words 1 0) id me.1 w a) × sees entries ground_of closes (step slots 1 0 0 none) me (get_or s.words 1 0) (w, carried_after me.1 a)
      hit is = begun is (r.at_home (nobody_is is))

      miss : r.serving ≢ drawn → (w : View E G) × (a : Act (Option T)) × Valid s.homes me.1 a × Rule (stepped s 1 (get_or s.words 1 0) id me.1 w a) × sees entries ground_of closes (step slots 1 0 0 none) me (get_or s.words 1 0) (w, carried_after me.1 a)
      miss other = (me.0, keeps, tt, nothing_moves s id 1 me.0 me.1 r at, λ n waits_n. ((λ same. absurd (let one : drawn ≡ n = cc in other (sym read ∙ same ∙ sym one))), λ _. refl))

  pub gives_allowed : (slots id drawn : ℕ) (v : View E G) (value : T) → v.phase ≡ Turn drawn → v.over ≡ Some (ground_of value) → AddsAtMostOne v.seen (entries value) → ClosesOwn closes v.own v.seen (entries value)
      → Allows Rule slots id (v, (0, Some value) ∷ []) 1 (λ n. n) (gives_back entries ground_of closes (step slots 1 0 0 none) (v, (0, Some value) ∷ []))
  gives_allowed slots id drawn v value turns over adds shut s r wide at bound =
      let after : List E = entries value in
      let mine = r.each_fits id v at in
      let turn : IsServed r.ticket r.serving r.longest v.seen drawn = subst (IsInTurn r.ticket r.serving r.longest v.seen) turns mine.in_turn in
      let all : v.seen ≡ r.longest = turn.2 in
      let own : List ℕ = own_after v.own v.seen after in
      let w : View E G = viewed (Left drawn) v.turns after own v.over in
      let front : IsPrefix v.seen after = adds_prefix v.seen after adds in
      let own_in : IsOwn own after = own_after_rises v.own v.seen after mine.is_own adds in
      let served : ticket_in v.phase ≡ Some r.serving = ap ticket_in turns ∙ ap Some turn.0 in
      let one = set_one s.homes (some (Some value)) r.one_slot in
      let high = turn.1 in
      let read : get_or s.words 1 0 ≡ r.serving = ap (λ (ws : List ℕ). get_or ws 1 0) r.two_words in
      let below = r.below in
      let fits : Fits closes r.ticket r.serving after r.base w = record { in_turn = (turn.0, high, refl); seen_begins = prefix_whole after; met_begins = prefix_nothing after; is_own = own_in; stay_open = stay_at_end closes own after after refl; over_base = mine.over_base } in (
        w,
        gives,
        tt,
        moved s r id r.ticket r.serving after (set s.words 1 (get_or s.words 1 0)) (set s.homes 0 (some (Some value))) w (ap (λ (ws : List ℕ). set ws 1 (get_or ws 1 0)) r.two_words) (ap length one) below r.in_order fits
            (λ j u other at_j.
            let f = r.each_fits j u at_j in
            let apart = r.all_apart id j v u at at_j (λ same. other (sym same)) in
            let u_front : IsPrefix u.seen v.seen = subst (IsPrefix u.seen) (sym all) f.seen_begins in (
              record {
                in_turn = still_in_turn r.ticket r.serving r.longest r.serving after u.seen u.phase (omega arith) (λ theirs. apart.0 r.serving served theirs) f.in_turn;
                seen_begins = prefix_more u.seen v.seen after u_front front;
                met_begins = f.met_begins;
                is_own = f.is_own;
                stay_open = stay_added closes u.own v.own u.seen v.seen after adds shut apart.1 (subst (StayOpen closes u.own u.seen) (sym all) f.stay_open);
                over_base = f.over_base;
              },
              ((λ n own_n theirs. apart.0 n (ap ticket_in turns ∙ own_n) theirs), own_after_apart v.own u.own v.seen after adds (rise_wider 0 (length u.seen) (length v.seen) u.own (prefix_length u.seen v.seen u_front) f.is_own) apart.1),
            )) (λ nobody. (value, one, refl, mine.over_base (ground_of value) over)) (none_closes s r id v w (set s.homes 0 (some (Some value))) at served (λ n closing. absurd (cc))),
        (λ n x turns_n slot.
            let same : drawn ≡ n = cc in
            let both : Some value ≡ Some x = ap last_in slot in
            let is : value ≡ x = cc in (
              read ∙ sym turn.0 ∙ same,
              omega (arith, read),
              subst (λ (y : ℕ × T). viewed (Left drawn) v.turns after own v.over ≡ viewed (Left y.0) v.turns (entries y.1) (own_after v.own v.seen (entries y.1)) v.over) (λ i. (same i, is i)) refl,
              refl,
              subst (λ (y : T). IsOwn (own_after v.own v.seen (entries y)) (entries y)) is own_in,
            )),
      )

  pub passes_allowed : (slots id drawn : ℕ) (me : Me (Option T) (View E G)) → me.0.phase ≡ Left drawn → Allows Rule slots id me 1 (λ _. drawn + 1) (λ _. passes (step slots 1 (drawn + 1) 0 none) me (drawn + 1))
  passes_allowed slots id drawn me left s r wide at bound =
      let v : View E G = me.0 in
      let mine = r.each_fits id v at in
      let turn : IsServed r.ticket r.serving r.longest v.seen drawn = subst (IsInTurn r.ticket r.serving r.longest v.seen) left mine.in_turn in
      let served : ticket_in v.phase ≡ Some r.serving = ap ticket_in left ∙ ap Some turn.0 in
      let w : View E G = at_phase Idle v in
      let high = turn.1 in
      let here = turn.0 in
      let fits : Fits closes r.ticket (drawn + 1) r.longest r.base w = record { in_turn = tt; seen_begins = mine.seen_begins; met_begins = prefix_nothing v.seen; is_own = mine.is_own; stay_open = mine.stay_open; over_base = mine.over_base } in (
        w,
        keeps,
        tt,
        moved s r id r.ticket (drawn + 1) r.longest (set s.words 1 (drawn + 1)) s.homes w (ap (λ (ws : List ℕ). set ws 1 (drawn + 1)) r.two_words) r.one_slot r.below (omega arith) fits
            (λ j u other at_j.
            let f = r.each_fits j u at_j in
            let apart = r.all_apart id j v u at at_j (λ same. other (sym same)) in (
              record { in_turn = still_in_turn r.ticket r.serving r.longest (drawn + 1) r.longest u.seen u.phase (omega arith) (λ theirs. apart.0 r.serving served theirs) f.in_turn; seen_begins = f.seen_begins; met_begins = f.met_begins; is_own = f.is_own; stay_open = f.stay_open; over_base = f.over_base },
              ((λ n own_n theirs. absurd (cc)), apart.1),
            )) (λ nobody. r.at_home (nobody_before s.views id v w at (ap is_away left) nobody)) (closed_before s r id w refl),
        refl,
      )

  pub shuts_allowed : (slots id drawn : ℕ) (v : View E G) → v.phase ≡ Turn drawn → Allows Rule slots id (v, (0, None) ∷ []) 1 (λ n. n) (shuts (step slots 1 0 0 none) (v, (0, None) ∷ []))
  shuts_allowed slots id drawn v turns s r wide at bound =
      let mine = r.each_fits id v at in
      let turn : IsServed r.ticket r.serving r.longest v.seen drawn = subst (IsInTurn r.ticket r.serving r.longest v.seen) turns mine.in_turn in
      let served : ticket_in v.phase ≡ Some r.serving = ap ticket_in turns ∙ ap Some turn.0 in
      let w : View E G = at_phase (Closing drawn) v in
      let one = set_one {A = maybe.Option (Option T)} s.homes (some None) r.one_slot in
      let fits : Fits closes r.ticket r.serving r.longest r.base w = record { in_turn = turn; seen_begins = mine.seen_begins; met_begins = prefix_nothing v.seen; is_own = mine.is_own; stay_open = mine.stay_open; over_base = mine.over_base } in (
        w,
        gives,
        tt,
        moved s r id r.ticket r.serving r.longest (set s.words 1 (get_or s.words 1 0)) (set s.homes 0 (some None)) w (ap (λ (ws : List ℕ). set ws 1 (get_or ws 1 0)) r.two_words) (ap length one) r.below r.in_order fits
            (λ j u other at_j.
            let apart = r.all_apart id j v u at at_j (λ same. other (sym same)) in (r.each_fits j u at_j, ((λ n own_n theirs. apart.0 n (ap ticket_in turns ∙ own_n) theirs), apart.1)))
            (away_here s.views id v w (set s.homes 0 (some None)) r.longest r.base at refl) (none_closes s r id v w (set s.homes 0 (some None)) at served (λ n closing. one)),
        (λ n turns_n. let same : drawn ≡ n = cc in ap (λ (k : ℕ). (at_phase (Closing k) v, [])) same),
      )

  pub learns_allowed : (slots id i : ℕ) (me : Me (Option T) (View E G)) → Allows Rule slots id me i (λ n. n) (learns (step slots i 0 0 none) me)
  learns_allowed slots id i me s r wide at bound = let mine = r.each_fits id me.0 at in (me.0, keeps, tt, nothing_moves s id i me.0 me.1 r at, (refl, mine.met_begins, mine.is_own))

  pub note_allowed : (id : ℕ) (v : View E G) → Splits Rule id v v (newcomer v)
  note_allowed id v s r at =
      let mine = r.each_fits id v at in
      let w : View E G = newcomer v in
      let fits : Fits closes r.ticket r.serving r.longest r.base w = record { in_turn = tt; seen_begins = mine.seen_begins; met_begins = prefix_nothing v.seen; is_own = tt; stay_open = λ k e place from is closed among. contains_none place among; over_base = mine.over_base } in
      subst (λ (views : List (View E G)). Rule record { words = s.words; homes = s.homes; views = views ++ w ∷ [] }) (sym (set_again s.views id v at)) record {
        ticket = r.ticket;
        serving = r.serving;
        longest = r.longest;
        base = r.base;
        two_words = r.two_words;
        one_slot = r.one_slot;
        below = r.below;
        in_order = r.in_order;
        each_fits = λ j u at_j. ⊎_elim (λ (old : get_elem? s.views j ≡ some u). r.each_fits j u old) (λ (same : w ≡ u). subst (Fits closes r.ticket r.serving r.longest r.base) same fits) (at_snoc s.views w u j at_j);
        all_apart = λ i j u x at_i at_j apart.
            ⊎_elim
            (λ (old : get_elem? s.views i ≡ some u).
            ⊎_elim (λ (too : get_elem? s.views j ≡ some x). r.all_apart i j u x old too apart) (λ (same : w ≡ x). swapped x u (apart_from_all x u (ap (λ (y : View E G). y.phase) (sym same)) (ap (λ (y : View E G). y.own) (sym same)))) (at_snoc s.views w x j at_j))
            (λ (same : w ≡ u). apart_from_all u x (ap (λ (y : View E G). y.phase) (sym same)) (ap (λ (y : View E G). y.own) (sym same))) (at_snoc s.views w u i at_i);
        at_home = λ nobody. r.at_home (λ j u at_j. nobody j u (at_longer s.views (w ∷ []) j u at_j));
        is_closed = λ j u drawn at_j is. ⊎_elim (λ (old : get_elem? s.views j ≡ some u). r.is_closed j u drawn old is) (λ (same : w ≡ u). absurd (let idle : u.phase ≡ Idle = ap (λ (y : View E G). y.phase) (sym same) in cc)) (at_snoc s.views w u j at_j);
      }

  -- a seat that is spent knows nothing
  spends : (s : State (Option T) (View E G)) (r : Rule s) (id : ℕ) (v : View E G) → get_elem? s.views id ≡ some v → v.phase ≡ Idle → Rule record { words = s.words; homes = s.homes; views = set s.views id spent }
  spends s r id v at idle =
      moved s r id r.ticket r.serving r.longest s.words s.homes spent r.two_words r.one_slot r.below r.in_order
      (record { in_turn = tt; seen_begins = prefix_nothing r.longest; met_begins = prefix_nothing []; is_own = tt; stay_open = λ k e place from is closed among. contains_none place among; over_base = λ g is. absurd (cc) })
      (λ j u other at_j. (r.each_fits j u at_j, apart_from_all spent u refl refl)) (λ nobody. r.at_home (nobody_before s.views id v spent at (ap is_away idle) nobody)) (closed_before s r id spent refl)

  pub meet_allowed : (id other : ℕ) (v w : View E G) → v.phase ≡ Idle → w.phase ≡ Idle → Joins Rule id v other w (after_meeting v w) spent
  unfolding spends moved
  meet_allowed id other v w idle other_idle s r at apart at_other =
      let at_w : get_elem? s.views other ≡ some w = sym (set_else s.views id other (after_meeting v w) apart) ∙ at_other in
      let mine = r.each_fits id v at in
      let theirs = r.each_fits other w at_w in
      let spent_rule = spends s r other w at_w other_idle in
      let both : View E G = after_meeting v w in
      let beside = r.all_apart id other v w at at_w (λ same. apart (sym same)) in
      let at_v : get_elem? (set s.views other spent) id ≡ some v = set_else s.views other id spent (λ same. apart (sym same)) ∙ at in
      let P : List E → List E → Type 0 = λ less more. IsPrefix less more × IsPrefix more r.longest × (length v.seen ≤ length more) × (length w.seen ≤ length more) in
      let lengths : P (shorter v.seen w.seen) (longer v.seen w.seen) =
      both_lengths P v.seen w.seen (λ less. (prefix_of_both v.seen w.seen r.longest mine.seen_begins theirs.seen_begins (omega arith), theirs.seen_begins, omega arith, omega arith))
      (λ less. (prefix_of_both w.seen v.seen r.longest theirs.seen_begins mine.seen_begins less, mine.seen_begins, omega arith, less)) in
      let more : List E = longer v.seen w.seen in
      let fits : Fits closes r.ticket r.serving r.longest r.base both = record {
        in_turn = subst (IsInTurn r.ticket r.serving r.longest more) (sym idle) tt;
        seen_begins = lengths.1;
        met_begins = lengths.0;
        is_own = rise_merged 0 (length more) v.own w.own (rise_wider 0 (length v.seen) (length more) v.own lengths.2 mine.is_own) (rise_wider 0 (length w.seen) (length more) w.own lengths.3 theirs.is_own) beside.1;
        stay_open = λ k e place from is closed among.
            ⊎_elim (λ (one : Contains v.own place). stay_less closes v.own v.seen more r.longest lengths.2 mine.stay_open k e place from is closed one)
            (λ (one : Contains w.own place). stay_less closes w.own w.seen more r.longest lengths.3 theirs.stay_open k e place from is closed one) (among_merged v.own w.own place among);
        over_base = mine.over_base;
      } in
      subst (λ (views : List (View E G)). Rule record { words = s.words; homes = s.homes; views = views }) (set_swap s.views other id spent both apart)
      (moved (record { words = s.words; homes = s.homes; views = set s.views other spent }) spent_rule id r.ticket r.serving r.longest s.words s.homes both r.two_words r.one_slot r.below r.in_order fits
      (λ j u not at_j. (
        spent_rule.each_fits j u at_j,
        ⊎_elim (λ (gone : (j ≡ other) × (spent ≡ u)). swapped u both (apart_from_all u both (ap (λ (y : View E G). y.phase) (sym gone.1)) (ap (λ (y : View E G). y.own) (sym gone.1))))
            (λ (old : (j ≢ other) × (get_elem? s.views j ≡ some u)).
            let one = r.all_apart id j v u at old.1 (λ same. not (sym same)) in
            let too = r.all_apart other j w u at_w old.1 (λ same. old.0 (sym same)) in (
              one.0,
              λ place among their. ⊎_elim (λ (mine : Contains v.own place). one.1 place mine their) (λ (other's : Contains w.own place). too.1 place other's their) (among_merged v.own w.own place among),
            )) (at_set s.views other j spent u at_j),
      )) (λ nobody. spent_rule.at_home (nobody_before (set s.views other spent) id v both at_v (ap is_away idle) nobody)) (closed_before (record { words = s.words; homes = s.homes; views = set s.views other spent }) spent_rule id both (ap is_away idle)))

  pub opens : (value : T) → Rule (opening (0 ∷ 0 ∷ []) (Some value ∷ []) (viewed Idle 0 (entries value) [] (Some (ground_of value))))
  opens value = record {
    ticket = 0;
    serving = 0;
    longest = entries value;
    base = ground_of value;
    two_words = refl;
    one_slot = refl;
    below = omega arith;
    in_order = omega arith;
    each_fits = λ j u at. subst (Fits closes 0 0 (entries value) (ground_of value)) (alone j u at) (record { in_turn = tt; seen_begins = prefix_whole (entries value); met_begins = prefix_nothing (entries value); is_own = tt; stay_open = λ k e place from is closed among. contains_none place among; over_base = λ g is. cc });
    all_apart = λ i j u x at_i at_j apart. apart_from_all u x (ap (λ (y : View E G). y.phase) (sym (alone i u at_i))) (ap (λ (y : View E G). y.own) (sym (alone i u at_i)));
    at_home = λ nobody. (value, refl, refl, refl);
    is_closed = λ j u drawn at is. absurd (let idle : u.phase ≡ Idle = ap (λ (y : View E G). y.phase) (sym (alone j u at)) in cc);
  }
    where
      alone : (j : ℕ) (u : View E G) → get_elem? (viewed Idle 0 (entries value) [] (Some (ground_of value)) ∷ []) j ≡ some u → viewed Idle 0 (entries value) [] (Some (ground_of value)) ≡ u
      alone zero u at = some-injective (viewed Idle 0 (entries value) [] (Some (ground_of value))) u at
      alone (suc j) u at = absurd (some-ne-none u (sym at))

  -- what is left in the slot of a lock that closed
  pub left_empty : (id drawn : ℕ) (v : View E G) (ws : List ℕ) (xs : List (Option T)) → v.phase ≡ Closing drawn → Final (Seen Rule id v) ws xs → get_elem? xs 0 ≡ some None
  left_empty id drawn v ws xs is final = let s = final.0 in let rule = final.1 in final.4 0 None (ap (λ (hs : Homes). get_elem? hs 0) (rule.0.is_closed id v drawn rule.1 is))

-- a slot that is empty gives no value
pub gives_none : {T : Type 0} (xs : List (Option T)) (found : Option T) (value : T) → get_elem? xs 0 ≡ some None → get_elem? xs 0 ≡ some found → found ≡ Some value → ⊥
gives_none xs found value empty is some_value = absurd (let none_is : None ≡ found = some-injective None found (sym empty ∙ is) in cc)
