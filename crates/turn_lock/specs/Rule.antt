-- The rule of the lock. Word 0 is the ticket that is drawn next, and word 1 the ticket that is served.
use Rattle.std.specs.Prelude.{◌≡◌, ℕ, ◌^◌, ◌<◌, ◌≤◌, List, [], ◌∷◌, length, Contains, false, Option, Some, None}
use mathlib.Core.Option.{some}
use mathlib.Core.Option as maybe
use lib.ListN.{get_elem?}
use Rattle.atomic_table.specs.Table.{State}
use Rattle.turn_lock.specs.declared.view.Phase.{Phase}
use Rattle.turn_lock.specs.declared.view.Phase.TheVariants.{Idle, Waiting, Turn, Left, Closing}
use Rattle.turn_lock.specs.declared.view.View.{View}
use Rattle.turn_lock.specs.Seen.{IsPrefix, IsOwn, StayOpen}
use Rattle.turn_lock.specs.View.{ticket_in, is_away}

module _ {E : Type 0} where
  -- who is served has seen all
  abbrev pub IsServed : ℕ → ℕ → List E → List E → ℕ → Type 0
  IsServed ticket serving longest seen own_ticket = (own_ticket ≡ serving) × (serving < ticket) × (seen ≡ longest)

  abbrev pub IsInTurn : ℕ → ℕ → List E → List E → Phase → Type 0
  IsInTurn ticket serving longest seen Idle = Unit {0}
  IsInTurn ticket serving longest seen (Waiting drawn) = (serving ≤ drawn) × (drawn < ticket)
  IsInTurn ticket serving longest seen (Turn drawn) = IsServed ticket serving longest seen drawn
  IsInTurn ticket serving longest seen (Left drawn) = IsServed ticket serving longest seen drawn
  IsInTurn ticket serving longest seen (Closing drawn) = IsServed ticket serving longest seen drawn

module _ {E G : Type 0} where
  -- no ticket and no place is of two seats
  abbrev pub AreApart : View E G → View E G → Type 0
  AreApart v w = ((drawn : ℕ) → ticket_in v.phase ≡ Some drawn → ticket_in w.phase ≡ Some drawn → ⊥) × ((place : ℕ) → Contains v.own place → Contains w.own place → ⊥)

  abbrev pub NobodyIsAway : List (View E G) → Type 0
  NobodyIsAway views = (j : ℕ) (v : View E G) → get_elem? views j ≡ some v → is_away v.phase ≡ false

module _ {E G : Type 0} (closes : List E → E → Option ℕ) where
  -- what a seat knows is so
  pub record Fits (ticket serving : ℕ) (longest : List E) (base : G) (v : View E G) : Type 0 where
    pub in_turn : IsInTurn ticket serving longest v.seen v.phase
    pub seen_begins : IsPrefix v.seen longest
    pub met_begins : IsPrefix v.met v.seen
    pub is_own : IsOwn v.own v.seen
    pub stay_open : StayOpen closes v.own v.seen longest
    pub over_base : (over : G) → v.over ≡ Some over → over ≡ base

module _ {T E G : Type 0} (entries : T → List E) (ground_of : T → G) where
  -- the value is in the lock, and stands for all
  abbrev pub IsHome : List (maybe.Option (Option T)) → List E → G → Type 0
  IsHome homes longest base = (value : T) × (homes ≡ some (Some value) ∷ []) × (entries value ≡ longest) × (ground_of value ≡ base)

module _ {T E G : Type 0} (entries : T → List E) (ground_of : T → G) (closes : List E → E → Option ℕ) where
  pub record Ruled (s : State (Option T) (View E G)) : Type 0 where
    pub ticket : ℕ
    pub serving : ℕ
    pub longest : List E
    pub base : G
    pub two_words : s.words ≡ ticket ∷ serving ∷ []
    pub one_slot : length s.homes ≡ 1
    pub below : ticket < 2 ^ 64
    pub in_order : serving ≤ ticket
    pub each_fits : (j : ℕ) (v : View E G) → get_elem? s.views j ≡ some v → Fits closes ticket serving longest base v
    pub all_apart : (i j : ℕ) (v w : View E G) → get_elem? s.views i ≡ some v → get_elem? s.views j ≡ some w → (i ≡ j → ⊥) → AreApart v w
    pub at_home : NobodyIsAway s.views → IsHome entries ground_of s.homes longest base
    pub is_closed : (j : ℕ) (v : View E G) (drawn : ℕ) → get_elem? s.views j ≡ some v → v.phase ≡ Closing drawn → s.homes ≡ some None ∷ []
