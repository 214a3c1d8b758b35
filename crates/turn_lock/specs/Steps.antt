-- What each step tells its seat.
use Rattle.std.specs.Prelude.{◌≡◌, ◌≢◌, ℕ, ◌+◌, ◌^◌, ◌<◌, List, [], ◌∷◌, Option, Some}
use Rattle.atomic_table.specs.Table.{Me, Step}
use Rattle.turn_lock.specs.declared.view.Phase.TheVariants.{Idle, Waiting, Turn, Left, Closing}
use Rattle.turn_lock.specs.declared.view.View.{View}
use Rattle.turn_lock.specs.Seen.{IsPrefix, IsOwn, StayOpen, own_after}
use Rattle.turn_lock.specs.View.{viewed, at_phase}

module _ {T E G : Type 0} where
  -- the ticket is the seat's, unless another seat drew it meanwhile
  abbrev pub draws : Step (Option T) → Me (Option T) (View E G) → ℕ → Me (Option T) (View E G) → Type 0
  draws st m found m' = (found ≡ st.first → m' ≡ (at_phase (Waiting st.first) m.0, m.1)) × (found ≢ st.first → m' ≡ m)

  -- the turn goes to the next ticket
  abbrev pub passes : Step (Option T) → Me (Option T) (View E G) → ℕ → Me (Option T) (View E G) → Type 0
  passes st m found m' = m' ≡ (at_phase Idle m.0, m.1)

  -- the value is taken out for good
  abbrev pub shuts : Step (Option T) → Me (Option T) (View E G) → ℕ → Me (Option T) (View E G) → Type 0
  shuts st m found m' = (drawn : ℕ) → m.0.phase ≡ Turn drawn → m' ≡ (at_phase (Closing drawn) m.0, [])

  -- nothing changes, and the seat is told that what it met begins what it has seen
  abbrev pub learns : Step (Option T) → Me (Option T) (View E G) → ℕ → Me (Option T) (View E G) → Type 0
  learns st m found m' = (m' ≡ m) × IsPrefix m.0.met m.0.seen × IsOwn m.0.own m.0.seen

module _ {T E G : Type 0} (entries : T → List E) (ground_of : T → G) (closes : List E → E → Option ℕ) where
  -- the turn begins: the seat has the value, which begins with what it has seen
  pub record Begins (drawn : ℕ) (v : View E G) (m' : Me (Option T) (View E G)) : Type 0 where
    pub value : T
    pub view_is : m'.0 ≡ viewed (Turn drawn) (v.turns + 1) (entries value) v.own v.over
    pub slot_is : m'.1 ≡ (0, Some value) ∷ []
    pub begins : IsPrefix v.seen (entries value)
    pub is_own : IsOwn v.own (entries value)
    pub stay_open : StayOpen closes v.own v.seen (entries value)
    pub over_same : (over : G) → v.over ≡ Some over → ground_of value ≡ over

  -- the turn begins where the seat's ticket is served
  abbrev pub sees : Step (Option T) → Me (Option T) (View E G) → ℕ → Me (Option T) (View E G) → Type 0
  sees st m found m' = (drawn : ℕ) → m.0.phase ≡ Waiting drawn → (found ≡ drawn → Begins drawn m.0 m') × (found ≢ drawn → m' ≡ m)

  -- the value is back in the lock, and the seat has seen what it stands for
  abbrev pub gives_back : Step (Option T) → Me (Option T) (View E G) → ℕ → Me (Option T) (View E G) → Type 0
  gives_back st m found m' = (drawn : ℕ) (value : T) → m.0.phase ≡ Turn drawn → m.1 ≡ (0, Some value) ∷ []
      → (found ≡ drawn) × (found + 1 < 2 ^ 64) × (m'.0 ≡ viewed (Left drawn) m.0.turns (entries value) (own_after m.0.own m.0.seen (entries value)) m.0.over) × (m'.1 ≡ [])
      × IsOwn (own_after m.0.own m.0.seen (entries value)) (entries value)
