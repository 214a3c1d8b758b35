-- What one call does to a store whose bucket others change meanwhile.
use Rattle.std.specs.Prelude.{◌≡◌, ℕ, ◌<◌, nat_eq, List, [], ◌∷◌, map, filter, Option, Some, None, if◌then◌else◌}
use Rattle.std.specs.BTreeMap as tree
use Rattle.std.specs.BTreeMap.{BTreeMap}
use Rattle.std.specs.Global.{Vec}
use Rattle.std.specs.Ordering.{nat_cmp}
use Rattle.mp_types.specs.Count.{risen}
use Rattle.bucket_model.specs.declared.call.Call.{Call}
use Rattle.bucket_model.specs.declared.answer.Answer.{Answer}
use Rattle.fault_store.specs.declared.change.Change.{Change}
use Rattle.fault_store.specs.declared.meddled.Meddled.{Meddled}
use Rattle.fault_store.specs.Change.{calls_of}

-- the changes that are listed for the number, in order
abbrev pub changes_for : ℕ → List (ℕ × Call) → List Call
changes_for number changes = map (λ change. change.1) (filter (λ change. nat_eq change.0 number) changes)

-- the calls of what the map has for a number
abbrev pub calls_in : Option (Vec Change) → List Call
calls_in None = []
calls_in (Some changes) = calls_of changes.items

-- the changes to be made before the call with this number, in order
abbrev pub changes_at : BTreeMap ℕ (Vec Change) → ℕ → List Call
changes_at listed number = calls_in (tree.get nat_cmp listed number)

-- a store around this one, with these changes ahead
pub record Starts {S : Type 0} (around : S) (changes : List (ℕ × Call)) (store : Meddled S) : Type 0 where
  pub inner : store.inner ≡ around
  pub listed : (number : ℕ) → changes_at store.listed number ≡ changes_for number changes
  pub calls : store.calls ≡ 0

-- a call is made, whatever it is answered with
pub record IsMade {S : Type 0} (Called : Call → ℕ → Answer → S → S → Type 0) (asked : Call) (old new : S) : Type 0 where
  pub place : ℕ
  pub answer : Answer
  pub called : Called asked place answer old new

-- the calls are made one after another, each once
abbrev pub Makes : {S : Type 0} → (Call → ℕ → Answer → S → S → Type 0) → List Call → S → S → Type 0
Makes Called [] old new = new ≡ old
Makes {S} Called (asked ∷ more) old new = (next : S) × IsMade Called asked old next × Makes Called more next new

-- a call's changes are made once
abbrev pub LeavesOthers : ℕ → BTreeMap ℕ (Vec Change) → BTreeMap ℕ (Vec Change) → Type 0
LeavesOthers made old new = (number : ℕ) → changes_at new number ≡ (if nat_eq made number then [] else changes_at old number)

-- the changes listed for the next call are made
pub record Meddles {S : Type 0} (Called : Call → ℕ → Answer → S → S → Type 0) (old new : Meddled S) : Type 0 where
  pub calls : new.calls ≡ risen old.calls
  pub makes : Makes Called (changes_at old.listed (risen old.calls)) old.inner new.inner
  pub others : LeavesOthers (risen old.calls) old.listed new.listed

-- the changes listed for the call are made, and then the call
pub record IsServedBehind {S : Type 0} (Called : Call → ℕ → Answer → S → S → Type 0) (asked : Call) (place : ℕ) (answer : Answer) (old new : Meddled S) : Type 0 where
  pub calls : new.calls ≡ risen old.calls
  pub between : S
  pub makes : Makes Called (changes_at old.listed (risen old.calls)) old.inner between
  pub called : Called asked place answer between new.inner
  pub others : LeavesOthers (risen old.calls) old.listed new.listed

-- the inner store has no other client, and no change is left to be made
pub record IsLeftAlone (is_alone : Type 0) (listed : BTreeMap ℕ (Vec Change)) : Type 0 where
  pub inner : is_alone
  pub none_left : (number : ℕ) → 0 < number → changes_at listed number ≡ []
