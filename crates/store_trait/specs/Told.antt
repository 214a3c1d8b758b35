-- What one call adds to the history that a store tells.
use Rattle.std.specs.Prelude.{◌≡◌, ℕ, ◌+◌, List, [], ◌∷◌, ◌++◌, length, Contains, Bool, true, false, Option, Some, None}
use Rattle.bucket_model.specs.declared.call.Call.{Call}
use Rattle.bucket_model.specs.declared.answer.Answer.{Answer}
use Rattle.bucket_model.specs.declared.answer.Brief.{Brief}
use Rattle.bucket_model.specs.declared.history.Logged.{Logged}
use Rattle.bucket_model.specs.Answers.{is_counted}
use Rattle.bucket_model.specs.Bucket.{ObjectVersion, IsSlice}
use Rattle.bucket_model.specs.History.{History, IsChange}

-- changes by others alone
abbrev pub AreChanges : List Logged → Type 0
AreChanges log = (logged : Logged) → Contains log logged → IsChange logged.entry.call

-- no version is lost
abbrev pub KeepsVersions : List ObjectVersion → List ObjectVersion → Type 0
KeepsVersions old new = (more : List ObjectVersion) × (new ≡ old ++ more)

-- The call's own entry stands at its position, and beside it stand changes by others alone.
pub record AddsEntry (is_alone : Type 0) (asked : Call) (place : ℕ) (answer : Brief) (old new : History) : Type 0 where
  pub earlier : List Logged
  pub own : Logged
  pub later : List Logged
  pub log : new.log ≡ old.log ++ (earlier ++ own ∷ later)
  pub at_place : length old.log + length earlier ≡ place
  pub asks : own.entry.call ≡ asked
  pub answers : own.entry.answer ≡ answer
  pub by_others_before : AreChanges earlier
  pub by_others_behind : AreChanges later
  pub alone : is_alone → (earlier ≡ []) × (later ≡ [])
  pub versions : KeepsVersions old.versions new.versions

-- After want of memory the call has no entry of its own.
pub record AddsNone (is_alone : Type 0) (old new : History) : Type 0 where
  pub others : List Logged
  pub log : new.log ≡ old.log ++ others
  pub by_others : AreChanges others
  pub alone : is_alone → others ≡ []
  pub versions : KeepsVersions old.versions new.versions

abbrev pub AddsFor : Bool → Type 0 → Call → ℕ → Brief → History → History → Type 0
AddsFor true is_alone asked place answer old new = AddsEntry is_alone asked place answer old new
AddsFor false is_alone asked place answer old new = AddsNone is_alone old new

abbrev pub Adds : Type 0 → Call → ℕ → Brief → History → History → Type 0
Adds is_alone asked place answer old new = AddsFor (is_counted answer) is_alone asked place answer old new

-- A store tells its history always or never, and each call adds to it.
abbrev pub Tells : Type 0 → Call → ℕ → Brief → Option History → Option History → Type 0
Tells is_alone asked place answer None None = Unit {0}
Tells is_alone asked place answer (Some old) (Some new) = Adds is_alone asked place answer old new
Tells is_alone asked place answer None (Some new) = ⊥
Tells is_alone asked place answer (Some old) None = ⊥

-- bytes that a store brings are those of a version that it tells
abbrev pub BringsSlice : Call → Answer → Option History → Type 0
BringsSlice asked answer None = Unit {0}
BringsSlice asked answer (Some told) = IsSlice told.versions asked answer
