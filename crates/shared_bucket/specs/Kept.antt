-- A store that lies in a lock, and what one call does to its history.
use Rattle.std.specs.Prelude.{◌≡◌, ℕ, ◌≤◌, List, [], ◌∷◌, ◌++◌, length, true, false, Option, Some, None}
use Rattle.bucket_model.specs.declared.call.Call.{Call}
use Rattle.bucket_model.specs.declared.answer.Answer.{Answer}
use Rattle.bucket_model.specs.declared.history.Logged.{Logged}
use Rattle.bucket_model.specs.Answers.{brief_of, fits, is_counted}
use Rattle.bucket_model.specs.Bucket.{IsSlice}
use Rattle.bucket_model.specs.History.{History, IsLegalHistory, versions_of}

-- the entries that a store tells
abbrev pub log_of : Option History → List Logged
log_of None = []
log_of (Some told) = told.log

-- it tells its history
abbrev pub IsTold : Option History → Type 0
IsTold None = ⊥
IsTold (Some told) = Unit {0}

-- a store that tells a true history, to which its own callers alone add
pub record IsKept (told : Option History) (is_honest is_alone : Type 0) : Type 0 where
  pub tells : IsTold told
  pub honest : is_honest
  pub alone : is_alone

-- the one entry that a call adds behind the others
pub record AddsOwn (asked : Call) (position : ℕ) (answer : Answer) (before after : List Logged) : Type 0 where
  pub own : Logged
  pub log : after ≡ before ++ own ∷ []
  pub asks : own.entry.call ≡ asked
  pub answers : own.entry.answer ≡ brief_of answer
  pub at_end : position ≡ length before

-- a call of a kept store adds its own entry and no other, or after want of memory none
pub record Goes (asked : Call) (position : ℕ) (answer : Answer) (before after : List Logged) : Type 0 where
  pub adds : is_counted (brief_of answer) ≡ true → AddsOwn asked position answer before after
  pub none : is_counted (brief_of answer) ≡ false → after ≡ before
  pub not_before : length before ≤ position
  pub kind : fits asked (brief_of answer) ≡ true
  pub legal : IsLegalHistory after
  pub slice : IsSlice (versions_of after) asked answer
