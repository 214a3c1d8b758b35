-- What one call does to a store whose listed calls fail, and what that store tells.
use Rattle.std.specs.Prelude.{◌≡◌, ℕ, Bool, true, false, List, [], ◌∷◌, ◌++◌, Option, Some, None, option_map, find, nat_eq, IfSome, OnSome, ◌⊎◌}
use Rattle.std.specs.BTreeMap as tree
use Rattle.std.specs.BTreeMap.{BTreeMap}
use Rattle.std.specs.Ordering.{nat_cmp}
use Rattle.mp_types.specs.Count.{risen}
use Rattle.bucket_model.specs.declared.call.Call.{Call}
use Rattle.bucket_model.specs.declared.answer.Answer.{Answer}
use Rattle.bucket_model.specs.declared.answer.Answer.TheVariants.{Fault, NoMemory}
use Rattle.bucket_model.specs.declared.answer.Answer.TheVariants as said
use Rattle.bucket_model.specs.declared.page.Page.{Page}
use Rattle.bucket_model.specs.declared.history.Logged.{Logged}
use Rattle.bucket_model.specs.Answers.{brief_of, is_counted}
use Rattle.bucket_model.specs.History.{History, IsLegalHistory, IsNewUpload, replay, versions_of}
use Rattle.fault_store.specs.declared.faulty.Faulty.{Faulty}
use Rattle.fault_store.specs.declared.faulty.When.{When}
use Rattle.fault_store.specs.declared.faulty.When.TheVariants.{Before, After}
use Rattle.fault_store.specs.Entries.{entry_before, entries_of, shown}

-- when the call with this number fails, if it does
abbrev pub when_at : BTreeMap ℕ When → ℕ → Option When
when_at listed number = tree.get nat_cmp listed number

-- the first entry for the number
abbrev pub first_listed : ℕ → List (ℕ × When) → Option When
first_listed number faults = option_map (λ entry. entry.1) (find (λ entry. nat_eq entry.0 number) faults)

-- a store around this one, with these faults ahead
pub record Starts {S : Type 0} (around : S) (faults : List (ℕ × When)) (store : Faulty S) : Type 0 where
  pub inner : store.inner ≡ around
  pub listed : (number : ℕ) → when_at store.listed number ≡ first_listed number faults
  pub calls : store.calls ≡ 0
  pub failed : store.failed ≡ 0
  pub log : store.log.items ≡ []

-- there was no memory for the call's entry, and the inner store isn't called
pub record RunsShort {S : Type 0} (answer : Answer) (old new : Faulty S) : Type 0 where
  pub answer_is : answer ≡ NoMemory
  pub inner : new.inner ≡ old.inner
  pub log : new.log.items ≡ old.log.items
  pub failed : new.failed ≡ old.failed

-- the call fails, and the inner store isn't called
pub record FailsBefore {S : Type 0} (asked : Call) (answer : Answer) (old new : Faulty S) : Type 0 where
  pub answer_is : answer ≡ Fault
  pub inner : new.inner ≡ old.inner
  pub log : new.log.items ≡ old.log.items ++ entry_before asked ∷ []
  pub failed : new.failed ≡ risen old.failed

-- how many listed calls failed, where this one's answer has an entry and is hidden or not
abbrev pub failed_after : Bool → Bool → ℕ → ℕ
failed_after true true failed = risen failed
failed_after true false failed = failed
failed_after false hides failed = failed

-- the inner store is called, and its answer is handed on or hidden
pub record Reaches {S : Type 0} (Called : ℕ → Answer → S → S → Type 0) (asked : Call) (hides : Bool) (answer : Answer) (old new : Faulty S) : Type 0 where
  pub place : ℕ
  pub said : Answer
  pub called : Called place said old.inner new.inner
  pub answer_is : answer ≡ shown (is_counted (brief_of said)) hides said
  pub log : new.log.items ≡ old.log.items ++ entries_of (is_counted (brief_of said)) hides asked said
  pub failed : new.failed ≡ failed_after (is_counted (brief_of said)) hides old.failed

-- the inner store is called and answers a page whose items have too many owners, so there is no memory for its entry
pub record LosesPage {S : Type 0} (Called : ℕ → Answer → S → S → Type 0) (answer : Answer) (old new : Faulty S) : Type 0 where
  pub answer_is : answer ≡ NoMemory
  pub place : ℕ
  pub page : Page
  pub called : Called place (said.Page page) old.inner new.inner
  pub log : new.log.items ≡ old.log.items
  pub failed : new.failed ≡ old.failed

-- the inner store is called; only a page that is to be handed on can be lost
abbrev pub Conveys : {S : Type 0} → (ℕ → Answer → S → S → Type 0) → Call → Bool → Answer → Faulty S → Faulty S → Type 0
Conveys Called asked true answer old new = Reaches Called asked true answer old new
Conveys Called asked false answer old new = Reaches Called asked false answer old new ⊎ LosesPage Called answer old new

-- what a call does that is listed so, or isn't listed
abbrev pub Serves : {S : Type 0} → Option When → (ℕ → Answer → S → S → Type 0) → Call → Answer → Faulty S → Faulty S → Type 0
Serves (Some Before) Called asked answer old new = FailsBefore asked answer old new
Serves (Some After) Called asked answer old new = Conveys Called asked true answer old new
Serves None Called asked answer old new = Conveys Called asked false answer old new

-- the next call is the same one, and what is listed for it stays
pub record KeepsNumbers {S : Type 0} (old new : Faulty S) : Type 0 where
  pub calls : new.calls ≡ old.calls
  pub listed : new.listed ≡ old.listed

-- what one call does
pub record IsServed {S : Type 0} (Called : ℕ → Answer → S → S → Type 0) (asked : Call) (answer : Answer) (old new : Faulty S) : Type 0 where
  pub calls : new.calls ≡ risen old.calls
  pub listed : new.listed ≡ old.listed
  pub served : RunsShort answer old new ⊎ Serves (when_at old.listed (risen old.calls)) Called asked answer old new

-- the inner store's history with the log in place of its entries
abbrev pub told_with : List Logged → History → History
told_with log told = record told { log = log }

-- what the store tells, if the inner one tells
abbrev pub told_by : List Logged → Option History → Option History
told_by log inner = option_map (told_with log) inner

-- the log is legal, leaves what the inner store's history leaves, and has no other upload's id
pub record Mirrors (log : List Logged) (told : History) : Type 0 where
  pub legal : IsLegalHistory log
  pub state : replay log ≡ replay told.log
  pub versions : versions_of log ≡ versions_of told.log
  pub uploads : (upload : ℕ) → IsNewUpload told.log upload → IsNewUpload log upload

-- the inner store is honest, and where it tells it has no other client, never fails, and is mirrored
pub record IsHonest (is_honest is_alone never_fails : Type 0) (inner : Option History) (log : List Logged) : Type 0 where
  pub honest : is_honest
  pub alone : OnSome inner is_alone
  pub sound : OnSome inner never_fails
  pub mirrors : IfSome inner (Mirrors log)
