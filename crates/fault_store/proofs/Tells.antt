-- What one call adds to what a store with listed faults tells and counts.
use Rattle.std.proofs.Common.{◌≡◌, ℕ, ◌<◌, ◌≤◌, Bool, true, false, List, [], ◌∷◌, ◌++◌, length, Option, Some, None, refl, sym, ap, ◌∙◌, inl, inr, append-nil, arith, length-append}
use Rattle.mp_types.specs.Count.{risen}
use Rattle.bucket_model.specs.declared.call.Call.{Call}
use Rattle.bucket_model.specs.declared.answer.Answer.{Answer}
use Rattle.bucket_model.specs.declared.answer.Answer.TheVariants as said
use Rattle.bucket_model.specs.declared.answer.Brief.{Brief}
use Rattle.bucket_model.specs.declared.answer.Brief.TheVariants as brief
use Rattle.bucket_model.specs.declared.answer.Brief.TheVariants.{Fault, NoMemory}
use Rattle.bucket_model.specs.declared.page.Page.{Page}
use Rattle.bucket_model.specs.declared.history.Logged.{Logged}
use Rattle.bucket_model.specs.Answers.{brief_of, entry_after, fits, is_counted}
use Rattle.bucket_model.specs.History.{History}
use Rattle.store_trait.specs.Told.{Adds, AddsEntry, AddsFor, AddsNone, KeepsVersions, Tells}
use Rattle.store_trait.proofs.Adds.{adds_own, adds_nothing, kept_versions}
use Rattle.fault_store.specs.declared.faulty.Faulty.{Faulty}
use Rattle.fault_store.specs.declared.faulty.When.{When}
use Rattle.fault_store.specs.declared.faulty.When.TheVariants.{Before, After}
use Rattle.fault_store.specs.Called.{IsCalled}
use Rattle.fault_store.specs.Entries.{entries_of, entry_before, shown}
use Rattle.fault_store.specs.Faulty.{Conveys, IsServed, Reaches, Serves, told_by, told_with, when_at}

-- an entry of the log's own
adds_counted : (is_alone : Type 0) (asked : Call) (answer : Brief) (own : Logged) (old new : List Logged) (was now : History) → is_counted answer ≡ true → own.entry.call ≡ asked → own.entry.answer ≡ answer
    → new ≡ old ++ own ∷ [] → KeepsVersions was.versions now.versions → Adds is_alone asked (length old) answer (told_with old was) (told_with new now)
adds_counted is_alone asked answer own old new was now counted asks answers is versions =
    let entry : AddsEntry is_alone asked (length old) answer (told_with old was) (told_with new now) = adds_own is_alone asked (length old) answer own (told_with old was) (told_with new now) asks answers refl is versions in
    rw counted entry

-- no entry after want of memory
adds_none : (is_alone : Type 0) (asked : Call) (place : ℕ) (answer : Brief) (old new : List Logged) (was now : History) → is_counted answer ≡ false → new ≡ old → KeepsVersions was.versions now.versions
    → Adds is_alone asked place answer (told_with old was) (told_with new now)
adds_none is_alone asked place answer old new was now counted is versions =
    let none : AddsNone is_alone (told_with old was) (told_with new now) = adds_nothing is_alone (told_with old was) (told_with new now) is versions in
    rw counted none

-- the inner store loses no version
versions_for : (counted : Bool) (is_alone : Type 0) (asked : Call) (place : ℕ) (answer : Brief) (was now : History) → AddsFor counted is_alone asked place answer was now → KeepsVersions was.versions now.versions
versions_for true is_alone asked place answer was now adds = adds.versions
versions_for false is_alone asked place answer was now adds = adds.versions

-- the inner store isn't called, and an entry is added
tells_before : (is_alone : Type 0) (asked : Call) (old new : List Logged) (was : Option History) → new ≡ old ++ entry_before asked ∷ [] → Tells is_alone asked (length old) Fault (told_by old was) (told_by new was)
tells_before is_alone asked old new None is = tt
tells_before is_alone asked old new (Some was) is = adds_counted is_alone asked Fault (entry_before asked) old new was was refl refl refl is (kept_versions was.versions)

-- the inner store answers a page, and no entry is added
tells_lost : (is_alone : Type 0) (asked : Call) (inner_place place : ℕ) (page : Page) (old new : List Logged) (was now : Option History) → Tells is_alone asked inner_place (brief.Page page) was now → new ≡ old
    → Tells is_alone asked place NoMemory (told_by old was) (told_by new now)
tells_lost is_alone asked inner_place place page old new None None told is = tt
tells_lost is_alone asked inner_place place page old new None (Some now) told is = absurd told
tells_lost is_alone asked inner_place place page old new (Some was) None told is = absurd told
tells_lost is_alone asked inner_place place page old new (Some was) (Some now) told is = adds_none is_alone asked place NoMemory old new was now refl is told.versions

tells_short : (is_alone : Type 0) (asked : Call) (place : ℕ) (old new : List Logged) (was : Option History) → new ≡ old → Tells is_alone asked place NoMemory (told_by old was) (told_by new was)
tells_short is_alone asked place old new None is = tt
tells_short is_alone asked place old new (Some was) is = adds_none is_alone asked place NoMemory old new was was refl is (kept_versions was.versions)

reached_for : (counted hides : Bool) (is_alone : Type 0) (asked : Call) (answer : Answer) (old new : List Logged) (was now : History) → is_counted (brief_of answer) ≡ counted → KeepsVersions was.versions now.versions
    → new ≡ old ++ entries_of counted hides asked answer → Adds is_alone asked (length old) (brief_of (shown counted hides answer)) (told_with old was) (told_with new now)
reached_for true true is_alone asked answer old new was now counted versions is = adds_counted is_alone asked Fault (entry_after asked Fault (brief_of answer)) old new was now refl refl refl is versions
reached_for true false is_alone asked answer old new was now counted versions is = adds_counted is_alone asked (brief_of answer) (entry_after asked (brief_of answer) (brief_of answer)) old new was now counted refl refl is versions
reached_for false hides is_alone asked answer old new was now counted versions is = adds_none is_alone asked (length old) (brief_of answer) old new was now counted (is ∙ append-nil old) versions

tells_reached : (hides : Bool) (is_alone : Type 0) (asked : Call) (place : ℕ) (answer : Answer) (old new : List Logged) (was now : Option History) → Tells is_alone asked place (brief_of answer) was now
    → new ≡ old ++ entries_of (is_counted (brief_of answer)) hides asked answer → Tells is_alone asked (length old) (brief_of (shown (is_counted (brief_of answer)) hides answer)) (told_by old was) (told_by new now)
tells_reached hides is_alone asked place answer old new None None told is = tt
tells_reached hides is_alone asked place answer old new None (Some now) told is = absurd told
tells_reached hides is_alone asked place answer old new (Some was) None told is = absurd told
tells_reached hides is_alone asked place answer old new (Some was) (Some now) told is =
    reached_for (is_counted (brief_of answer)) hides is_alone asked answer old new was now refl (versions_for (is_counted (brief_of answer)) is_alone asked place (brief_of answer) was now told) is

-- an entry makes the log longer
longer : (old new : List Logged) (own : Logged) → new ≡ old ++ own ∷ [] → length old < length new
longer old new own is = omega (arith, ap length is, length-append old (own ∷ []))

reached_longer : (counted hides : Bool) (asked : Call) (answer : Answer) (old new : List Logged) → is_counted (brief_of answer) ≡ counted → new ≡ old ++ entries_of counted hides asked answer
    → is_counted (brief_of (shown counted hides answer)) ≡ true → length old < length new
reached_longer true hides asked answer old new counted is counts = longer old new (entry_after asked (brief_of (shown true hides answer)) (brief_of answer)) is
reached_longer false hides asked answer old new counted is counts = absurd (cc)

-- want of memory has no entry
not_counted : (answer : Answer) → answer ≡ said.NoMemory → is_counted (brief_of answer) ≡ true → ⊥
not_counted answer is counts = let same : is_counted (brief_of said.NoMemory) ≡ true = sym (ap (λ a. is_counted (brief_of a)) is) ∙ counts in absurd (cc)

-- a fault may come of any call
kind_shown : (counted hides : Bool) (asked : Call) (answer : Answer) → fits asked (brief_of answer) ≡ true → fits asked (brief_of (shown counted hides answer)) ≡ true
kind_shown true true asked answer kind = refl
kind_shown true false asked answer kind = kind
kind_shown false hides asked answer kind = kind

module _ {S : Type 0} (position : S → ℕ) (history : S → Option History) (faults : S → ℕ) (is_alone never_fails is_honest : S → Type 0) where
  kind_reaches : (asked : Call) (hides : Bool) (answer : Answer) (old new : Faulty S) → Reaches (IsCalled position history faults is_alone never_fails is_honest asked) asked hides answer old new → fits asked (brief_of answer) ≡ true
  kind_reaches asked hides answer old new reaches = rw reaches.answer_is (kind_shown (is_counted (brief_of reaches.said)) hides asked reaches.said reaches.called.kind)

  kind_conveys : (asked : Call) (hides : Bool) (answer : Answer) (old new : Faulty S) → Conveys (IsCalled position history faults is_alone never_fails is_honest asked) asked hides answer old new → fits asked (brief_of answer) ≡ true
  kind_conveys asked true answer old new reaches = kind_reaches asked true answer old new reaches
  kind_conveys asked false answer old new conveys = elim conveys [ inl reaches ↦ kind_reaches asked false answer old new reaches | inr lost ↦ rw lost.answer_is refl ]

  kind_serves : (listed : Option When) (asked : Call) (answer : Answer) (old new : Faulty S) → Serves listed (IsCalled position history faults is_alone never_fails is_honest asked) asked answer old new → fits asked (brief_of answer) ≡ true
  kind_serves (Some Before) asked answer old new fails = rw fails.answer_is refl
  kind_serves (Some After) asked answer old new conveys = kind_conveys asked true answer old new conveys
  kind_serves None asked answer old new conveys = kind_conveys asked false answer old new conveys

  pub kind_served : (asked : Call) (answer : Answer) (old new : Faulty S) → IsServed (IsCalled position history faults is_alone never_fails is_honest asked) asked answer old new → fits asked (brief_of answer) ≡ true
  kind_served asked answer old new served =
      elim served.served [
        | inl short ↦ rw short.answer_is refl
        | inr serves ↦ kind_serves (when_at old.listed (risen old.calls)) asked answer old new serves
      ]

  tells_reaches : (asked : Call) (hides : Bool) (answer : Answer) (old new : Faulty S) → Reaches (IsCalled position history faults is_alone never_fails is_honest asked) asked hides answer old new
      → Tells (is_alone old.inner) asked (length old.log.items) (brief_of answer) (told_by old.log.items (history old.inner)) (told_by new.log.items (history new.inner))
  tells_reaches asked hides answer old new reaches =
      rw reaches.answer_is
      (tells_reached hides (is_alone old.inner) asked reaches.place reaches.said old.log.items new.log.items (history old.inner) (history new.inner) reaches.called.told reaches.log)

  tells_conveys : (asked : Call) (hides : Bool) (answer : Answer) (old new : Faulty S) → Conveys (IsCalled position history faults is_alone never_fails is_honest asked) asked hides answer old new
      → Tells (is_alone old.inner) asked (length old.log.items) (brief_of answer) (told_by old.log.items (history old.inner)) (told_by new.log.items (history new.inner))
  tells_conveys asked true answer old new reaches = tells_reaches asked true answer old new reaches
  tells_conveys asked false answer old new conveys =
      elim conveys [
        | inl reaches ↦ tells_reaches asked false answer old new reaches
        | inr lost ↦ rw lost.answer_is (tells_lost (is_alone old.inner) asked lost.place (length old.log.items) lost.page old.log.items new.log.items (history old.inner) (history new.inner) lost.called.told lost.log)
      ]

  tells_serves : (listed : Option When) (asked : Call) (answer : Answer) (old new : Faulty S) → Serves listed (IsCalled position history faults is_alone never_fails is_honest asked) asked answer old new
      → Tells (is_alone old.inner) asked (length old.log.items) (brief_of answer) (told_by old.log.items (history old.inner)) (told_by new.log.items (history new.inner))
  tells_serves (Some Before) asked answer old new fails =
      rw (fails.answer_is, fails.inner) (tells_before (is_alone old.inner) asked old.log.items new.log.items (history old.inner) fails.log)
  tells_serves (Some After) asked answer old new conveys = tells_conveys asked true answer old new conveys
  tells_serves None asked answer old new conveys = tells_conveys asked false answer old new conveys

  pub tells_served : (asked : Call) (answer : Answer) (old new : Faulty S) → IsServed (IsCalled position history faults is_alone never_fails is_honest asked) asked answer old new
      → Tells (is_alone old.inner) asked (length old.log.items) (brief_of answer) (told_by old.log.items (history old.inner)) (told_by new.log.items (history new.inner))
  tells_served asked answer old new served =
      elim served.served [
        | inl short ↦ rw (short.answer_is, short.inner) (tells_short (is_alone old.inner) asked (length old.log.items) old.log.items new.log.items (history old.inner) short.log)
        | inr serves ↦ tells_serves (when_at old.listed (risen old.calls)) asked answer old new serves
      ]

  counted_reaches : (asked : Call) (hides : Bool) (answer : Answer) (old new : Faulty S) → Reaches (IsCalled position history faults is_alone never_fails is_honest asked) asked hides answer old new
      → is_counted (brief_of answer) ≡ true → length old.log.items < length new.log.items
  counted_reaches asked hides answer old new reaches counts =
      reached_longer (is_counted (brief_of reaches.said)) hides asked reaches.said old.log.items new.log.items refl reaches.log (sym (ap (λ a. is_counted (brief_of a)) reaches.answer_is) ∙ counts)

  counted_conveys : (asked : Call) (hides : Bool) (answer : Answer) (old new : Faulty S) → Conveys (IsCalled position history faults is_alone never_fails is_honest asked) asked hides answer old new
      → is_counted (brief_of answer) ≡ true → length old.log.items < length new.log.items
  counted_conveys asked true answer old new reaches counts = counted_reaches asked true answer old new reaches counts
  counted_conveys asked false answer old new conveys counts =
      elim conveys [
        | inl reaches ↦ counted_reaches asked false answer old new reaches counts
        | inr lost ↦ absurd (not_counted answer lost.answer_is counts)
      ]

  counted_serves : (listed : Option When) (asked : Call) (answer : Answer) (old new : Faulty S) → Serves listed (IsCalled position history faults is_alone never_fails is_honest asked) asked answer old new
      → is_counted (brief_of answer) ≡ true → length old.log.items < length new.log.items
  counted_serves (Some Before) asked answer old new fails counts = longer old.log.items new.log.items (entry_before asked) fails.log
  counted_serves (Some After) asked answer old new conveys counts = counted_conveys asked true answer old new conveys counts
  counted_serves None asked answer old new conveys counts = counted_conveys asked false answer old new conveys counts

  pub counted_served : (asked : Call) (answer : Answer) (old new : Faulty S) → IsServed (IsCalled position history faults is_alone never_fails is_honest asked) asked answer old new
      → is_counted (brief_of answer) ≡ true → length old.log.items < length new.log.items
  counted_served asked answer old new served counts =
      elim served.served [
        | inl short ↦ absurd (not_counted answer short.answer_is counts)
        | inr serves ↦ counted_serves (when_at old.listed (risen old.calls)) asked answer old new serves counts
      ]

  faults_conveys : (asked : Call) (hides : Bool) (answer : Answer) (old new : Faulty S) → Conveys (IsCalled position history faults is_alone never_fails is_honest asked) asked hides answer old new → faults old.inner ≤ faults new.inner
  faults_conveys asked true answer old new reaches = reaches.called.faults_grow
  faults_conveys asked false answer old new conveys = elim conveys [ inl reaches ↦ reaches.called.faults_grow | inr lost ↦ lost.called.faults_grow ]

  faults_serves : (listed : Option When) (asked : Call) (answer : Answer) (old new : Faulty S) → Serves listed (IsCalled position history faults is_alone never_fails is_honest asked) asked answer old new
      → faults old.inner ≤ faults new.inner
  faults_serves (Some Before) asked answer old new fails = omega (arith, ap faults fails.inner)
  faults_serves (Some After) asked answer old new conveys = faults_conveys asked true answer old new conveys
  faults_serves None asked answer old new conveys = faults_conveys asked false answer old new conveys

  pub faults_served : (asked : Call) (answer : Answer) (old new : Faulty S) → IsServed (IsCalled position history faults is_alone never_fails is_honest asked) asked answer old new
      → faults old.inner ≤ faults new.inner
  faults_served asked answer old new served =
      elim served.served [
        | inl short ↦ omega (arith, ap faults short.inner)
        | inr serves ↦ faults_serves (when_at old.listed (risen old.calls)) asked answer old new serves
      ]
