-- What holds of a store and of its history after calls that nobody's answer is heard of.
use Rattle.std.proofs.Common.{◌≡◌, ℕ, ◌≤◌, Bool, true, false, List, [], ◌∷◌, ◌++◌, length, Option, Some, None, refl, sym, ap, ◌∙◌, subst, inl, inr, append-nil, append_assoc, arith, length-append, nat_cmp, BTreeMap}
use Rattle.std.specs.BTreeMap as tree
use Rattle.std.specs.Global.{Vec}
use Rattle.std.specs.List.{AllByRecursion}
use Rattle.std.proofs.lemmas.List.Elements.{Contains-append_cases}
use Rattle.mp_types.proofs.Lists.{each-push}
use Rattle.bucket_model.specs.declared.call.Call.{Call}
use Rattle.bucket_model.specs.declared.answer.Answer.{Answer}
use Rattle.bucket_model.specs.declared.answer.Brief.{Brief}
use Rattle.bucket_model.specs.declared.history.Logged.{Logged}
use Rattle.bucket_model.specs.Answers.{brief_of, is_counted}
use Rattle.bucket_model.specs.Bucket.{ObjectVersion}
use Rattle.bucket_model.specs.History.{History, IsChange}
use Rattle.store_trait.specs.Told.{AddsFor, AddsNone, AreChanges, KeepsVersions, Tells}
use Rattle.store_trait.proofs.Adds.{none_change, kept_versions}
use Rattle.fault_store.specs.declared.change.Change.{Change}
use Rattle.fault_store.specs.declared.change.Change.TheVariants.{Delete, Put}
use Rattle.fault_store.specs.Called.{IsCalled}
use Rattle.fault_store.specs.Change.{call_of, calls_of}
use Rattle.fault_store.specs.Meddled.{IsMade, Makes, calls_in, changes_at}

-- changes that are left to be made
abbrev pub GoesOn : {S : Type 0} → (Call → ℕ → Answer → S → S → Type 0) → List Call → List Call → S → S → Type 0
GoesOn {S} Called all left old now = (end : S) → Makes Called left now end → Makes Called all old end

pub goes_on_next : {S : Type 0} (Called : Call → ℕ → Answer → S → S → Type 0) (all left rest : List Call) (asked : Call) (old now next : S) → GoesOn Called all left old now → left ≡ asked ∷ rest → IsMade Called asked now next → GoesOn Called all rest old next
goes_on_next Called all left rest asked old now next goes is made = λ end makes. goes end (subst (λ calls. Makes Called calls now end) (sym is) (next, made, makes))

pub goes_on_end : {S : Type 0} (Called : Call → ℕ → Answer → S → S → Type 0) (all left : List Call) (old now : S) → GoesOn Called all left old now → left ≡ [] → Makes Called all old now
goes_on_end Called all left old now goes none = goes now (subst (λ calls. Makes Called calls now now) (sym none) refl)

-- what changes make is changes
is_change : (change : Change) → IsChange (call_of change)
is_change (Delete key) = tt
is_change (Put key bytes) = tt

pub are_changes : (changes : List Change) → AllByRecursion IsChange (calls_of changes)
are_changes [] = tt
are_changes (change ∷ changes) = each-push IsChange (calls_of changes) (call_of change) (are_changes changes) (is_change change)

are_changes_in : (kept : Option (Vec Change)) → AllByRecursion IsChange (calls_in kept)
are_changes_in None = tt
are_changes_in (Some kept) = are_changes kept.items

pub are_changes_at : (listed : BTreeMap ℕ (Vec Change)) (number : ℕ) → AllByRecursion IsChange (changes_at listed number)
are_changes_at listed number = are_changes_in (tree.get nat_cmp listed number)

-- changes behind changes
changes_append : (a b : List Logged) → AreChanges a → AreChanges b → AreChanges (a ++ b)
changes_append a b before behind = λ logged among. elim (Contains-append_cases a b logged among) [ inl here ↦ before logged here | inr there ↦ behind logged there ]

one_change : (own : Logged) → IsChange own.entry.call → AreChanges (own ∷ [])
one_change own fine = λ logged among.
    let first : among.0 ≡ 0 = omega (arith, among.1) in
    let is : own ≡ logged = rw first at among.2 in
    subst (λ (entry : Logged). IsChange entry.entry.call) is fine

versions_append : (a b c : List ObjectVersion) → KeepsVersions a b → KeepsVersions b c → KeepsVersions a c
versions_append a b c first second = (first.0 ++ second.0, second.1 ∙ ap (λ vs. vs ++ second.0) first.1 ∙ append_assoc a first.0 second.0)

-- changes alone were added
abbrev pub Quiet : Type 0 → Option History → Option History → Type 0
Quiet is_alone None None = Unit {0}
Quiet is_alone (Some old) (Some new) = AddsNone is_alone old new
Quiet is_alone None (Some new) = ⊥
Quiet is_alone (Some old) None = ⊥

quiet_same : (is_alone : Type 0) (was : Option History) → Quiet is_alone was was
quiet_same is_alone None = tt
quiet_same is_alone (Some was) = record {
  others = [];
  log = sym (append-nil was.log);
  by_others = none_change;
  alone = λ _. refl;
  versions = kept_versions was.versions;
}

both_none : (a b : List Logged) → a ≡ [] → b ≡ [] → a ++ b ≡ []
both_none a b first second = rw (first, second) refl

quiet_then : (is_alone : Type 0) (was between now : Option History) → Quiet is_alone was between → Quiet is_alone between now → Quiet is_alone was now
quiet_then is_alone None None now first second = second
quiet_then is_alone None (Some between) now first second = absurd first
quiet_then is_alone (Some was) None now first second = absurd first
quiet_then is_alone (Some was) (Some between) None first second = absurd second
quiet_then is_alone (Some was) (Some between) (Some now) first second = record {
  others = first.others ++ second.others;
  log = second.log ∙ ap (λ log. log ++ second.others) first.log ∙ append_assoc was.log first.others second.others;
  by_others = changes_append first.others second.others first.by_others second.by_others;
  alone = λ alone. both_none first.others second.others (first.alone alone) (second.alone alone);
  versions = versions_append was.versions between.versions now.versions first.versions second.versions;
}

-- a change is one by others to whoever comes later
quiet_for : (counted : Bool) (is_alone inner_alone : Type 0) (asked : Call) (place : ℕ) (answer : Brief) (was now : History) → (is_alone → ⊥) → IsChange asked → AddsFor counted inner_alone asked place answer was now → AddsNone is_alone was now
quiet_for true is_alone inner_alone asked place answer was now never change adds = record {
  others = adds.earlier ++ adds.own ∷ adds.later;
  log = adds.log;
  by_others =
      changes_append adds.earlier (adds.own ∷ adds.later) adds.by_others_before
      (changes_append (adds.own ∷ []) adds.later (one_change adds.own (subst IsChange (sym adds.asks) change)) adds.by_others_behind);
  alone = λ alone. absurd (never alone);
  versions = adds.versions;
}
quiet_for false is_alone inner_alone asked place answer was now never change adds = record {
  others = adds.others;
  log = adds.log;
  by_others = adds.by_others;
  alone = λ alone. absurd (never alone);
  versions = adds.versions;
}

quiet_made : (is_alone inner_alone : Type 0) (asked : Call) (place : ℕ) (answer : Brief) (was now : Option History) → (is_alone → ⊥) → IsChange asked → Tells inner_alone asked place answer was now → Quiet is_alone was now
quiet_made is_alone inner_alone asked place answer None None never change told = tt
quiet_made is_alone inner_alone asked place answer None (Some now) never change told = told
quiet_made is_alone inner_alone asked place answer (Some was) None never change told = told
quiet_made is_alone inner_alone asked place answer (Some was) (Some now) never change told = quiet_for (is_counted answer) is_alone inner_alone asked place answer was now never change told

-- a call behind changes
behind_for : (counted : Bool) (is_alone inner_alone : Type 0) (asked : Call) (place : ℕ) (answer : Brief) (was between now : History) → (is_alone → inner_alone) → AddsNone is_alone was between → AddsFor counted inner_alone asked place answer between now
    → AddsFor counted is_alone asked place answer was now
behind_for true is_alone inner_alone asked place answer was between now alone quiet adds = record {
  earlier = quiet.others ++ adds.earlier;
  own = adds.own;
  later = adds.later;
  log = adds.log ∙ ap (λ log. log ++ (adds.earlier ++ adds.own ∷ adds.later)) quiet.log ∙ append_assoc was.log quiet.others (adds.earlier ++ adds.own ∷ adds.later)
      ∙ ap (λ log. was.log ++ log) (sym (append_assoc quiet.others adds.earlier (adds.own ∷ adds.later)));
  at_place = omega (arith, ap length quiet.log, length-append was.log quiet.others, length-append quiet.others adds.earlier, adds.at_place);
  asks = adds.asks;
  answers = adds.answers;
  by_others_before = changes_append quiet.others adds.earlier quiet.by_others adds.by_others_before;
  by_others_behind = adds.by_others_behind;
  alone = λ is. (both_none quiet.others adds.earlier (quiet.alone is) (adds.alone (alone is)).0, (adds.alone (alone is)).1);
  versions = versions_append was.versions between.versions now.versions quiet.versions adds.versions;
}
behind_for false is_alone inner_alone asked place answer was between now alone quiet adds = record {
  others = quiet.others ++ adds.others;
  log = adds.log ∙ ap (λ log. log ++ adds.others) quiet.log ∙ append_assoc was.log quiet.others adds.others;
  by_others = changes_append quiet.others adds.others quiet.by_others adds.by_others;
  alone = λ is. both_none quiet.others adds.others (quiet.alone is) (adds.alone (alone is));
  versions = versions_append was.versions between.versions now.versions quiet.versions adds.versions;
}

pub tells_behind : (is_alone inner_alone : Type 0) (asked : Call) (place : ℕ) (answer : Brief) (was between now : Option History) → (is_alone → inner_alone) → Quiet is_alone was between → Tells inner_alone asked place answer between now
    → Tells is_alone asked place answer was now
tells_behind is_alone inner_alone asked place answer None None None alone quiet told = tt
tells_behind is_alone inner_alone asked place answer None None (Some now) alone quiet told = told
tells_behind is_alone inner_alone asked place answer None (Some between) now alone quiet told = absurd quiet
tells_behind is_alone inner_alone asked place answer (Some was) None now alone quiet told = absurd quiet
tells_behind is_alone inner_alone asked place answer (Some was) (Some between) None alone quiet told = told
tells_behind is_alone inner_alone asked place answer (Some was) (Some between) (Some now) alone quiet told = behind_for (is_counted answer) is_alone inner_alone asked place answer was between now alone quiet told

module _ {S : Type 0} (position : S → ℕ) (history : S → Option History) (faults : S → ℕ) (is_alone never_fails is_honest : S → Type 0) where
  pub grows_makes : (calls : List Call) (old new : S) → Makes (IsCalled position history faults is_alone never_fails is_honest) calls old new → position old ≤ position new
  grows_makes [] old new makes = omega (arith, ap position makes)
  grows_makes (asked ∷ calls) old new makes = omega (arith, makes.1.called.grows, grows_makes calls makes.0 new makes.2)

  pub faults_makes : (calls : List Call) (old new : S) → Makes (IsCalled position history faults is_alone never_fails is_honest) calls old new → faults old ≤ faults new
  faults_makes [] old new makes = omega (arith, ap faults makes)
  faults_makes (asked ∷ calls) old new makes = omega (arith, makes.1.called.faults_grow, faults_makes calls makes.0 new makes.2)

  pub never_makes : (calls : List Call) (old new : S) → Makes (IsCalled position history faults is_alone never_fails is_honest) calls old new → never_fails old → never_fails new
  never_makes [] old new makes never = subst never_fails (sym makes) never
  never_makes (asked ∷ calls) old new makes never = never_makes calls makes.0 new makes.2 (makes.1.called.never never).1

  pub alone_makes : (calls : List Call) (old new : S) → Makes (IsCalled position history faults is_alone never_fails is_honest) calls old new → is_alone old → is_alone new
  alone_makes [] old new makes alone = subst is_alone (sym makes) alone
  alone_makes (asked ∷ calls) old new makes alone = alone_makes calls makes.0 new makes.2 (makes.1.called.alone alone)

  pub honest_makes : (calls : List Call) (old new : S) → Makes (IsCalled position history faults is_alone never_fails is_honest) calls old new → is_honest old → is_honest new
  honest_makes [] old new makes honest = subst is_honest (sym makes) honest
  honest_makes (asked ∷ calls) old new makes honest = honest_makes calls makes.0 new makes.2 (makes.1.called.honest honest)

  pub quiet_makes : (alone : Type 0) (calls : List Call) (old new : S) → (alone → calls ≡ []) → AllByRecursion IsChange calls → Makes (IsCalled position history faults is_alone never_fails is_honest) calls old new
      → Quiet alone (history old) (history new)
  quiet_makes alone [] old new none changes makes = subst (λ o. Quiet alone (history old) o) (sym (ap history makes)) (quiet_same alone (history old))
  quiet_makes alone (asked ∷ calls) old new none changes makes =
      let never : alone → ⊥ = λ is. let same = none is in absurd (cc) in
      quiet_then alone (history old) (history makes.0) (history new)
      (quiet_made alone (is_alone old) asked makes.1.place (brief_of makes.1.answer) (history old) (history makes.0) never changes.0 makes.1.called.told)
      (quiet_makes alone calls makes.0 new (λ is. absurd (never is)) changes.1 makes.2)
