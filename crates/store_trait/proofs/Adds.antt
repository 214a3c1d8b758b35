-- Calls that add their own entry alone, or nothing.
use Rattle.std.proofs.Common.{◌≡◌, ℕ, List, [], ◌∷◌, ◌++◌, length, refl, sym, ◌∙◌, append-nil, arith}
use Rattle.bucket_model.specs.declared.call.Call.{Call}
use Rattle.bucket_model.specs.declared.answer.Brief.{Brief}
use Rattle.bucket_model.specs.declared.history.Logged.{Logged}
use Rattle.bucket_model.specs.Bucket.{ObjectVersion}
use Rattle.bucket_model.specs.History.{History}
use Rattle.store_trait.specs.Told.{AddsEntry, AddsNone, AreChanges, KeepsVersions}

pub none_change : AreChanges []
none_change = λ logged among. absurd (omega (arith, among.1))

pub kept_versions : (versions : List ObjectVersion) → KeepsVersions versions versions
kept_versions versions = ([], sym (append-nil versions))

pub adds_own : (is_alone : Type 0) (asked : Call) (place : ℕ) (answer : Brief) (own : Logged) (old new : History) → own.entry.call ≡ asked → own.entry.answer ≡ answer
    → place ≡ length old.log → new.log ≡ old.log ++ own ∷ [] → KeepsVersions old.versions new.versions → AddsEntry is_alone asked place answer old new
adds_own is_alone asked place answer own old new asks answers at_end is versions = record {
  earlier = [];
  own = own;
  later = [];
  log = is;
  at_place = omega (arith, at_end);
  asks = asks;
  answers = answers;
  by_others_before = none_change;
  by_others_behind = none_change;
  alone = λ _. (refl, refl);
  versions = versions;
}

pub adds_nothing : (is_alone : Type 0) (old new : History) → new.log ≡ old.log → KeepsVersions old.versions new.versions → AddsNone is_alone old new
adds_nothing is_alone old new is versions = record {
  others = [];
  log = is ∙ sym (append-nil old.log);
  by_others = none_change;
  alone = λ _. refl;
  versions = versions;
}
