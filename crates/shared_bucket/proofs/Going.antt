-- What a kept store's call adds.
use Rattle.std.proofs.Common.{◌≡◌, ℕ, ◌≤◌, Bool, true, false, List, ◌∷◌, ◌++◌, length, Option, Some, None, refl, ap, ◌∙◌, subst, append-nil, arith}
use Rattle.bucket_model.specs.declared.call.Call.{Call}
use Rattle.bucket_model.specs.declared.answer.Answer.{Answer}
use Rattle.bucket_model.specs.declared.answer.Brief.{Brief}
use Rattle.bucket_model.specs.Answers.{brief_of, fits, is_counted}
use Rattle.bucket_model.specs.Bucket.{IsSlice, ObjectVersion}
use Rattle.bucket_model.specs.History.{History, IsLegalHistory, versions_of}
use Rattle.store_trait.specs.Told.{AddsEntry, AddsFor, AddsNone, BringsSlice, Tells}
use Rattle.shared_bucket.specs.Kept.{AddsOwn, Goes, IsTold, log_of}

entry_for : (is_alone : Type 0) (asked : Call) (position : ℕ) (answer : Brief) (old new : History) (counts : Bool) → AddsFor counts is_alone asked position answer old new → counts ≡ true → AddsEntry is_alone asked position answer old new
entry_for is_alone asked position answer old new true adds is = adds
entry_for is_alone asked position answer old new false adds is = absurd (cc)

none_for : (is_alone : Type 0) (asked : Call) (position : ℕ) (answer : Brief) (old new : History) (counts : Bool) → AddsFor counts is_alone asked position answer old new → counts ≡ false → AddsNone is_alone old new
none_for is_alone asked position answer old new true adds is = absurd (cc)
none_for is_alone asked position answer old new false adds is = adds

own_alone : (is_alone : Type 0) (asked : Call) (position : ℕ) (answer : Answer) (old new : History) → is_alone → AddsEntry is_alone asked position (brief_of answer) old new → AddsOwn asked position answer old.log new.log
own_alone is_alone asked position answer old new alone entry =
    let nobody = entry.alone alone in
    let none : length entry.earlier ≡ 0 = ap length nobody.0 in
    record {
      own = entry.own;
      log = entry.log ∙ ap (λ earlier. old.log ++ (earlier ++ entry.own ∷ entry.later)) nobody.0 ∙ ap (λ later. old.log ++ entry.own ∷ later) nobody.1;
      asks = entry.asks;
      answers = entry.answers;
      at_end = omega (arith, entry.at_place);
    }

pub goes_alone : (asked : Call) (position : ℕ) (answer : Answer) (is_alone : Type 0) (before after : Option History) (count : ℕ) → IsTold before → is_alone → Tells is_alone asked position (brief_of answer) before after
    → BringsSlice asked answer after → ((told : History) → before ≡ Some told → count ≡ length told.log) → count ≤ position → fits asked (brief_of answer) ≡ true
    → ((told : History) → after ≡ Some told → IsLegalHistory told.log × (told.versions ≡ versions_of told.log)) → Goes asked position answer (log_of before) (log_of after)
goes_alone asked position answer is_alone None after count told alone tells slice counted behind kind legal = absurd told
goes_alone asked position answer is_alone (Some old) None count told alone tells slice counted behind kind legal = absurd tells
goes_alone asked position answer is_alone (Some old) (Some new) count told alone tells slice counted behind kind legal =
    let so = legal new refl in
    let at = counted old refl in
    record {
      adds = λ counts. own_alone is_alone asked position answer old new alone (entry_for is_alone asked position (brief_of answer) old new (is_counted (brief_of answer)) tells counts);
      none = λ counts.
          let nothing = none_for is_alone asked position (brief_of answer) old new (is_counted (brief_of answer)) tells counts in
          nothing.log ∙ ap (λ others. old.log ++ others) (nothing.alone alone) ∙ append-nil old.log;
      not_before = omega (arith, at, behind);
      kind = kind;
      legal = so.0;
      slice = subst (λ (versions : List ObjectVersion). IsSlice versions asked answer) so.1 slice;
    }
