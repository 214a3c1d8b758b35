-- What is so where a write is not refused.
use Rattle.std.proofs.Common.{◌≡◌, ◌==◌, ℕ, ◌+◌, ◌*◌, ◌≤◌, Bool, true, false, not, nat_lt, Some, None, if◌then◌else◌, refl, eqb-true, ltb-false}
use Rattle.bucket_model.specs.Answers.{max_parts}
use Rattle.upload_rules.specs.declared.upload.UpState.{UpState}
use Rattle.upload_rules.specs.declared.upload.UpState.TheVariants.{Open, Finished, Done, Failed}
use Rattle.upload_rules.specs.declared.upload.UpFault.TheVariants.{OutOfOrder, TooBig}
use Rattle.upload_rules.specs.Upload.{Upload, written}
use Rattle.upload_rules.specs.Refusal.{refusal}

pub record Takes (u : Upload) (offset count : ℕ) : Type 0 where
  pub opened : u.state ≡ Open
  pub place : offset ≡ written u
  pub fits : offset + count ≤ u.part * max_parts

pub taken : (u : Upload) (offset count : ℕ) → refusal u offset count ≡ None → Takes u offset count
taken u offset count free = by_state u.state refl
  where
    by_tests : u.state ≡ Open → (at over : Bool) → (offset == written u) ≡ at → nat_lt (u.part * max_parts) (offset + count) ≡ over → (if not at then Some OutOfOrder else (if over then Some TooBig else None)) ≡ None → Takes u offset count
    by_tests is false over at_is over_is none = absurd (cc)
    by_tests is true true at_is over_is none = absurd (cc)
    by_tests is true false at_is over_is none = record { opened = is; place = eqb-true offset (written u) at_is; fits = ltb-false (u.part * max_parts) (offset + count) over_is }

    by_state : (s : UpState) → u.state ≡ s → Takes u offset count
    by_state Open is = by_tests is (offset == written u) (nat_lt (u.part * max_parts) (offset + count)) refl refl (rw is at free)
    by_state Finished is = absurd (let none = rw is at free in cc)
    by_state Done is = absurd (let none = rw is at free in cc)
    by_state (Failed errno) is = absurd (let none = rw is at free in cc)
