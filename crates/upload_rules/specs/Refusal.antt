-- Why a write is refused, where there is memory for it.
use Rattle.std.specs.Prelude.{ℕ, ◌+◌, ◌*◌, ◌==◌, nat_lt, not, if◌then◌else◌, Option, Some, None}
use Rattle.bucket_model.specs.Answers.{max_parts}
use Rattle.upload_rules.specs.declared.upload.UpState.{UpState}
use Rattle.upload_rules.specs.declared.upload.UpState.TheVariants.{Open, Finished as HasAll, Done, Failed as HasFailed}
use Rattle.upload_rules.specs.Upload.{Upload, written}
use Rattle.upload_rules.specs.declared.upload.UpFault.{UpFault}
use Rattle.upload_rules.specs.declared.upload.UpFault.TheVariants.{Failed, Finished, OutOfOrder, TooBig}

-- bytes go behind those that were written, and there are at most so many
abbrev pub refusal_open : Upload → ℕ → ℕ → Option UpFault
refusal_open u offset count =
    if not (offset == written u) then Some OutOfOrder
    else (if nat_lt (u.part * max_parts) (offset + count) then Some TooBig else None)

-- why so many bytes aren't taken at this place
abbrev pub refusal : Upload → ℕ → ℕ → Option UpFault
refusal u offset count = by_state u.state
  where
    by_state : UpState → Option UpFault
    by_state Open = refusal_open u offset count
    by_state HasAll = Some Finished
    by_state Done = Some Finished
    by_state (HasFailed errno) = Some (Failed errno)
