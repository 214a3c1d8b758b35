-- When an upload refuses a write, and how the conversation says it.
use Rattle.std.proofs.Common.{◌≡◌, ◌≢◌, ◌↔◌, ◌==◌, ℕ, ◌+◌, ◌-◌, ◌*◌, Bool, true, false, not, nat_lt, List, length, drop, Option, Some, None, Result, Ok, Err, IsErrOf, if◌then◌else◌, inl, inr, refl, sym, ap, ◌∙◌, arith}
use Rattle.bucket_model.specs.Answers.{max_parts}
use Rattle.mp_types.specs.declared.errno.Errno.{Errno}
use Rattle.upload_rules.specs.declared.upload.UpState.{UpState}
use Rattle.upload_rules.specs.declared.upload.UpState.TheVariants as state
use Rattle.upload_rules.specs.Upload.{Upload, with_bytes, written}
use Rattle.upload_rules.specs.declared.upload.UpFault.{UpFault}
use Rattle.upload_rules.specs.declared.upload.UpFault.TheVariants.{Failed, Finished, OutOfOrder, TooBig, Memory}
use Rattle.upload_rules.specs.Refusal.{refusal}
use Rattle.mount_model.specs.Handles.{Writer}
use Rattle.mount_model.specs.Conversation.{Writes, errno_for, fails, with_upload, write_to, written_or}
use Rattle.file_handles.specs.Writing.{IsRefused, LacksMemory}

not_memory_by_tests : (misplaced too_big : Bool) → (if misplaced then Some OutOfOrder else (if too_big then Some TooBig else None)) ≢ Some Memory
not_memory_by_tests true too_big is = absurd (cc)
not_memory_by_tests false true is = absurd (cc)
not_memory_by_tests false false is = absurd (cc)

module _ (w : Writer) (offset : ℕ) (bytes : List ℕ) where
  -- an upload doesn't refuse for want of memory
  not_memory : refusal w.upload offset (length bytes) ≢ Some Memory
  not_memory = by_state w.upload.state refl
    where
      by_state : (s : UpState) → w.upload.state ≡ s → refusal w.upload offset (length bytes) ≢ Some Memory
      by_state state.Open is = rw is (not_memory_by_tests (not (offset == written w.upload)) (nat_lt (w.upload.part * max_parts) (offset + length bytes)))
      by_state state.Finished is = rw is (λ at. absurd (cc))
      by_state state.Done is = rw is (λ at. absurd (cc))
      by_state (state.Failed errno) is = rw is (λ at. absurd (cc))

  -- a result tells the refusal
  abbrev pub Tells : Result ℕ UpFault → Type 0
  Tells result = (why : UpFault) → why ≢ Memory → (IsErrOf result why) ↔ (refusal w.upload offset (length bytes - 0) ≡ Some why)

  as_told : (why : UpFault) → refusal w.upload offset (length bytes) ≡ Some why → (result : Result ℕ UpFault) → Tells result → IsErrOf result why
  as_told why is result tells =
      let all : length bytes - 0 ≡ length bytes = omega arith in
      (tells why (λ memory. not_memory (is ∙ ap Some memory))).1 (rw all is)

  -- bytes that were taken weren't refused
  pub takes : (result : Result ℕ UpFault) → Tells result → (count : ℕ) → result ≡ Ok count → 0 + count ≡ length bytes → (new : Upload) → new ≡ with_bytes (drop 0 bytes) w.upload → write_to w offset bytes ≡ Writes count (with_upload new w)
  takes result tells count is counted new taken = by (refusal w.upload offset (length bytes)) refl
    where
      by : (o : Option UpFault) → refusal w.upload offset (length bytes) ≡ o → write_to w offset bytes ≡ Writes count (with_upload new w)
      by None free =
          let as_many : length bytes ≡ count = omega arith in
          ap (written_or w bytes) free ∙ ap (λ n. Writes n (with_upload (with_bytes bytes w.upload) w)) as_many ∙ ap (λ u. Writes count (with_upload u w)) (sym taken)
      by (Some why) refused = let err = as_told why refused result tells in absurd (cc)

  -- bytes that weren't taken were refused, or there was no memory for them
  pub refuses : (result : Result ℕ UpFault) → Tells result → (why : UpFault) → result ≡ Err why → (errno : Errno) → errno ≡ errno_for why → IsRefused w offset bytes errno
  refuses result tells why is errno said = by (refusal w.upload offset (length bytes)) refl
    where
      same : (first : UpFault) → refusal w.upload offset (length bytes) ≡ Some first → first ≡ why
      same first refused = let err : result ≡ Err first = as_told first refused result tells in cc

      told : (fault : UpFault) → fault ≢ Memory → refusal w.upload offset (length bytes) ≡ None → fault ≡ why → ⊥
      told fault other free at =
          let all : length bytes - 0 ≡ length bytes = omega arith in
          let some : refusal w.upload offset (length bytes) ≡ Some fault = rw (← all) ((tells fault other).0 (is ∙ ap Err (sym at))) in
          absurd (cc)

      lacks : refusal w.upload offset (length bytes) ≡ None → (fault : UpFault) → fault ≡ why → LacksMemory w offset bytes errno
      lacks free Memory at = record {
        count = length bytes;
        next = with_upload (with_bytes bytes w.upload) w;
        would = ap (written_or w bytes) free;
        is_memory = said ∙ ap errno_for (sym at);
      }
      lacks free (Failed first) at = absurd (told (Failed first) (λ same. cc) free at)
      lacks free Finished at = absurd (told Finished (λ same. cc) free at)
      lacks free OutOfOrder at = absurd (told OutOfOrder (λ same. cc) free at)
      lacks free TooBig at = absurd (told TooBig (λ same. cc) free at)

      by : (o : Option UpFault) → refusal w.upload offset (length bytes) ≡ o → IsRefused w offset bytes errno
      by None free = inr (lacks free why refl)
      by (Some first) refused = inl (ap (written_or w bytes) refused ∙ ap (λ f. fails (errno_for f)) (same first refused) ∙ ap fails (sym said))
