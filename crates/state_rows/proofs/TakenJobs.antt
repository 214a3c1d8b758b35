-- A job that may be taken, and one that was taken.
use Rattle.std.proofs.Common.{◌≡◌, ℕ, inl, inr, true, List, [], ◌∷◌, Option, Some, None, slice_get, refl, ap}
use Rattle.std.proofs.lemmas.Bool.{eq-eqb}
use Rattle.std.proofs.lemmas.Map.Keys.{any_passes_from_place}
use Rattle.std.specs.Prelude.{◌==◌}
use Rattle.bucket_model.specs.declared.call.Call.{Call}
use Rattle.mount_model.specs.Run.{is_among}
use Rattle.job_table.specs.LiveJobs.{Held, IsReadyIn, IsOutIn, held_at, taken, with_taken, is_ready, ready_numbers}
use Rattle.job_table.specs.Kept.{IsBetween}
use Rattle.job_table.proofs.Rising.{same_or_other}
use Rattle.job_table.proofs.Numbers.{IsNumberOf, number_of}

-- a number among the ready ones is that of a ready job
pub ready_at : (k place first last : ℕ) (held : List Held) → IsBetween first held last → slice_get (ready_numbers held) place ≡ Some k → IsReadyIn k held
ready_at k place first last held rises stands =
    let among : is_among k (ready_numbers held) ≡ true = any_passes_from_place (λ (m : ℕ). m == k) (ready_numbers held) place k stands (eq-eqb k k refl) in
    let found : IsNumberOf is_ready k held = number_of is_ready k first last held rises among in
    by_call found.job found.job.call refl found.stands found.pass
  where
    by_call : (job : Held) (call : Option Call) → job.call ≡ call → held_at k held ≡ Some job → is_ready job ≡ true → IsReadyIn k held
    by_call job None e stands pass = absurd (cc (rw e at pass))
    by_call job (Some called) e stands pass = record { job = job; stands = stands; called = called; waits = e }

taken_stands : (k : ℕ) (held : List Held) (job : Held) → held_at k held ≡ Some job → held_at k (with_taken k held) ≡ Some (taken job)
taken_stands k [] job stands = absurd (cc)
taken_stands k (h ∷ held) job stands =
    elim (same_or_other k h.number) [
      | inl w ↦
          let here : Some h ≡ Some job = rw w.test at stands in
          let same : h ≡ job = cc in
          rw (w.test, w.test) (ap (λ (j : Held). Some (taken j)) same)
      | inr w ↦
          let later : held_at k held ≡ Some job = rw w.test at stands in
          rw (w.test, w.test) (taken_stands k held job later)
    ]

-- a job that is taken is out
pub is_out_once_taken : (k : ℕ) (held : List Held) → IsReadyIn k held → IsOutIn k (with_taken k held)
is_out_once_taken k held ready = record {
  job = taken ready.job;
  stands = taken_stands k held ready.job ready.stands;
  is_out = refl;
}
