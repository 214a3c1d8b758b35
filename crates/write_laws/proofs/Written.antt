-- What the product says of written objects.
use Rattle.std.proofs.Common.{◌≡◌, ℕ, List, [], ◌∷◌, Some, subst}
use Rattle.mp_types.specs.declared.options.Opts.{Opts}
use Rattle.mp_types.specs.Options.{AreWithin}
use Rattle.bucket_model.specs.Along.{Along}
use Rattle.bucket_model.specs.declared.call.Call.{Call}
use Rattle.bucket_model.specs.declared.call.Call.TheVariants as call
use Rattle.bucket_model.specs.Answers.{upload_in}
use Rattle.bucket_model.specs.declared.history.Logged.{Logged}
use Rattle.bucket_model.specs.History.{IsChange, IsLegalHistory}
use Rattle.mount_model.specs.declared.request.Line.{Line}
use Rattle.mount_model.specs.Step.{Step}
use Rattle.mount_model.specs.State.{ClientState, after, opening, state_after}
use Rattle.mount_model.specs.Run.{AreRising, IsLegalStep, IsRunSoFar}
use Rattle.mount_model.specs.Written.{AreWritten}
use Rattle.mount_model.specs.Tied.{TiesTo, IsAmongChanges, HasItsUploads}
use Rattle.write_laws.proofs.Run.{along-split, Ties, places_behind, run-sound}
use Rattle.write_laws.proofs.Whole.{IsEnd, whole-objects}
use Rattle.write_laws.proofs.There.{object-there}

-- a call that names an upload is no change
names-no-change : (called : Call) (upload : ℕ) → upload_in called ≡ Some upload → IsChange called → ⊥
names-no-change (call.Part named number bytes) upload names change = change
names-no-change (call.Complete named parts) upload names change = change
names-no-change (call.Abort named) upload names change = change
names-no-change (call.Head key) upload names change = absurd (cc)
names-no-change (call.Probe key) upload names change = absurd (cc)
names-no-change (call.List prefix after max) upload names change = absurd (cc)
names-no-change (call.Get key etag from to) upload names change = absurd (cc)
names-no-change (call.Delete key) upload names change = absurd (cc)
names-no-change (call.Put key bytes) upload names change = absurd (cc)
names-no-change (call.Create key) upload names change = absurd (cc)

-- where others make changes alone, none of their calls names an upload
pub has-its-uploads : (start : ℕ) (is_alone : Type 0) (log : List Logged) (positions : List ℕ) → IsAmongChanges start is_alone log positions → HasItsUploads start log positions
has-its-uploads start is_alone log positions changes = λ position logged upload late stands names given. changes.others position logged late stands (λ change. names-no-change logged.entry.call upload names change)

-- the whole run, tied to the history
is-end : (options : Opts) (script : List Line) (start : ℕ) (log : List Logged) (steps : List Step) → AreWithin options → AreRising 0 script → IsRunSoFar options script steps → TiesTo options script start log steps → HasItsUploads start log (state_after options script steps).positions → IsLegalHistory log → IsEnd log start options script steps (places_behind [] steps)
is-end options script start log steps within rising run ties uploads legal = record { legal = legal; sound = run-sound log start options script steps within rising legal run ties; uploads = uploads }

-- the law, whoever else changes the bucket
pub are-written : (options : Opts) (script : List Line) (start : ℕ) (log : List Logged) (steps : List Step) → AreWithin options → AreRising 0 script → IsRunSoFar options script steps → TiesTo options script start log steps → HasItsUploads start log (state_after options script steps).positions → IsLegalHistory log → AreWritten options script log steps
are-written options script start log steps within rising run ties uploads legal = record {
  whole = λ position key bytes among made. whole-objects log start options script steps (places_behind [] steps) (is-end options script start log steps within rising run ties uploads legal) position key bytes among made;
  there = λ before later step line writer are contains told live.
      let opening_state : ClientState = opening options script in
      let run_parts = along-split IsLegalStep after opening_state before (step ∷ later) (subst (Along IsLegalStep after opening_state) are run) in
      let tie_parts = along-split (Ties start log) after opening_state before (step ∷ later) (subst (Along (Ties start log) after opening_state) are ties) in
      object-there log start options script before later step line writer
      (subst (λ (t : List Step). IsEnd log start options script t (places_behind [] t)) are (is-end options script start log steps within rising run ties uploads legal))
      rising
      (run-sound log start options script before within rising legal run_parts.0 tie_parts.0)
      run_parts.1 tie_parts.1.0 contains told live;
}
