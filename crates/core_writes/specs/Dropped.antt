-- Which jobs a failed writer drops.
use Rattle.std.specs.Prelude.{◌≡◌, ℕ, List, [], ◌∷◌, fold, length, true, false, Some, slice_get}
use Rattle.upload_rules.specs.Upload.{Upload}
use Rattle.mount_model.specs.Step.{change_last}
use Rattle.mount_model.specs.Handles.{Writer}
use Rattle.mount_model.specs.Writers.{has_failed, back_times}
use Rattle.job_table.specs.Journal.{Journaled}
use Rattle.job_table.specs.LiveJobs.{LiveJobs, Held, without, ready_of_writer}
use Rattle.core_writes.specs.Turn.{with_turn}

abbrev pub without_all : List ℕ → List Held → List Held
without_all drops held = fold (λ held job. without job held) held drops

-- each one is the writer's first ready job, once those before it are gone
abbrev pub AreFirsts : ℕ → List Held → List ℕ → Type 0
AreFirsts line held [] = Unit {0}
AreFirsts line held (job ∷ drops) = (slice_get (ready_of_writer line held) 0 ≡ Some job) × AreFirsts line (without job held) drops

-- the writer has dropped these
pub record HasDropped (drops : List ℕ) (writer : Writer) (now : Upload) (old new : LiveJobs) (before after : Journaled) : Type 0 where
  pub firsts : AreFirsts writer.line old.held drops
  pub count : new.count ≡ old.count
  pub held : new.held ≡ without_all drops old.held
  pub steps : after.steps ≡ change_last (with_turn drops []) before.steps
  pub upload : now ≡ back_times (length drops) writer.upload

-- a failed one drops all that are ready, and any other none
pub record DropsReady (writer : Writer) (now : Upload) (old new : LiveJobs) (before after : Journaled) : Type 0 where
  pub drops : List ℕ
  pub dropped : HasDropped drops writer now old new before after
  pub none_dropped : has_failed writer.upload ≡ false → drops ≡ []
  pub none_ready : has_failed writer.upload ≡ true → ready_of_writer writer.line new.held ≡ []
