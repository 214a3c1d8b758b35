use Rattle.std.proofs.Common.{◌≡◌, ℕ, ◌≤◌, List, length}
use Rattle.mount_model.specs.Conversation.{with_upload}
use Rattle.job_table.specs.LiveJobs.{ready_of_writer}
use Rattle.core_writes.specs.Owed.{IsPaid, owes_jobs}
use Rattle.core_writes.specs.Dropped.{HasDropped}
use Rattle.core_writes.proofs.drops.drop_ready.Given as goal

abbrev pub invariant-loop-job : goal.invariant-loop-job
invariant-loop-job l = record {
  writer : l.writer ≡ with_upload l.writer.upload l.initial.writer;
  paid : IsPaid l.initial.jobs l.jobs l.initial.journal l.journal l.initial.owed l.owed;
  owes : owes_jobs l.jobs.held ≤ l.owed;
  at_work : length (ready_of_writer l.initial.writer.line l.jobs.held) ≤ l.writer.upload.pending;
  drops : List ℕ;
  dropped : HasDropped drops l.initial.writer l.writer.upload l.initial.jobs l.jobs l.initial.journal l.journal;
}

abbrev pub decreases-loop-job : goal.decreases-loop-job
decreases-loop-job l = length (ready_of_writer l.initial.writer.line l.jobs.held)
