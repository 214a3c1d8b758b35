use Rattle.std.proofs.Common.{◌≡◌, ℕ, ◌≤◌, length}
use Rattle.mount_model.specs.Conversation.{with_upload}
use Rattle.job_table.specs.LiveJobs.{ready_of_writer}
use Rattle.core_writes.specs.Owed.{IsPaid}
use Rattle.core_writes.specs.Asked.{HasAsked}
use Rattle.core_writes.proofs.Asked.{asks_left}
use Rattle.core_writes.proofs.asks.ask_all.Given as goal

abbrev pub invariant-loop-ask : goal.invariant-loop-ask
invariant-loop-ask l = record {
  writer : l.writer ≡ with_upload l.writer.upload l.initial.writer;
  paid : IsPaid l.initial.jobs l.jobs l.initial.journal l.journal l.initial.owed l.owed;
  at_work : length (ready_of_writer l.initial.writer.line l.jobs.held) ≤ l.writer.upload.pending;
  count : ℕ;
  asked : HasAsked count l.initial.writer l.writer.upload l.initial.jobs l.jobs l.initial.journal l.journal;
}

abbrev pub decreases-loop-ask : goal.decreases-loop-ask
decreases-loop-ask l = asks_left l.writer.upload
