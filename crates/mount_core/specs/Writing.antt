-- What the parts of the mount are before and behind each part of a writer's turn.
use Rattle.std.specs.Prelude.{◌≡◌, ℕ, ◌+◌, ◌≤◌, List, length, Option, Some, Result, Ok, Err}
use Rattle.mp_types.specs.HandleName.{HandleName}
use Rattle.mp_types.specs.declared.errno.Errno.{Errno}
use Rattle.mp_types.specs.Content.{bytes_of}
use Rattle.mp_rules.specs.Local.{with_file}
use Rattle.upload_rules.specs.Upload.{Upload, written}
use Rattle.mount_model.specs.declared.handle.Handle.TheVariants.{Writing}
use Rattle.mount_model.specs.declared.handle.Waiter.{Waiter}
use Rattle.mount_model.specs.declared.event.Answered.{Answered}
use Rattle.mount_model.specs.declared.standing.Standing.{Standing}
use Rattle.mount_model.specs.State.{line_at, handle_name, holds, with_names}
use Rattle.mount_model.specs.Conversation.{Writes, write_to, with_upload}
use Rattle.mount_model.specs.Handles.{Writer, handle_of}
use Rattle.run_laws.specs.Writers.{waiting_line}
use Rattle.line_table.specs.Table.{HasBegun}
use Rattle.job_table.specs.LiveJobs.{ready_of_writer}
use Rattle.job_table.specs.declared.purpose.Purpose.{Purpose}
use Rattle.file_handles.specs.Writing.{IsRefused, MayComeBack}
use Rattle.core_writes.specs.Turn.{Turns}
use Rattle.mount_core.specs.declared.work.Work.{Work}
use Rattle.mount_core.specs.Due.{IsWrite, IsWait}
use Rattle.mount_core.specs.Shared.{shared_in}
use Rattle.mount_core.specs.Turn.{SharedAlone}

-- there is a line of this number
pub record HasLine (number : ℕ) (lines : List Standing) : Type 0 where
  pub standing : Standing
  pub stands : line_at number lines ≡ Some standing

-- the line of this number writes to the writer of its handle
pub record WritesTo (number : ℕ) (work : Work) : Type 0 where
  pub standing : Standing
  pub stands : line_at number work.lines ≡ Some standing
  pub write : IsWrite standing.line.request (handle_of standing.line work.handles)

-- the line of this number waits so for the writer of its handle
pub record WaitsFor (number : ℕ) (who : Waiter) (work : Work) : Type 0 where
  pub standing : Standing
  pub stands : line_at number work.lines ≡ Some standing
  pub wait : IsWait who number standing.line.request (handle_of standing.line work.handles)

-- so many bytes went to the writer, and its file has them
pub record HasWritten (number count : ℕ) (old new : Work) : Type 0 where
  pub to : WritesTo number old
  pub next : Writer
  pub writes : write_to to.write.writer to.write.offset (bytes_of to.write.content) ≡ Writes count next
  pub shared : shared_in new ≡ with_names (with_file next.key (written next.upload) old.names) (holds (handle_name to.standing.line) (Writing next) (shared_in old))
  pub alone : SharedAlone old new

-- the writer took none of them
pub record HasRefused (number : ℕ) (errno : Errno) (old new : Work) : Type 0 where
  pub to : WritesTo number old
  pub why : IsRefused to.write.writer to.write.offset (bytes_of to.write.content) errno
  pub shared : shared_in new ≡ shared_in old
  pub alone : SharedAlone old new

abbrev pub GivesBytes : ℕ → Result ℕ Errno → Work → Work → Type 0
GivesBytes number (Ok count) old new = HasWritten number count old new
GivesBytes number (Err errno) old new = HasRefused number errno old new

-- the writer that the line of this number opened may hear the answer to a call of this purpose
pub record MayHear (opened : ℕ) (purpose : Purpose) (work : Work) : Type 0 where
  pub standing : Standing
  pub stands : line_at opened work.lines ≡ Some standing
  pub writer : Writer
  pub holds : handle_of standing.line work.handles ≡ Some (Writing writer)
  pub back : MayComeBack purpose writer.upload
  pub at_work : length (ready_of_writer writer.line work.jobs.held) + 1 ≤ writer.upload.pending
  pub waited : (number : ℕ) → waiting_line writer.waiter ≡ Some number → HasBegun number work.lines

-- the writer under a name has asked and dropped its jobs, and this is to be said of it
pub record AsksWriter (name : HandleName) (writer : Writer) (said : Option Answered) (old new : Work) : Type 0 where
  pub upload : Upload
  pub turns : Turns writer old.jobs new.jobs old.record.steps new.record.steps upload said
  pub shared : shared_in new ≡ holds name (Writing (with_upload upload writer)) (shared_in old)
  pub lines : new.lines ≡ old.lines
  pub time : new.time ≡ old.time
