-- What becomes of the writer that stands under a name.
use Rattle.std.specs.Prelude.{◌≡◌, ℕ, ◌<◌, List, Some, ◌⊎◌}
use Rattle.std.specs.FinMap.{get, insert}
use Rattle.mp_types.specs.HandleName.{HandleName}
use Rattle.mp_types.specs.declared.errno.Errno.{Errno}
use Rattle.mp_types.specs.declared.errno.Errno.TheVariants.{Enomem}
use Rattle.upload_rules.specs.declared.upload.UpState.TheVariants as state
use Rattle.upload_rules.specs.declared.upload.Created.TheVariants as created
use Rattle.upload_rules.specs.Upload.{Upload, with_closing}
use Rattle.mount_model.specs.declared.handle.Handle.TheVariants.{Writing}
use Rattle.mount_model.specs.declared.handle.Waiter.{Waiter}
use Rattle.mount_model.specs.declared.handle.Waiter.TheVariants.{Nobody, Sync, Close}
use Rattle.mount_model.specs.Handles.{Handle, Handles, Writer}
use Rattle.mount_model.specs.Conversation.{Writes, ended, fails, waited_for, write_to}
use Rattle.job_table.specs.declared.purpose.Purpose.{Purpose}
use Rattle.job_table.specs.declared.purpose.Purpose.TheVariants.{Create, Part, Complete}

-- the handle writes
pub record IsWriter (handle : Handle) : Type 0 where
  pub writer : Writer
  pub writes : handle ≡ Writing writer

-- a writer stands under the name
pub record IsWriting (name : HandleName) (handles : Handles) : Type 0 where
  pub writer : Writer
  pub stands : get handles name ≡ Some (Writing writer)

-- the writer would take the bytes, and there is no memory for them
pub record LacksMemory (w : Writer) (offset : ℕ) (bytes : List ℕ) (errno : Errno) : Type 0 where
  pub count : ℕ
  pub next : Writer
  pub would : write_to w offset bytes ≡ Writes count next
  pub is_memory : errno ≡ Enomem

-- a write fails as the conversation says, or for want of memory
abbrev pub IsRefused : Writer → ℕ → List ℕ → Errno → Type 0
IsRefused w offset bytes errno = (write_to w offset bytes ≡ fails errno) ⊎ LacksMemory w offset bytes errno

-- so many bytes were written, and the handle is the next one
pub record Wrote (name : HandleName) (w : Writer) (offset : ℕ) (bytes : List ℕ) (count : ℕ) (old new : Handles) : Type 0 where
  pub next : Writer
  pub writes : write_to w offset bytes ≡ Writes count next
  pub handle : new ≡ insert old name (Writing next)

-- an fsync or a close waits for the object: no more bytes come
abbrev pub waits : Waiter → Writer → Writer
waits Nobody w = w
waits (Sync line) w = waited_for (Sync line) (ended w.upload) w
waits (Close line) w = waited_for (Close line) (with_closing (ended w.upload)) w

-- who waited was answered
abbrev pub unanswered : Writer → Writer
unanswered w = record w { waiter = Nobody }

-- a call of this purpose may come back
pub record MayComeBack (purpose : Purpose) (u : Upload) : Type 0 where
  pub out : 0 < u.pending
  pub create : purpose ≡ Create → u.created ≡ created.Asked
  pub part : purpose ≡ Part → u.stored < u.asked
  pub complete : purpose ≡ Complete → u.state ≡ state.Finished

-- the writer under the name may hear an answer to a call of this purpose
pub record MayHear (purpose : Purpose) (name : HandleName) (handles : Handles) : Type 0 where
  pub writer : Writer
  pub stands : get handles name ≡ Some (Writing writer)
  pub back : MayComeBack purpose writer.upload
