-- What is due of a line, as code holds it.
use Rattle.std.specs.Prelude.{◌≡◌, ℕ, List, Option, Some}
use Rattle.mp_types.specs.declared.octets.Data.{Data}
use Rattle.mount_model.specs.declared.event.Owner.{Owner}
use Rattle.mount_model.specs.declared.handle.Handle.TheVariants.{Writing}
use Rattle.mount_model.specs.declared.handle.Waiter.{Waiter}
use Rattle.mount_model.specs.declared.handle.Waiter.TheVariants as waiter
use Rattle.mount_model.specs.declared.request.Request.{Request}
use Rattle.mount_model.specs.declared.request.Request.TheVariants as request
use Rattle.mount_model.specs.Handles.{Handle, Writer}
use Rattle.mount_model.specs.Conversation.{Next, Asks, Replies, Makes, Removes, Opens, Creates, Lists, Gives, Waits}
use Rattle.mount_model.specs.Run.{asked_of}
use Rattle.job_table.specs.LiveJobs.{purpose_of}
use Rattle.mount_core.specs.declared.due.Due.{Due}
use Rattle.mount_core.specs.declared.due.Due.TheVariants as due

-- what may find no memory: a call, a handle, a directory that is made, and what one shows
abbrev pub MayLack : Next → Type 0
MayLack (Asks called) = Unit {0}
MayLack (Opens version) = Unit {0}
MayLack (Makes key) = Unit {0}
MayLack (Creates key) = Unit {0}
MayLack (Lists entries) = Unit {0}
MayLack other = ⊥

-- what a writer is due is said beside this, by whose it is
abbrev pub DueMeans : Due → Owner → Next → Type 0
DueMeans (due.Call asking) expected next = (next ≡ Asks asking.call) × (asking.owner ≡ expected)
DueMeans (due.Reply said) expected next = next ≡ Replies said
DueMeans (due.MakeDir key) expected next = next ≡ Makes key
DueMeans due.RemoveDir expected next = (key : List ℕ) × (next ≡ Removes key)
DueMeans (due.Open version) expected next = next ≡ Opens version
DueMeans (due.Create key) expected next = next ≡ Creates key
DueMeans (due.Listed entries) expected next = next ≡ Lists entries
DueMeans due.Data expected next = (count : ℕ) × (next ≡ Gives count)
DueMeans due.Write expected next = Unit {0}
DueMeans (due.Wait who) expected next = Unit {0}
DueMeans due.Nothing expected next = next ≡ Waits
DueMeans due.NoMemory expected next = MayLack next

-- the request writes to the writer of its handle
pub record IsWrite (asked : Request) (handle : Option Handle) : Type 0 where
  pub name : ℕ
  pub offset : ℕ
  pub content : Data
  pub writer : Writer
  pub is : asked ≡ request.Write name offset content
  pub holds : handle ≡ Some (Writing writer)

-- the request waits for the writer of its handle: an fsync or a close
abbrev pub is_waiting : Waiter → ℕ → ℕ → Request → Type 0
is_waiting waiter.Nobody number name asked = ⊥
is_waiting (waiter.Sync line) number name asked = (line ≡ number) × (asked ≡ request.Sync name)
is_waiting (waiter.Close line) number name asked = (line ≡ number) × (asked ≡ request.Close name)

pub record IsWait (who : Waiter) (number : ℕ) (asked : Request) (handle : Option Handle) : Type 0 where
  pub name : ℕ
  pub writer : Writer
  pub is : is_waiting who number name asked
  pub holds : handle ≡ Some (Writing writer)

-- whose is what a writer is due
abbrev pub DueIsOf : Due → ℕ → Request → Option Handle → Type 0
DueIsOf due.Write number asked handle = IsWrite asked handle
DueIsOf (due.Wait who) number asked handle = IsWait who number asked handle
DueIsOf other number asked handle = Unit {0}

-- the record tells the call that is made, and the purpose is that of the call
abbrev pub DueTells : Due → ℕ → Type 0
DueTells (due.Call asking) number = (asking.asked ≡ asked_of asking.call) × (asking.purpose ≡ purpose_of asking.call) × (asking.line ≡ number)
DueTells other number = Unit {0}
