-- The handles that processes hold open.
use Rattle.std.specs.Prelude.{ℕ, Option, Some, None}
use Rattle.std.specs.FinMap as table
use Rattle.mp_types.specs.HandleName.{name_cmp}
use Rattle.upload_rules.specs.Upload.{Upload}
use Rattle.mount_model.specs.declared.handle.Handle.{Handle as HandleOf}
use Rattle.mount_model.specs.declared.handle.Handle.TheVariants.{Reading}
use Rattle.mount_model.specs.declared.handle.Writer.{Writer as WriterOf}
use Rattle.mount_model.specs.declared.request.Request.{Request}
use Rattle.mount_model.specs.declared.request.Request.TheVariants.{OpenRead, OpenWrite, OpenTruncate, Read, Write, Sync, Close}
use Rattle.mount_model.specs.declared.request.Line.{Line}
use Rattle.mount_model.specs.declared.event.Owner.{Owner}
use Rattle.mount_model.specs.declared.event.Owner.TheVariants as owner

abbrev pub Writer : Type 0
Writer = WriterOf Upload

abbrev pub Handle : Type 0
Handle = HandleOf Upload

-- the live handles, each under the process that opened it and the name that it gave
abbrev pub Handles : Type 0
Handles = table.FinMap name_cmp Handle

-- the name that a request gives for a handle of its process
abbrev pub name_in : Request → Option ℕ
name_in (OpenRead name path) = Some name
name_in (OpenWrite name path) = Some name
name_in (OpenTruncate name path) = Some name
name_in (Read name offset count) = Some name
name_in (Write name offset content) = Some name
name_in (Sync name) = Some name
name_in (Close name) = Some name
name_in other = None

abbrev pub handle_named : ℕ → Option ℕ → Handles → Option Handle
handle_named actor None handles = None
handle_named actor (Some name) handles = table.get handles (actor, name)

-- the handle that a line names, where it is live
abbrev pub handle_of : Line → Handles → Option Handle
handle_of line handles = handle_named line.actor (name_in line.request) handles

-- whose jobs a line asks for: a read asks for the stream of its handle, and any other line for itself
abbrev pub owner_for : ℕ → Request → Option Handle → Owner
owner_for number (Read name offset count) (Some (Reading line version)) = owner.Stream line
owner_for number other handle = owner.Line number
