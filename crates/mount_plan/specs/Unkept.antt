-- The error of a listing that can't keep the next page, by what it heard before.
use Rattle.std.specs.Prelude.{◌+◌, List, length, Bool, not, ◌&&◌, nat_lt, if◌then◌else◌}
use Rattle.mp_types.specs.declared.errno.Errno.{Errno}
use Rattle.mp_types.specs.declared.errno.Errno.TheVariants.{Enomem, Eoverflow}
use Rattle.bucket_model.specs.declared.answer.Brief.{Brief}
use Rattle.mount_model.specs.Conversation.{max_pages}

-- no further page is asked for where so many came
abbrev pub unkept_errno : Bool → List Brief → Errno
unkept_errno more answers = if more && not (nat_lt (length answers + 1) max_pages) then Eoverflow else Enomem
