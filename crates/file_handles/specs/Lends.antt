-- What a handle, and the table of handles, end as, where a `&mut` to a writer is returned.
use Rattle.std.specs.Borrow.{Lends, Fml, MutBor}
use Rattle.std.specs.FinMap.{insert}
use Rattle.mp_types.specs.HandleName.{HandleName}
use Rattle.mount_model.specs.declared.handle.Handle.TheVariants.{Writing}
use Rattle.mount_model.specs.contracts.handle.Handle.{the_row as handle_row}
use Rattle.mount_model.specs.contracts.handle.Writer.{the_row as writer_row}
use Rattle.mp_handles.specs.contracts.handles.Handles.{the_row as handles_row}
use Rattle.part_uploader.specs.contracts.uploader.Uploader.{the_row as uploader_row}
use Rattle.mount_model.specs.Handles.{Handle, Handles, Writer}

-- a writing handle has the writer that is left behind r
abbrev pub lends_writer : MutBor Handle → MutBor Writer → Fml
lends_writer s r = Lends (handle_row uploader_row) (writer_row uploader_row) s r Writing

-- the name has the writer that is left behind r
abbrev pub lends_writer_at : MutBor Handles → HandleName → MutBor Writer → Fml
lends_writer_at s name r = Lends (handles_row (handle_row uploader_row)) (writer_row uploader_row) s r (λ w. insert s.now name (Writing w))
