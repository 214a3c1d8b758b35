use Rattle.std.proofs.Common.{◌≡◌, ℕ, Some, Result, Ok, Err, OnErr, ap, ◌∙◌}
use Rattle.std.specs.FinMap.{get, insert}
use Rattle.mp_types.specs.HandleName.{HandleName}
use Rattle.mp_types.specs.declared.errno.Errno.{Errno}
use Rattle.mount_model.specs.declared.handle.Handle.TheVariants.{Writing}
use Rattle.mount_model.specs.Handles.{Handles, Writer}
use Rattle.file_handles.proofs.Tables.{put_again}
use Rattle.file_handles.proofs.handles.write.Goals as goal

stays : (handles : Handles) (name : HandleName) (old new : Writer) → get handles name ≡ Some (Writing old) → (result : Result ℕ Errno) → OnErr result (new ≡ old) → OnErr result (insert handles name (Writing new) ≡ handles)
stays handles name old new stands (Ok count) same = tt
stays handles name old new stands (Err errno) same = ap (λ w. insert handles name (Writing w)) same ∙ put_again handles name (Writing old) stands

pub returns-clause-err : goal.returns-clause-err
returns-clause-err c = stays _ _ _ _ c.writer_at.ensures.value c.take_bytes.result c.take_bytes.ensures.err
