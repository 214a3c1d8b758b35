-- The files among the mount's own names, and their writers.
use Rattle.std.specs.Prelude.{◌≡◌, ℕ, List, true, false, Option, Some, None}
use Rattle.std.specs.FinSet as set
use Rattle.std.specs.FinMap as map
use Rattle.mp_types.specs.HandleName.{HandleName}
use Rattle.mp_rules.specs.Local.{LocalNames, has_name_below}
use Rattle.upload_rules.specs.Upload.{written}
use Rattle.mount_model.specs.declared.handle.Handle.TheVariants.{Writing}
use Rattle.mount_model.specs.Handles.{Handle, Writer}
use Rattle.mount_model.specs.Writers.{is_under_way}

-- a writer of this key stands under some name, and is under way
pub record IsBeingWritten (handle_at : HandleName → Option Handle) (key : List ℕ) : Type 0 where
  pub name : HandleName
  pub writer : Writer
  pub stands : handle_at name ≡ Some (Writing writer)
  pub under_way : is_under_way writer.upload.state ≡ true
  pub key_is : writer.key ≡ key

-- Each writer under way has its file among the mount's own names, with as many bytes as it has taken, and no other
-- writer under way has the same key. Each file there has such a writer, and no key is both a directory and a file.
pub record HasFiles (handle_at : HandleName → Option Handle) (names : LocalNames) : Type 0 where
  pub each : (name : HandleName) (w : Writer) → handle_at name ≡ Some (Writing w) → is_under_way w.upload.state ≡ true → map.get names.files w.key ≡ Some (written w.upload)
  pub alone : (name other : HandleName) (first second : Writer) → handle_at name ≡ Some (Writing first) → handle_at other ≡ Some (Writing second) → is_under_way first.upload.state ≡ true → is_under_way second.upload.state ≡ true → first.key ≡ second.key → name ≡ other
  pub owned : (key : List ℕ) (size : ℕ) → map.get names.files key ≡ Some size → IsBeingWritten handle_at key
  pub apart : (key : List ℕ) → set.contains names.dirs key ≡ true → map.get names.files key ≡ None

-- neither a directory nor a file of the mount's own stands at the key
pub record IsNoName (names : LocalNames) (key : List ℕ) : Type 0 where
  pub no_dir : set.contains names.dirs key ≡ false
  pub no_file : map.get names.files key ≡ None

-- a directory of the mount's own stands at the key, and no name of its own below it
pub record IsEmptyDir (names : LocalNames) (key : List ℕ) : Type 0 where
  pub is_dir : set.contains names.dirs key ≡ true
  pub none_below : has_name_below names key ≡ false
