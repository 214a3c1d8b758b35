-- Changes of a bucket by others.
use Rattle.std.specs.Prelude.{List, [], ◌∷◌, ◌++◌}
use Rattle.bucket_model.specs.declared.call.Call.{Call}
use Rattle.bucket_model.specs.declared.call.Call.TheVariants as call
use Rattle.fault_store.specs.declared.change.Change.{Change}
use Rattle.fault_store.specs.declared.change.Change.TheVariants.{Delete, Put}

-- the call that makes the change
abbrev pub call_of : Change → Call
call_of (Delete key) = call.Delete key
call_of (Put key bytes) = call.Put key bytes

-- the calls of changes that are kept last one first
abbrev pub calls_of : List Change → List Call
calls_of [] = []
calls_of (change ∷ changes) = calls_of changes ++ call_of change ∷ []
