-- What reading a script returns.
use Rattle.std.specs.Prelude.{◌≡◌, ℕ, ◌+◌, ◌<◌, ◌≤◌, List, ◌∷◌, ◌++◌, length, Result, Ok, Err}
use Rattle.std.specs.Global.{Vec}
use Rattle.mp_script.specs.declared.cause.ScriptCause.{ScriptCause}
use Rattle.mp_script.specs.declared.cause.What.TheVariants.{Bytes, Lines, Reads, Data}
use Rattle.mount_model.specs.declared.request.Request.{Request}
use Rattle.mount_model.specs.declared.request.Line.{Line}
use Rattle.mp_script.specs.ScriptText as script
use Rattle.mp_script.specs.ScriptText.{Asked, BadLine, max_script_bytes, script_from, script_of}
use Rattle.mp_script.specs.declared.fault.Fault.{Fault}
use Rattle.mp_script.specs.declared.fault.Fault.TheVariants as fault
use Rattle.mp_script.specs.declared.fault.ScriptError.{ScriptError}
use Rattle.mp_script.specs.declared.fault.ScriptError.TheVariants.{Bad, TooLong, Memory}

-- what a function returned, seen by view, is what the definition gives, unless memory ran out
abbrev pub Fails : {Y : Type 0} → Fault → Result Y ScriptCause → Type 0
Fails fault.Memory read = Unit {0}
Fails (fault.Cause cause) read = read ≡ Err cause

abbrev pub Gives : {X Y : Type 0} → (X → Y) → Result X Fault → Result Y ScriptCause → Type 0
Gives view (Ok x) read = read ≡ Ok (view x)
Gives view (Err f) read = Fails f read

abbrev pub asked : ℕ × Request → Asked
asked x = record { actor = x.0; request = x.1 }

-- the lines above, and those that are read below them
abbrev pub put_before : List Line → Result (List Line) BadLine → Result (List Line) BadLine
put_before above (Ok lines) = Ok (above ++ lines)
put_before above (Err bad) = Err bad

-- a line is added, whatever stands below it
abbrev pub AddsLine : List Line → ℕ → List ℕ → Result (Unit {0}) ScriptError → List Line → Type 0
AddsLine above number text (Ok done) now = (below : List (List ℕ)) → put_before above (script_from number (text ∷ below)) ≡ put_before now (script_from (number + 1) below)
AddsLine above number text (Err (Bad line cause)) now = (below : List (List ℕ)) → script_from number (text ∷ below) ≡ Err (record { line = line; cause = cause })
AddsLine above number text (Err (TooLong what)) now = ⊥
AddsLine above number text (Err Memory) now = Unit {0}

abbrev pub ReadsLines : Result (Vec Line) ScriptError → Result (List Line) BadLine → Type 0
ReadsLines (Ok lines) read = read ≡ Ok lines.items
ReadsLines (Err (Bad line cause)) read = read ≡ Err (record { line = line; cause = cause })
ReadsLines (Err (TooLong what)) read = ⊥
ReadsLines (Err Memory) read = Unit {0}

-- the lines that the bytes spell, or why they spell none, unless memory ran out
abbrev pub ReadsScript : List ℕ → Result (List Line) ScriptError → Type 0
ReadsScript bytes (Ok lines) = (length bytes ≤ max_script_bytes) × (script_of bytes ≡ Ok lines)
ReadsScript bytes (Err (Bad line cause)) = (length bytes ≤ max_script_bytes) × (script_of bytes ≡ Err (script.Bad line cause))
ReadsScript bytes (Err (TooLong Bytes)) = max_script_bytes < length bytes
ReadsScript bytes (Err (TooLong Lines)) = (length bytes ≤ max_script_bytes) × (script_of bytes ≡ Err (script.TooLong Lines))
ReadsScript bytes (Err (TooLong Reads)) = (length bytes ≤ max_script_bytes) × (script_of bytes ≡ Err (script.TooLong Reads))
ReadsScript bytes (Err (TooLong Data)) = (length bytes ≤ max_script_bytes) × (script_of bytes ≡ Err (script.TooLong Data))
ReadsScript bytes (Err Memory) = Unit {0}
