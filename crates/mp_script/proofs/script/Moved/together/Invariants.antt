use Rattle.std.proofs.Common.{◌≡◌, ℕ, ◌+◌, ◌-◌, ◌^◌, ◌≤◌, List, drop}
use Rattle.std.specs.Prelude.{min}
use Rattle.mount_model.specs.declared.request.Line.{Line}
use Rattle.mount_model.specs.declared.request.Request.{Request}
use Rattle.mp_script.specs.ScriptText.{bytes_together, count_in, given_in}
use Rattle.mp_script.proofs.script.Moved.together.Given as goal

-- a sum with that of the lines that are left
abbrev pub IsSum : (Request → ℕ) → List Line → ℕ → ℕ → Type 0
IsSum bytes_in lines index sum = (sum ≤ 2 ^ 64 - 1) × (min (sum + bytes_together bytes_in (drop index lines)) (2 ^ 64 - 1) ≡ min (bytes_together bytes_in lines) (2 ^ 64 - 1))

abbrev pub invariant-loop-line : goal.invariant-loop-line
invariant-loop-line l = IsSum count_in l.lines l.line-index l.read × IsSum given_in l.lines l.line-index l.given
