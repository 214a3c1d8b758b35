use Rattle.std.proofs.Common.{◌≡◌, ℕ, ◌+◌, ◌-◌, ◌^◌, ◌≤◌, List, length, sym, ap, ◌∙◌, arith}
use Rattle.std.specs.Prelude.{min}
use Rattle.std.proofs.lemmas.List.{drop_all}
use Rattle.mount_model.specs.declared.request.Line.{Line}
use Rattle.mount_model.specs.declared.request.Request.{Request}
use Rattle.mp_script.specs.ScriptText.{bytes_together, count_in, given_in}
use Rattle.mp_script.proofs.script.Moved.together.Goals as goal
use Rattle.mp_script.proofs.script.Moved.together.Invariants.{IsSum}

-- no line is left
whole : (bytes_in : Request → ℕ) (lines : List Line) (index sum : ℕ) → length lines ≤ index → IsSum bytes_in lines index sum → sum ≡ min (bytes_together bytes_in lines) (2 ^ 64 - 1)
whole bytes_in lines index sum over is =
    let none = drop_all index lines over in
    let all : min (sum + 0) (2 ^ 64 - 1) ≡ min (bytes_together bytes_in lines) (2 ^ 64 - 1) = ap (λ (rest : List Line). min (sum + bytes_together bytes_in rest) (2 ^ 64 - 1)) (sym none) ∙ is.1 in
    omega (arith, is.0, all)

pub returns-clause-read : goal.returns-clause-read
returns-clause-read c = whole count_in c.args.lines.now c.loop-line.line-index c.loop-line.read c.loop-line-test.false c.loop-line.invariant.0

pub returns-clause-given : goal.returns-clause-given
returns-clause-given c = whole given_in c.args.lines.now c.loop-line.line-index c.loop-line.given c.loop-line-test.false c.loop-line.invariant.1
