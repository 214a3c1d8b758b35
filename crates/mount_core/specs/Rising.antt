-- That line numbers rise is a fact with one proof, so that a value may keep it.
use Rattle.std.specs.Prelude.{ℕ, List, [], ◌∷◌}
use Rattle.std.specs.Coded.{×_prop, Unit-prop, le_prop}
use Rattle.mount_model.specs.declared.request.Line.{Line}
use Rattle.mount_model.specs.Run.{AreRising}

pub AreRising-prop : (above : ℕ) (lines : List Line) → IsProp (AreRising above lines)
AreRising-prop above [] = Unit-prop
AreRising-prop above (line ∷ lines) = ×_prop le_prop (AreRising-prop line.number lines)
