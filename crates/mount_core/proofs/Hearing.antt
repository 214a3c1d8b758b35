-- What hearing an answer leaves, whether or not there was memory for it.
use Rattle.std.proofs.Common.{◌≡◌, ℕ, List, Result, Ok, Err, ap, ◌∙◌}
use Rattle.std.specs.Prelude.{OnOk, OnErr, map}
use Rattle.std.specs.declared.alloc.AllocError.{AllocError}
use Rattle.mount_model.specs.declared.standing.Standing.{Standing}
use Rattle.mount_model.specs.declared.standing.Told.{Told}
use Rattle.mount_model.specs.State.{change_line, heard}
use Rattle.mount_core.specs.Room.{owes_lines}
use Rattle.mount_core.proofs.Changes.{lines-change}
use Rattle.mount_core.proofs.Kept.{owes-heard}

pub owed_heard : (n : ℕ) (told : Told) (old new : List Standing) (r : Result (Unit {0}) AllocError) → OnOk r (new ≡ change_line n (heard told) old) → OnErr r (new ≡ old) → owes_lines new ≡ owes_lines old
owed_heard n told old new (Ok done) ok err = ap owes_lines ok ∙ owes-heard n told old
owed_heard n told old new (Err e) ok err = ap owes_lines err

-- what the lines say stays
pub lines_heard : (n : ℕ) (told : Told) (old new : List Standing) (r : Result (Unit {0}) AllocError) → OnOk r (new ≡ change_line n (heard told) old) → OnErr r (new ≡ old) → map (λ s. s.line) new ≡ map (λ s. s.line) old
lines_heard n told old new (Ok done) ok err = ap (map (λ s. s.line)) ok ∙ lines-change n (heard told) old
lines_heard n told old new (Err e) ok err = ap (map (λ s. s.line)) err
