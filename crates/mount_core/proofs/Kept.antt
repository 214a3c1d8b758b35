-- What lines owe, and that their numbers rise, while they go on.
use Rattle.std.proofs.Common.{◌≡◌, ℕ, ◌+◌, Bool, true, false, eqb, List, [], ◌∷◌, map, refl, sym, ap, subst, arith}
use Rattle.mount_model.specs.declared.standing.Phase.{Phase}
use Rattle.mount_model.specs.declared.standing.Phase.TheVariants.{Waiting, Begun, Replied}
use Rattle.mount_model.specs.declared.standing.Standing.{Standing}
use Rattle.mount_model.specs.declared.standing.Told.{Told}
use Rattle.mount_model.specs.Heard.{nothing_heard, with_told}
use Rattle.mount_model.specs.State.{change_line, heard}
use Rattle.mount_model.specs.Run.{AreRising, is_among, startable}
use Rattle.line_table.specs.Table.{HasBegun}
use Rattle.run_laws.proofs.Lines.{Rises-lines}
use Rattle.run_laws.proofs.Orderly.{startable-found}
use Rattle.mount_core.specs.Room.{owes_phase, owes_lines}
use Rattle.mount_core.proofs.Changes.{lines-change, line_at-change}
use Rattle.mount_core.proofs.Owing.{owes_lines-change}

pub rising-change : (n : ℕ) (f : Phase → Phase) (lines : List Standing) → AreRising 0 (map (λ s. s.line) lines) → AreRising 0 (map (λ s. s.line) (change_line n f lines))
rising-change n f lines rising = subst (AreRising 0) (sym (lines-change n f lines)) rising

-- a line that may begin waits, and owes its begin and its reply
pub owes-begun : (n : ℕ) (lines : List Standing) → AreRising 0 (map (λ s. s.line) lines) → is_among n (startable lines) ≡ true → owes_lines (change_line n (λ phase. Begun nothing_heard) lines) + 1 ≡ owes_lines lines
owes-begun n lines rising may =
    let found = startable-found 0 n [] lines (Rises-lines 0 lines rising) may in
    let changed = owes_lines-change n (λ phase. Begun nothing_heard) lines 0 (record { line = found.line; phase = Waiting }) rising found.stands in
    omega arith

pub owes-replied : (n : ℕ) (lines : List Standing) → AreRising 0 (map (λ s. s.line) lines) → HasBegun n lines → owes_lines (change_line n (λ phase. Replied) lines) + 1 ≡ owes_lines lines
owes-replied n lines rising begun =
    let changed = owes_lines-change n (λ phase. Replied) lines 0 begun.standing rising begun.stands in
    let one : owes_phase begun.standing.phase ≡ 1 = ap owes_phase begun.phase in
    omega arith

owes-heard_phase : (told : Told) (p : Phase) → owes_phase (heard told p) ≡ owes_phase p
owes-heard_phase told Waiting = refl
owes-heard_phase told (Begun before) = refl
owes-heard_phase told Replied = refl

-- an answer that is heard changes nothing of what is owed
pub owes-heard : (n : ℕ) (told : Told) (lines : List Standing) → owes_lines (change_line n (heard told) lines) ≡ owes_lines lines
owes-heard n told [] = refl
owes-heard n told (s ∷ lines) = at_one (eqb s.line.number n) refl (owes-heard n told lines)
  where
    at_one : (b : Bool) → eqb s.line.number n ≡ b → owes_lines (change_line n (heard told) lines) ≡ owes_lines lines → owes_lines (change_line n (heard told) (s ∷ lines)) ≡ owes_lines (s ∷ lines)
    at_one true e below = rw e (omega (arith, below, owes-heard_phase told s.phase))
    at_one false e below = rw e (omega (arith, below))

-- a line that has begun has begun still
pub begun-heard : (n : ℕ) (told : Told) (lines : List Standing) → HasBegun n lines → HasBegun n (change_line n (heard told) lines)
begun-heard n told lines begun = record {
  standing = record { line = begun.standing.line; phase = heard told begun.standing.phase };
  stands = line_at-change n (heard told) lines begun.standing begun.stands;
  heard = with_told told begun.heard;
  phase = ap (heard told) begun.phase;
}
