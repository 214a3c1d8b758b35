-- Lines changed by number.
use Rattle.std.proofs.Common.{◌≡◌, ℕ, Bool, true, false, eqb, List, [], ◌∷◌, map, Some, refl, ap}
use Rattle.mount_model.specs.declared.standing.Phase.{Phase}
use Rattle.mount_model.specs.declared.standing.Standing.{Standing}
use Rattle.mount_model.specs.State.{line_at, change_line}

abbrev with_phase : (Phase → Phase) → Standing → Standing
with_phase f s = record { line = s.line; phase = f s.phase }

-- a change of a change is one change
pub change_line-twice : (n : ℕ) (f g : Phase → Phase) (lines : List Standing) → change_line n f (change_line n g lines) ≡ change_line n (λ p. f (g p)) lines
change_line-twice n f g [] = refl
change_line-twice n f g (s ∷ lines) = at_one (eqb s.line.number n) refl (change_line-twice n f g lines)
  where
    at_one : (b : Bool) → eqb s.line.number n ≡ b → change_line n f (change_line n g lines) ≡ change_line n (λ p. f (g p)) lines → change_line n f (change_line n g (s ∷ lines)) ≡ change_line n (λ p. f (g p)) (s ∷ lines)
    at_one true e below = rw (e, e) (ap (λ t. with_phase (λ p. f (g p)) s ∷ t) below)
    at_one false e below = rw (e, e) (ap (λ t. s ∷ t) below)

-- the line of the number after the change
pub line_at-change : (n : ℕ) (f : Phase → Phase) (lines : List Standing) (s : Standing) → line_at n lines ≡ Some s → line_at n (change_line n f lines) ≡ Some (with_phase f s)
line_at-change n f [] s h = absurd (cc)
line_at-change n f (t ∷ lines) s h = at_one (eqb t.line.number n) refl h (line_at-change n f lines s)
  where
    at_one : (b : Bool) → eqb t.line.number n ≡ b → line_at n (t ∷ lines) ≡ Some s → (line_at n lines ≡ Some s → line_at n (change_line n f lines) ≡ Some (with_phase f s)) → line_at n (change_line n f (t ∷ lines)) ≡ Some (with_phase f s)
    at_one true e h below = let same : Some t ≡ Some s = rw e at h in let is : t ≡ s = cc in rw (e, e) (ap (λ x. Some (with_phase f x)) is)
    at_one false e h below = let there : line_at n lines ≡ Some s = rw e at h in rw (e, e) (below there)

-- what the lines say is not changed
pub lines-change : (n : ℕ) (f : Phase → Phase) (lines : List Standing) → map (λ s. s.line) (change_line n f lines) ≡ map (λ s. s.line) lines
lines-change n f [] = refl
lines-change n f (s ∷ lines) = at_one (eqb s.line.number n) refl (lines-change n f lines)
  where
    at_one : (b : Bool) → eqb s.line.number n ≡ b → map (λ s. s.line) (change_line n f lines) ≡ map (λ s. s.line) lines → map (λ s. s.line) (change_line n f (s ∷ lines)) ≡ map (λ s. s.line) (s ∷ lines)
    at_one true e below = rw e (ap (λ t. s.line ∷ t) below)
    at_one false e below = rw e (ap (λ t. s.line ∷ t) below)
