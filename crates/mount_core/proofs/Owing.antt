-- What lines owe the record, when one of them goes on.
use Rattle.std.proofs.Common.{◌≡◌, ℕ, ◌+◌, ◌*◌, ◌≤◌, Bool, true, false, eqb, List, [], ◌∷◌, ◌++◌, map, length, Option, Some, None, refl, ap, ◌∙◌, arith}
use Rattle.std.proofs.lemmas.Bool.{eqb-true}
use Rattle.std.proofs.lemmas.Bool.Decides.{nat_tests}
use Rattle.mount_model.specs.declared.request.Line.{Line}
use Rattle.mount_model.specs.declared.standing.Phase.{Phase}
use Rattle.mount_model.specs.declared.standing.Phase.TheVariants.{Waiting}
use Rattle.mount_model.specs.declared.standing.Standing.{Standing}
use Rattle.mount_model.specs.State.{line_at, change_line}
use Rattle.mount_model.specs.Run.{AreRising}
use Rattle.bucket_model.specs.declared.call.Call.{Call}
use Rattle.job_table.specs.LiveJobs.{Held, held_at, with_taken, without, IsReadyIn, IsOutIn}
use Rattle.core_writes.specs.Owed.{owes_call, owes_jobs}
use Rattle.core_writes.proofs.Dropped.{less-owed}
use Rattle.mount_core.specs.Room.{owes_phase, owes_lines}

-- lines below a number are not of this number
change_line-above : (n : ℕ) (f : Phase → Phase) (lines : List Standing) (above : ℕ) → n ≤ above → AreRising above (map (λ s. s.line) lines) → change_line n f lines ≡ lines
change_line-above n f [] above h rising = refl
change_line-above n f (s ∷ lines) above h rising =
    let other : eqb s.line.number n ≡ false = grind (arith, nat_tests, rising.0) in
    rw other (ap (λ t. s ∷ t) (change_line-above n f lines s.line.number (omega (arith, rising.0)) rising.1))

pub owes_lines-change : (n : ℕ) (f : Phase → Phase) (lines : List Standing) (above : ℕ) (s : Standing) → AreRising above (map (λ s. s.line) lines) → line_at n lines ≡ Some s → owes_lines (change_line n f lines) + owes_phase s.phase ≡ owes_lines lines + owes_phase (f s.phase)
owes_lines-change n f [] above s rising h = absurd (cc)
owes_lines-change n f (t ∷ lines) above s rising h = at_one (eqb t.line.number n) refl h (owes_lines-change n f lines t.line.number s rising.1)
  where
    at_one : (b : Bool) → eqb t.line.number n ≡ b → line_at n (t ∷ lines) ≡ Some s → (line_at n lines ≡ Some s → owes_lines (change_line n f lines) + owes_phase s.phase ≡ owes_lines lines + owes_phase (f s.phase)) → owes_lines (change_line n f (t ∷ lines)) + owes_phase s.phase ≡ owes_lines (t ∷ lines) + owes_phase (f s.phase)
    at_one true e h below =
        let same : Some t ≡ Some s = rw e at h in
        let is : t ≡ s = cc in
        let number : t.line.number ≡ n = eqb-true t.line.number n e in
        let rest = change_line-above n f lines t.line.number (omega arith) rising.1 in
        rw (e, rest, is) (omega arith)
    at_one false e h below = let there : line_at n lines ≡ Some s = rw e at h in let step = below there in rw e (omega arith)

-- each line that waits owes its begin and its reply
pub owes_lines-start : (script : List Line) → owes_lines (map (λ line. record { line = line; phase = Waiting }) script) ≡ length script * 2
owes_lines-start [] = refl
owes_lines-start (line ∷ script) = omega (arith, owes_lines-start script)

-- A job that is taken owes less, and one that is gone nothing.
taken-no_more : (n : ℕ) (held : List Held) → owes_jobs (with_taken n held) ≤ owes_jobs held
taken-no_more n [] = omega arith
taken-no_more n (h ∷ held) = at_one (eqb h.number n) refl (taken-no_more n held)
  where
    at_least_one : (c : Option Call) → 1 ≤ owes_call c
    at_least_one (Some called) = omega arith
    at_least_one None = omega arith

    at_one : (b : Bool) → eqb h.number n ≡ b → owes_jobs (with_taken n held) ≤ owes_jobs held → owes_jobs (with_taken n (h ∷ held)) ≤ owes_jobs (h ∷ held)
    at_one true e below = rw e (omega (arith, below, at_least_one h.call))
    at_one false e below = rw e (omega (arith, below))

pub owes_jobs-taken : (n : ℕ) (held : List Held) → IsReadyIn n held → owes_jobs (with_taken n held) + 1 ≤ owes_jobs held
owes_jobs-taken n held is_ready = among n held is_ready.job is_ready.called is_ready.stands is_ready.waits
  where
    among : (n : ℕ) (held : List Held) (job : Held) (called : Call) → held_at n held ≡ Some job → job.call ≡ Some called → owes_jobs (with_taken n held) + 1 ≤ owes_jobs held
    among n [] job called stands waits = absurd (cc)
    among n (h ∷ held) job called stands waits = at_one (eqb h.number n) refl stands (among n held job called)
      where
        at_one : (b : Bool) → eqb h.number n ≡ b → held_at n (h ∷ held) ≡ Some job → (held_at n held ≡ Some job → job.call ≡ Some called → owes_jobs (with_taken n held) + 1 ≤ owes_jobs held) → owes_jobs (with_taken n (h ∷ held)) + 1 ≤ owes_jobs (h ∷ held)
        at_one true e stands below =
            let same : Some h ≡ Some job = rw e at stands in
            let is : h ≡ job = cc in
            let two : owes_call h.call ≡ 2 = ap (λ (x : Held). owes_call x.call) is ∙ ap owes_call waits in
            rw e (omega (arith, two, taken-no_more n held))
        at_one false e stands below = let there : held_at n held ≡ Some job = rw e at stands in rw e (omega (arith, below there waits))

pub owes_jobs-without : (n : ℕ) (held : List Held) → IsOutIn n held → owes_jobs (without n held) + 1 ≤ owes_jobs held
owes_jobs-without n held is_out = among n held is_out.job is_out.stands
  where
    one_each : (c : Option Call) → 1 ≤ owes_call c
    one_each (Some called) = omega arith
    one_each None = omega arith

    among : (n : ℕ) (held : List Held) (job : Held) → held_at n held ≡ Some job → owes_jobs (without n held) + 1 ≤ owes_jobs held
    among n [] job stands = absurd (cc)
    among n (h ∷ held) job stands = at_one (eqb h.number n) refl stands (among n held job)
      where
        at_one : (b : Bool) → eqb h.number n ≡ b → held_at n (h ∷ held) ≡ Some job → (held_at n held ≡ Some job → owes_jobs (without n held) + 1 ≤ owes_jobs held) → owes_jobs (without n (h ∷ held)) + 1 ≤ owes_jobs (h ∷ held)
        at_one true e stands below = rw e (omega (arith, one_each h.call, less-owed n held))
        at_one false e stands below = let there : held_at n held ≡ Some job = rw e at stands in rw e (omega (arith, below there))

pub owes_jobs-push : (held : List Held) (h : Held) → owes_jobs (held ++ h ∷ []) ≡ owes_jobs held + owes_call h.call
owes_jobs-push [] h = omega arith
owes_jobs-push (x ∷ held) h = omega (arith, owes_jobs-push held h)
