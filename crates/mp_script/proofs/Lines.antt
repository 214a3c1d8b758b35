-- Lines, one below the other.
use Rattle.std.proofs.Common.{◌≡◌, ℕ, ◌+◌, ◌<◌, Bool, true, false, cond, List, [], ◌∷◌, ◌++◌, Result, Ok, Err, refl, ap, subst, append_assoc, arith}
use Rattle.std.proofs.lemmas.List.{append-nil}
use Rattle.mp_script.specs.declared.cause.ScriptCause.{ScriptCause}
use Rattle.mount_model.specs.declared.request.Line.{Line}
use Rattle.mount_model.specs.Run.{AreRising}
use Rattle.mp_script.specs.ScriptText.{Asked, BadLine, is_passed, asked_of, with_line, script_from}
use Rattle.mp_script.specs.Reads.{put_before, AddsLine}

pub put_before-none : (read : Result (List Line) BadLine) → put_before [] read ≡ read
put_before-none (Ok lines) = refl
put_before-none (Err bad) = refl

pub above_all : (above : List Line) → put_before above (Ok []) ≡ Ok above
above_all above = ap (λ (lines : List Line). Ok lines) (append-nil above)

-- a line that holds no request
pub passed : (above : List Line) (number : ℕ) (text : List ℕ) → is_passed text ≡ true → AddsLine above number text (Ok tt) above
passed above number text is below = rw is refl

-- a line that holds one
pub added : (above : List Line) (number : ℕ) (text : List ℕ) (asked : Asked) → is_passed text ≡ false → asked_of text ≡ Ok asked
    → AddsLine above number text (Ok tt) (above ++ record { number = number; actor = asked.actor; request = asked.request } ∷ [])
added above number text asked is e below = rw (is, e) (step (script_from (number + 1) below))
  where
    step : (read : Result (List Line) BadLine) → put_before above (with_line number (Ok asked) read) ≡ put_before (above ++ record { number = number; actor = asked.actor; request = asked.request } ∷ []) read
    step (Ok lines) = ap (λ (lines : List Line). Ok lines) (simp append_assoc)
    step (Err bad) = refl

pub is_bad : (above : List Line) (number : ℕ) (text : List ℕ) (cause : ScriptCause) (below : List (List ℕ)) → is_passed text ≡ false → asked_of text ≡ Err cause
    → script_from number (text ∷ below) ≡ Err (record { line = number; cause = cause })
is_bad above number text cause below is e = rw (is, e) refl

line_rises : (above number : ℕ) (asked : Result Asked ScriptCause) (below : Result (List Line) BadLine) (lines : List Line) → above < number
    → ((lines : List Line) → below ≡ Ok lines → AreRising number lines) → with_line number asked below ≡ Ok lines → AreRising above lines
line_rises above number (Err why) below lines lt rising e = absurd (cc)
line_rises above number (Ok asked) (Err bad) lines lt rising e = absurd (cc)
line_rises above number (Ok asked) (Ok found) lines lt rising e =
    let same : record { number = number; actor = asked.actor; request = asked.request } ∷ found ≡ lines = cc in
    subst (λ (x : List Line). AreRising above x) same (lt, rising found refl)

-- the lines of a script have rising numbers
pub rises : (above number : ℕ) (texts : List (List ℕ)) (lines : List Line) → above < number → script_from number texts ≡ Ok lines → AreRising above lines
rises above number [] lines lt e = let same : [] ≡ lines = cc in subst (λ (x : List Line). AreRising above x) same tt
rises above number (text ∷ texts) lines lt e = step (is_passed text) (rises above (number + 1) texts lines (omega arith)) (λ found is. rises number (number + 1) texts found (omega arith) is) e
  where
    step : (b : Bool) → (script_from (number + 1) texts ≡ Ok lines → AreRising above lines) → ((found : List Line) → script_from (number + 1) texts ≡ Ok found → AreRising number found)
        → cond b (script_from (number + 1) texts) (with_line number (asked_of text) (script_from (number + 1) texts)) ≡ Ok lines → AreRising above lines
    step true here behind h = here h
    step false here behind h = line_rises above number (asked_of text) (script_from (number + 1) texts) lines lt behind h
