use Rattle.std.proofs.Common.{◌≡◌, refl, sym, subst, ◌∙◌}
use Rattle.mp_script.specs.Reads.{Fails}
use Rattle.mp_script.proofs.Escapes.{bad_ahead, front_read}
use Rattle.mp_script.proofs.escape.unescaped.Goals as goal

pub returns-then-not-all_stand : goal.returns-then-not-all_stand
returns-then-not-all_stand c = rw c.cut_at_escape.ensures.whole (bad_ahead c.cut_at_escape.result.0.now c.cut_at_escape.result.1.now c.cut_at_escape.ensures.none (sym c.if-not-all_stand.ensures))

pub returns-in-Err : goal.returns-in-Err
returns-in-Err c =
    let front : c.extend_from_slice.new.self.items ≡ c.cut_at_escape.result.0.now = c.in_ok-extend_from_slice.ensures.items ∙ rw c.in_ok-bytes.ensures.items refl in
    let read = front_read c.args.text.now c.cut_at_escape.result.0.now c.cut_at_escape.result.1.now _ c.cut_at_escape.ensures.whole (sym c.if-not-all_stand.ensures) refl in
    subst (Fails c.in-Err.fault) (sym read) (rw front at c.in-Err.ensures)

pub returns-in-Ok : goal.returns-in-Ok
returns-in-Ok c =
    let front : c.extend_from_slice.new.self.items ≡ c.cut_at_escape.result.0.now = c.in_ok-extend_from_slice.ensures.items ∙ rw c.in_ok-bytes.ensures.items refl in
    front_read c.args.text.now c.cut_at_escape.result.0.now c.cut_at_escape.result.1.now _ c.cut_at_escape.ensures.whole (sym c.if-not-all_stand.ensures) (rw front at c.in-Ok.ensures)
