use Rattle.std.proofs.Common.{◌≡◌, Ok, List, ℕ, sym, ap, ◌∙◌}
use Rattle.std.specs.Prelude.{string_bytes}
use Rattle.std.specs.Global.{Vec}
use Rattle.std.proofs.lemmas.Str.{IsUtf8-string_bytes}
use Rattle.mp_script.proofs.Escapes.{text_is, no_text}
use Rattle.mp_script.proofs.escape.text.Goals as goal

pub returns-in-Ok : goal.returns-in-Ok
returns-in-Ok c =
    let same : string_bytes c.in-Ok.text ≡ c.in_ok-escaped_bytes.field-0.items = ap (λ (v : Vec ℕ). v.items) c.in-Ok.ensures.ok in
    text_is c.args.word.now (string_bytes c.in-Ok.text) (c.in_ok-escaped_bytes.ensures ∙ ap (λ (t : List ℕ). Ok t) (sym same)) (IsUtf8-string_bytes c.in-Ok.text)

pub returns-in-Err : goal.returns-in-Err
returns-in-Err c = no_text c.args.word.now c.in_ok-escaped_bytes.field-0.items c.in_ok-escaped_bytes.ensures (λ is. absurd (let no_such = c.in-Err.ensures.succeeds is in cc))
