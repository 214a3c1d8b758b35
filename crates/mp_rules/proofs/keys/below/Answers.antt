use Rattle.std.proofs.Common.{List, ℕ, sym, ap, ◌∙◌}
use Rattle.mp_rules.specs.Keys.{is_below}
use Rattle.mp_rules.proofs.Begins.{then_slash, other_front}
use Rattle.mp_rules.proofs.keys.below.Goals as goal

pub returns-then-starts_with : goal.returns-then-starts_with
returns-then-starts_with c =
    then_slash c.as_bytes-key.result.now c.as_bytes-above.result.now c.starts_with-then-starts_with.result (sym c.is_empty.ensures ∙ c.if-is_empty.false) (sym c.starts_with.ensures.value ∙ c.if-starts_with.true) c.starts_with-then-starts_with.ensures.value
    ∙ (ap (λ (key : List ℕ). is_below key c.as_bytes-above.result.now) c.as_bytes-key.ensures.value ∙ ap (is_below c.args.key.now) c.as_bytes-above.ensures.value)

pub returns-else-starts_with : goal.returns-else-starts_with
returns-else-starts_with c =
    other_front c.as_bytes-key.result.now c.as_bytes-above.result.now c.starts_with.result (sym c.is_empty.ensures ∙ c.if-is_empty.false) c.starts_with.ensures.value c.if-starts_with.false
    ∙ (ap (λ (key : List ℕ). is_below key c.as_bytes-above.result.now) c.as_bytes-key.ensures.value ∙ ap (is_below c.args.key.now) c.as_bytes-above.ensures.value)
