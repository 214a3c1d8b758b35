use Rattle.std.proofs.Common.{◌<◌, length, sym, ◌∙◌, arith, rules}
use Rattle.mp_record.proofs.Escaped.{escaped_plain_text}
use Rattle.mp_record.proofs.escape.push_escaped.Goals as goal

pub returns-then-are_plain : goal.returns-then-are_plain
returns-then-are_plain c =
    let some : 0 < length c.args.text.now = grind arith in
    rw (escaped_plain_text c.args.text.now some (sym c.are_plain.ensures ∙ c.if-are_plain.true)) (search rules)
