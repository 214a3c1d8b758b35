use Rattle.std.proofs.Common.{◌≡◌, ◌+◌, ◌≤◌, length, sym, ap, ◌∙◌, arith}
use Rattle.mp_types.specs.Content.{bytes_of, pattern}
use Rattle.mp_types.proofs.Patterns.{pattern-length, pattern-range}
use Rattle.mp_types.proofs.octets.Data.fill.Goals as goal

-- src/octets.rt:68:5
pub returns-in-Pattern : goal.returns-in-Pattern
returns-in-Pattern c =
    let count : length (bytes_of c.args.self.now) ≡ c.in-Pattern.length = ap (λ d. length (bytes_of d)) c.in-Pattern.is ∙ pattern-length c.in-Pattern.seed c.in-Pattern.length in
    let within : c.args.at + length c.args.out.now ≤ c.in-Pattern.length = omega (arith, c.requires) in
    rw c.in-Pattern.is (c.write_pattern.ensures ∙ (ap (λ first. pattern first (length c.args.out.now)) c.byte_at.ensures.value ∙ sym (pattern-range c.in-Pattern.seed c.in-Pattern.length c.args.at (length c.args.out.now) within)))
