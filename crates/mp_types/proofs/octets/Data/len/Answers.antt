use Rattle.std.proofs.Common.{sym}
use Rattle.mp_types.proofs.Patterns.{pattern-length}
use Rattle.mp_types.proofs.octets.Data.len.Goals as goal

-- src/octets.rt:48:5
pub returns-in-Pattern : goal.returns-in-Pattern
returns-in-Pattern c = rw c.in-Pattern.is (sym (pattern-length c.in-Pattern.seed c.in-Pattern.length))
