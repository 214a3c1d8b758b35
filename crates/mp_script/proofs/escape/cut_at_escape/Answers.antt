use Rattle.mp_script.proofs.Escapes.{no_escape_before}
use Rattle.mp_script.proofs.escape.cut_at_escape.Goals as goal

pub returns-clause-none : goal.returns-clause-none
returns-clause-none c = rw (c.split_at.ensures.front, c.unwrap_or.ensures) (no_escape_before c.args.text.now c.memchr.result c.memchr.ensures)
