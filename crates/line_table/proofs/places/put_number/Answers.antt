use Rattle.std.proofs.Common.{sym}
use Rattle.line_table.proofs.Searches.{put_in-there}
use Rattle.line_table.proofs.places.put_number.Goals as goal

pub returns-in-Ok-clause-items : goal.returns-in-Ok-clause-items
returns-in-Ok-clause-items c = sym (put_in-there c.args.number 0 c.args.numbers.now.items c.requires.rising c.in-Ok.field-0 (rw (← c.as_slice.ensures.value) c.in-Ok.ensures))
