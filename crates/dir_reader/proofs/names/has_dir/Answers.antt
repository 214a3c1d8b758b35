use Rattle.std.proofs.Common.{None, ◌∙◌}
use Rattle.dir_reader.proofs.Tables.{dir_found}
use Rattle.dir_reader.proofs.names.has_dir.Goals as goal

pub returns-in-Some : goal.returns-in-Some
returns-in-Some c = c.shows_dir.ensures ∙ dir_found c.args.names.now c.args.name.now _ c.in-Some.ensures.value

pub returns-in-None : goal.returns-in-None
returns-in-None c = dir_found c.args.names.now c.args.name.now None c.in-None.ensures.value
