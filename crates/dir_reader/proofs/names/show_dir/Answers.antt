use Rattle.std.proofs.Common.{None, lit<}
use Rattle.std.proofs.lemmas.Str.Pattern.{strip_suffix_char}
use Rattle.dir_reader.specs.Gathered.{found_in}
use Rattle.dir_reader.proofs.Items.{no_dir}
use Rattle.dir_reader.proofs.names.show_dir.Goals as goal

pub returns-in-None : goal.returns-in-None
returns-in-None c = no_dir c.args.rest.now (found_in c.args.names.now) (strip_suffix_char 47 c.args.rest.now None c.in-None.ensures.cases (lit< tt))
