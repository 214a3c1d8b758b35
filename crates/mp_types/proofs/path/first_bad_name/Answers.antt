use Rattle.std.proofs.Common.{lit<, rules, ◌∙◌}
use borrow.Author.Tests.{tests}
use Rattle.std.specs.List.{slice_split}
use Rattle.std.proofs.lemmas.Iterator.Adapters.{position_from-zero}
use Rattle.std.proofs.lemmas.Iterator.Search.{position_from_yields_List}
use Rattle.std.proofs.lemmas.Iterator.Splits.{YieldsList-from_str_split}
use Rattle.mp_types.specs.Path.{is_bad_name, is_slash}
use Rattle.mp_types.proofs.path.first_bad_name.Goals as goal

pub returns : goal.returns
returns c =
    position_from_yields_List is_bad_name _ _ _ c.position.ensures.ran (YieldsList-from_str_split 47 c.args.below.now (lit< tt) c.split.ensures.text c.split.ensures.has_more c.split.ensures.pattern) (λ x b q k. search (rules, tests))
    ∙ position_from-zero is_bad_name (slice_split is_slash c.args.below.now)
