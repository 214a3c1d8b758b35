use Rattle.std.proofs.Common.{length, lit<, sym, ap, ◌∙◌}
use Rattle.std.proofs.lemmas.Iterator.Consumers.{count_from_yields_List}
use Rattle.std.proofs.lemmas.Iterator.Splits.{YieldsList-from_str_split}
use Rattle.mp_types.specs.Path.{names_in}
use Rattle.mp_types.proofs.Paths.{names_of_some}
use Rattle.mp_types.proofs.path.FilePath.len.Goals as goal

pub returns : goal.returns
returns c =
    count_from_yields_List _ _ c.count.ensures.ran (YieldsList-from_str_split 47 c.as_str-text.result.now (lit< tt) c.split.ensures.text c.split.ensures.has_more c.split.ensures.pattern)
    ∙ ap length (sym (names_of_some c.as_str-text.result.now (sym c.is_empty.ensures ∙ c.if-is_empty.false)) ∙ (ap names_in c.as_str-text.ensures ∙ c.self.view_is))
