use Rattle.std.proofs.Common.{List, ℕ, lit<, sym, ap, ◌∙◌}
use Rattle.std.specs.List.{slice_get}
use Rattle.std.proofs.lemmas.Iterator.Consumers.{nth_from_yields_List}
use Rattle.std.proofs.lemmas.Iterator.Splits.{YieldsList-from_str_split}
use Rattle.mp_types.specs.Path.{names_in}
use Rattle.mp_types.proofs.Paths.{names_of_some}
use Rattle.mp_types.proofs.path.FilePath.name_at.Goals as goal

pub returns : goal.returns
returns c =
    nth_from_yields_List _ _ _ c.nth.ensures.ran (YieldsList-from_str_split 47 c.as_str-text.result.now (lit< tt) c.split.ensures.text c.split.ensures.has_more c.split.ensures.pattern)
    ∙ ap (λ (names : List (List ℕ)). slice_get names c.args.place) (sym (names_of_some c.as_str-text.result.now (sym c.is_empty.ensures ∙ c.if-is_empty.false)) ∙ (ap names_in c.as_str-text.ensures ∙ c.self.view_is))
