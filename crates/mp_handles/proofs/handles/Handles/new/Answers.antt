use Rattle.std.proofs.Common.{ap, ◌∙◌}
use Rattle.mp_handles.specs.Kept.{map_in}
use Rattle.mp_handles.proofs.Steps.{none_live}
use Rattle.mp_handles.proofs.handles.Handles.new.Goals as goal

pub returns : goal.returns
returns g c = ap (map_in c.new.result) c.new-2.ensures.empty ∙ none_live c.new.result
