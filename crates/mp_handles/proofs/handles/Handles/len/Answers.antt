use Rattle.std.proofs.Common.{sym, ap, ◌∙◌}
use Rattle.std.specs.FinMap as map
use Rattle.mp_handles.proofs.Views.{len-map_in}
use Rattle.mp_handles.proofs.handles.Handles.len.Goals as goal

pub returns-clause-len : goal.returns-clause-len
returns-clause-len g c = c.len.ensures.len ∙ sym (len-map_in _ _ c.self.invariant) ∙ ap map.len c.self.view_is
