use Rattle.std.proofs.Common.{◌∙◌}
use Rattle.mp_handles.proofs.Views.{get_at}
use Rattle.mp_handles.proofs.handles.Handles.get.Goals as goal

pub returns-in-Some : goal.returns-in-Some
returns-in-Some g c = c.get-in-Some.ensures ∙ get_at _ _ _ c.self.invariant c.self.view_is _ _ c.in-Some.ensures.value

pub returns-in-None : goal.returns-in-None
returns-in-None g c = get_at _ _ _ c.self.invariant c.self.view_is _ _ c.in-None.ensures.value
