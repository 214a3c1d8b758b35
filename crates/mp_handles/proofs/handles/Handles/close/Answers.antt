use Rattle.std.proofs.Common.{◌≡◌, None, ap, sym, ◌∙◌}
use Rattle.std.specs.FinMap as map
use Rattle.mp_handles.specs.Kept.{map_in}
use Rattle.mp_handles.proofs.Views.{get_at}
use Rattle.mp_handles.proofs.Steps.{remove_absent, closed}
use Rattle.mp_handles.proofs.handles.Handles.close.Goals as goal

pub invariant_of-self : goal.invariant_of-self
invariant_of-self g c =
    (closed _ _ c.self.inside.index c.remove.new.self _ c.self.invariant c.self.view_is _ _ c.in-Some.ensures.value
    c.in-Some.ensures.updates c.remove.ensures.ordered c.in-Some.ensures.len _
    c.try_remove.ensures.value c.try_remove.ensures.updates c.try_remove.ensures.len).kept

pub returns-in-Some-clause-value : goal.returns-in-Some-clause-value
returns-in-Some-clause-value g c = c.try_remove.ensures.value ∙ get_at _ _ _ c.self.invariant c.self.view_is _ _ c.in-Some.ensures.value

pub returns-in-Some-clause-removed : goal.returns-in-Some-clause-removed
returns-in-Some-clause-removed g c =
    (closed _ _ c.self.inside.index c.remove.new.self _ c.self.invariant c.self.view_is _ _ c.in-Some.ensures.value
    c.in-Some.ensures.updates c.remove.ensures.ordered c.in-Some.ensures.len _
    c.try_remove.ensures.value c.try_remove.ensures.updates c.try_remove.ensures.len).shown

pub returns-in-None-clause-value : goal.returns-in-None-clause-value
returns-in-None-clause-value g c = get_at _ _ _ c.self.invariant c.self.view_is _ _ c.in-None.ensures.value

pub returns-in-None-clause-removed : goal.returns-in-None-clause-removed
returns-in-None-clause-removed g c =
    let absent : None ≡ map.get c.args.self.now (c.args.actor, c.args.name) = get_at _ _ _ c.self.invariant c.self.view_is _ _ c.in-None.ensures.value in
    ap (map_in c.self.inside.slots) c.in-None.ensures.unchanged ∙ c.self.view_is ∙ sym (remove_absent _ _ (sym absent))
