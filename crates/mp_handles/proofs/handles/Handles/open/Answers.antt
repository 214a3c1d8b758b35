use Rattle.std.proofs.Common.{sym, ◌∙◌}
use Rattle.mp_handles.proofs.Steps.{opened}
use Rattle.mp_handles.proofs.handles.Handles.open.Goals as goal

pub invariant_of-self-2 : goal.invariant_of-self-2
invariant_of-self-2 g c =
    let free = sym c.is_live.ensures ∙ c.if-is_live.false in
    let not_full = sym c.is_full.ensures ∙ c.if-is_full.false in
    (opened _ _ _ c.self.inside.index c.insert.new.self _ c.self.invariant c.self.view_is c.in-Ok.ensures.rest_kept _ _ _ _ free not_full
    c.vacant_key-slot.ensures.vacant c.vacant_key-slot.ensures.value c.insert_reserved.ensures.key
    c.in-Ok-insert.ensures.updates c.insert.ensures.ordered _ c.in-Ok-insert.ensures.old c.in-Ok-insert.ensures.len
    c.insert_reserved.ensures.updates c.insert_reserved.ensures.len).kept

pub returns-clause-ok : goal.returns-clause-ok
returns-clause-ok g c =
    let free = sym c.is_live.ensures ∙ c.if-is_live.false in
    let not_full = sym c.is_full.ensures ∙ c.if-is_full.false in
    (opened _ _ _ c.self.inside.index c.insert.new.self _ c.self.invariant c.self.view_is c.in-Ok.ensures.rest_kept _ _ _ _ free not_full
    c.vacant_key-slot.ensures.vacant c.vacant_key-slot.ensures.value c.insert_reserved.ensures.key
    c.in-Ok-insert.ensures.updates c.insert.ensures.ordered _ c.in-Ok-insert.ensures.old c.in-Ok-insert.ensures.len
    c.insert_reserved.ensures.updates c.insert_reserved.ensures.len).shown
