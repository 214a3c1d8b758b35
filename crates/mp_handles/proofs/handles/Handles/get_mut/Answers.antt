use borrow.Follows.Closed.{read_of}
use Rattle.std.proofs.Common.{inr, ap, ◌∙◌}
use Rattle.std.specs.Option.{ghost_name_of}
use Rattle.mp_handles.proofs.Views.{get_at}
use Rattle.mp_handles.proofs.Steps.{written}
use Rattle.mp_handles.proofs.handles.Handles.get_mut.Goals as goal

pub invariant_of-self-lent : goal.invariant_of-self-lent
invariant_of-self-lent g c _ = (λ w. (written _ _ _ c.self.invariant c.self.view_is _ _ w c.in-Some.ensures.value).kept, c.self.invariant)

pub returns-in-Some : goal.returns-in-Some
returns-in-Some g c = (
  λ t. read_of (ghost_name_of c.get_mut.result) (λ (w : g.row.T.Denot). (written _ _ _ c.self.invariant c.self.view_is _ _ w c.in-Some.ensures.value).shown t) (c.self.view_is t),
  record { writes_back = tt; value = c.get_mut.ensures.value ∙ get_at _ _ _ c.self.invariant c.self.view_is _ _ c.in-Some.ensures.value },
)

pub returns-in-None : goal.returns-in-None
returns-in-None g c = (
  ap inr c.self.view_is,
  record { writes_back = tt; value = get_at _ _ _ c.self.invariant c.self.view_is _ _ c.in-None.ensures.value },
)
