use Rattle.shared_bucket.proofs.Going.{goes_alone}
use Rattle.shared_bucket.proofs.kept.Kept.call.Goals as goal

pub returns : goal.returns
returns g c =
    rw (← c.self.view_is)
    (goes_alone c.args.call c.call.result.0 c.call.result.1 (g.S.Store.is_alone c.self.inside.store) (g.S.Store.history c.self.inside.store) (g.S.Store.history c.call.new.self) (g.S.Store.position c.self.inside.store) c.self.invariant.tells c.self.invariant.alone c.call.ensures.told c.call.ensures.slice
    (λ told is. g.met.S.Store.position_is c.self.inside.store told is) c.call.ensures.not_before c.call.ensures.kind (λ told is. g.met.S.Store.honest_is_legal c.call.new.self told is (c.call.ensures.honest c.self.invariant.honest)))
