use Rattle.std.proofs.Common.{rules, ◌≡◌, List, [], ◌∷◌, Option, Some, sym, subst}
use Rattle.atomic_table.specs.Table.{opening}
use Rattle.turn_lock.specs.declared.view.Phase.TheVariants.{Idle}
use Rattle.turn_lock.specs.Rule.{Ruled}
use Rattle.turn_lock.specs.View.{viewed}
use Rattle.turn_lock.proofs.Keeps.{opens}
use Rattle.turn_lock.proofs.lock.TurnLock.new.Goals as goal

pub new-requires : goal.new-requires
new-requires g c =
    let items : c.push.new.self.items ≡ Some c.args.value ∷ [] = search rules in
    subst (λ (x : List (Option g.row.T.Denot) × g.row.T.Denot). Ruled g.T.Stands.entries g.T.Stands.ground_of g.T.Stands.closes (opening (0 ∷ 0 ∷ []) x.0 (viewed Idle 0 (g.T.Stands.entries x.1) [] (Some (g.T.Stands.ground_of x.1))))) (λ k. (sym items k, sym c.of-about.ensures k)) (opens g.T.Stands.entries g.T.Stands.ground_of g.T.Stands.closes c.args.value)
