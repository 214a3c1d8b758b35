use Rattle.std.proofs.Common.{rules, sym, ap, subst}
use mathlib.Core.Option.{none}
use Rattle.atomic_table.specs.Table.{Allows, step}
use Rattle.turn_lock.specs.Rule.{Ruled}
use Rattle.turn_lock.specs.Steps.{shuts}
use Rattle.turn_lock.proofs.Keeps.{shuts_allowed}
use Rattle.turn_lock.proofs.lock.TurnLock.take_out.Goals as goal

pub load-requires : goal.load-requires
load-requires g c =
    let turn = c.enter-value.ensures.turn in (
      search rules,
      search rules,
      subst (λ m. Allows (Ruled g.T.Stands.entries g.T.Stands.ground_of g.T.Stands.closes) c.args.self.now.table.shared.table_id.slots c.enter-value.new.seat.id m 1 (λ n. n) (shuts (step c.args.self.now.table.shared.table_id.slots 1 0 0 none) m))
          (sym (ap (λ cs. (c.enter-value.new.seat.me.0, cs)) turn.2)) (shuts_allowed g.T.Stands.entries g.T.Stands.ground_of g.T.Stands.closes _ _ turn.0 c.enter-value.new.seat.me.0 turn.1),
    )
