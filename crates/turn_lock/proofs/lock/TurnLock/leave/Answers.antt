use Rattle.std.proofs.Common.{rules, sym, ap, ◌∙◌, subst, arith}
use mathlib.Core.Option.{none}
use Rattle.atomic_table.specs.Table.{Allows, step}
use Rattle.turn_lock.specs.declared.view.Phase.TheVariants.{Left}
use Rattle.turn_lock.specs.Rule.{Ruled}
use Rattle.turn_lock.specs.Steps.{gives_back}
use Rattle.turn_lock.proofs.Keeps.{gives_allowed, passes_allowed, put_in}
use Rattle.turn_lock.proofs.lock.TurnLock.leave.Goals as goal

pub load-served-requires : goal.load-served-requires
load-served-requires g c = (
  search rules,
  search rules,
  subst (λ m. Allows (Ruled g.T.Stands.entries g.T.Stands.ground_of g.T.Stands.closes) c.args.self.now.table.shared.table_id.slots c.exchange.new.seat.id m 1 (λ n. n) (gives_back g.T.Stands.entries g.T.Stands.ground_of g.T.Stands.closes (step c.args.self.now.table.shared.table_id.slots 1 0 0 none) m))
      (sym (put_in c.args.seat.now.me c.exchange.new.seat.me c.args.held.value c.exchange.ensures.3 c.requires.turn.2))
      (gives_allowed g.T.Stands.entries g.T.Stands.ground_of g.T.Stands.closes _ _ c.requires.turn.0 c.args.seat.now.me.0 c.args.held.value c.requires.turn.1 c.requires.over c.requires.adds c.requires.closes),
)

pub overflow_add-next : goal.overflow_add-next
overflow_add-next g c =
    let is = put_in c.args.seat.now.me c.exchange.new.seat.me c.args.held.value c.exchange.ensures.3 c.requires.turn.2 in
    let told = c.load-served.ensures.2 c.requires.turn.0 c.args.held.value (ap (λ m. m.0.phase) is ∙ c.requires.turn.1) (ap (λ m. m.1) is) in omega (arith, told.1)

pub store-requires : goal.store-requires
store-requires g c =
    let is = put_in c.args.seat.now.me c.exchange.new.seat.me c.args.held.value c.exchange.ensures.3 c.requires.turn.2 in
    let told = c.load-served.ensures.2 c.requires.turn.0 c.args.held.value (ap (λ m. m.0.phase) is ∙ c.requires.turn.1) (ap (λ m. m.1) is) in
    (search rules, search rules, passes_allowed g.T.Stands.entries g.T.Stands.ground_of g.T.Stands.closes _ _ c.load-served.result c.load-served.new.seat.me (ap (λ v. v.phase) told.2 ∙ ap Left (sym told.0)))
