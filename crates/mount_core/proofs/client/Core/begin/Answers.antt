use Rattle.std.proofs.Common.{◌≡◌, true, None, sym, subst}
use Rattle.mount_model.specs.Run.{is_among, startable}
use Rattle.mount_core.specs.Core.{CoreState, state_of}
use Rattle.mount_core.specs.Turn.{lines_behind, turn_behind}
use Rattle.mount_core.proofs.Steps.{has_step}
use Rattle.mount_core.proofs.Events.{begin_leaves, begun_behind, begun_gives, begun_writers, has_step_turned}
use Rattle.mount_core.proofs.client.Core.begin.Goals as goal

pub turn_line-requires-clause-begun : goal.turn_line-requires-clause-begun
turn_line-requires-clause-begun c = begun_behind c.self.inside.work c.begin_line.new.self c.args.line c.self.invariant (subst (λ (w : CoreState). is_among c.args.line (startable (state_of w).lines) ≡ true) (sym c.self.view_is) c.requires) c.begin_line.ensures.lines

pub turn_line-requires-clause-step : goal.turn_line-requires-clause-step
turn_line-requires-clause-step c = has_step c.self.inside.work.record.steps c.begin_line.new.self.record.steps _ c.begin_line.ensures.steps

pub turn_line-requires-clause-gives : goal.turn_line-requires-clause-gives
turn_line-requires-clause-gives c = begun_gives c.self.inside.work c.begin_line.new.self c.args.line c.new.result c.self.invariant (subst (λ (w : CoreState). is_among c.args.line (startable (state_of w).lines) ≡ true) (sym c.self.view_is) c.requires) c.begin_line.ensures.lines c.new.ensures

pub turn_line-requires-clause-writers : goal.turn_line-requires-clause-writers
turn_line-requires-clause-writers c = begun_writers c.self.inside.work c.begin_line.new.self c.args.line c.args.time c.self.invariant (subst (λ (w : CoreState). is_among c.args.line (startable (state_of w).lines) ≡ true) (sym c.self.view_is) c.requires) c.begin_line.ensures.lines c.begin_line.ensures.jobs c.begin_line.ensures.shared

pub answer_awaits-requires : goal.answer_awaits-requires
answer_awaits-requires c =
    has_step_turned (turn_behind c.args.line None c.begin_line.new.self) (lines_behind c.args.line None c.begin_line.new.self) c.new.result c.begin_line.new.self c.turn_line.new.self c.turn_line.ensures (has_step c.self.inside.work.record.steps c.begin_line.new.self.record.steps _ c.begin_line.ensures.steps)

pub invariant_of-self : goal.invariant_of-self
invariant_of-self c =
    let e = c.begin_line.ensures in
    (begin_leaves c.self.inside.work c.begin_line.new.self c.turn_line.new.self c.answer_awaits.new.self c.args.line c.args.time c.self.invariant (subst (λ (w : CoreState). is_among c.args.line (startable (state_of w).lines) ≡ true) (sym c.self.view_is) c.requires) e.time e.steps e.lines e.jobs e.shared c.new.result c.new.ensures c.turn_line.ensures c.answer_awaits.ensures.answers c.answer_awaits.ensures.shared).stands

pub returns : goal.returns
returns c =
    let e = c.begin_line.ensures in
    rw (← c.self.view_is) ((begin_leaves c.self.inside.work c.begin_line.new.self c.turn_line.new.self c.answer_awaits.new.self c.args.line c.args.time c.self.invariant (subst (λ (w : CoreState). is_among c.args.line (startable (state_of w).lines) ≡ true) (sym c.self.view_is) c.requires) e.time e.steps e.lines e.jobs e.shared c.new.result c.new.ensures c.turn_line.ensures c.answer_awaits.ensures.answers c.answer_awaits.ensures.shared).advances)
