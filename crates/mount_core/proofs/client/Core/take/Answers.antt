use Rattle.std.proofs.Common.{◌≡◌, ◌<◌, true, sym, subst}
use Rattle.std.specs.List.{AllByRecursion}
use Rattle.mount_model.specs.Run.{is_among, ready}
use Rattle.mount_core.specs.Core.{CoreState, state_of}
use Rattle.mount_core.proofs.Events.{take_leaves, taken_call, taken_may, taken_ready}
use Rattle.mount_core.proofs.client.Core.take.Goals as goal

pub take_job-requires : goal.take_job-requires
take_job-requires c = taken_ready c.self.inside.work c.args.job c.self.invariant (subst (λ (w : CoreState). is_among c.args.job (ready (state_of w).jobs) ≡ true) (sym c.self.view_is) c.requires.ready)

pub invariant_of-self : goal.invariant_of-self
invariant_of-self c =
    let e = c.take_job.ensures in
    let may = subst (λ (w : CoreState). is_among c.args.job (ready (state_of w).jobs) ≡ true) (sym c.self.view_is) c.requires.ready in
    let behind = subst (λ (w : CoreState). AllByRecursion (λ position. position < c.args.from) (state_of w).positions) (sym c.self.view_is) c.requires.behind in
    (take_leaves c.self.inside.work c.take_job.new.self c.args.job c.args.time c.args.from c.self.invariant may behind e.time e.steps e.lines e.count e.held e.shared).stands

pub returns-clause-call : goal.returns-clause-call
returns-clause-call c =
    let may = subst (λ (w : CoreState). is_among c.args.job (ready (state_of w).jobs) ≡ true) (sym c.self.view_is) c.requires.ready in
    rw (← c.self.view_is) (taken_call c.self.inside.work c.args.job c.take_job.result c.self.invariant may c.take_job.ensures.call)

pub returns-clause-step : goal.returns-clause-step
returns-clause-step c =
    let e = c.take_job.ensures in
    let may = subst (λ (w : CoreState). is_among c.args.job (ready (state_of w).jobs) ≡ true) (sym c.self.view_is) c.requires.ready in
    let behind = subst (λ (w : CoreState). AllByRecursion (λ position. position < c.args.from) (state_of w).positions) (sym c.self.view_is) c.requires.behind in
    rw (← c.self.view_is) ((take_leaves c.self.inside.work c.take_job.new.self c.args.job c.args.time c.args.from c.self.invariant may behind e.time e.steps e.lines e.count e.held e.shared).advances)

pub returns-clause-may : goal.returns-clause-may
returns-clause-may c =
    let may = subst (λ (w : CoreState). is_among c.args.job (ready (state_of w).jobs) ≡ true) (sym c.self.view_is) c.requires.ready in
    taken_may c.self.inside.work c.args.job c.take_job.result c.self.invariant may c.take_job.ensures.call
