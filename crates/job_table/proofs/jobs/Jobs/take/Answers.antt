-- The job's entry is there with its call, and its number leaves the ready ones with the call.
use Rattle.std.proofs.Common.{◌≡◌, None, sym, ap, ◌∙◌}
use Rattle.job_table.specs.declared.jobs.Live.{Live}
use Rattle.job_table.specs.LiveJobs.{Held}
use Rattle.job_table.specs.Kept.{held_entry}
use Rattle.job_table.proofs.Entries.{with_call, entry_stands, entry_is, held_taken, keeps_taken}
use Rattle.job_table.proofs.jobs.Jobs.take.Goals as goal

pub unreachable-requires : goal.unreachable-requires
unreachable-requires c = entry_stands c.args.job c.self.inside.live.entries c.requires.ready.job (rw (← c.self.view_is) at c.requires.ready.stands) c.in-None.ensures.value

pub unreachable-requires-in-None-take : goal.unreachable-requires-in-None-take
unreachable-requires-in-None-take c =
    let is = entry_is c.args.job c.self.inside.live.entries c.requires.ready.job c.in-Some.live.now (rw (← c.self.view_is) at c.requires.ready.stands) c.in-Some.ensures.value in
    let call : c.requires.ready.job.call ≡ None = ap (λ (h : Held). h.call) is ∙ sym c.take.ensures.value ∙ c.in-None-take.is in
    let waits = c.requires.ready.waits in
    absurd (cc)

pub invariant_of-self : goal.invariant_of-self
invariant_of-self c =
    let live : Live = c.in-Some.live.now in
    let left : Live = with_call c.take.new.self live in
    let held = held_taken c.args.job c.self.inside.live.entries _ c.self.inside.ready c.self.inside.count live left c.self.invariant (sym c.in-Some.ensures.value) (c.get_mut.follows.holds left).0 (ap (λ called. held_entry (c.args.job, with_call called live)) c.take.ensures.after) in
    keeps_taken c.args.job c.self.inside.live.entries _ c.self.inside.ready c.remove.new.self c.self.inside.count live c.self.invariant held (sym c.in-Some.ensures.value) (record { numbers = c.remove.ensures.numbers; of_writers = c.remove.ensures.of_writers })

pub returns-clause-call : goal.returns-clause-call
returns-clause-call c = λ h stands.
    let is = entry_is c.args.job c.self.inside.live.entries h c.in-Some.live.now (rw (← c.self.view_is) at stands) c.in-Some.ensures.value in
    ap (λ (t : Held). t.call) is ∙ sym c.take.ensures.value ∙ c.in-Some-take.is

pub returns-clause-held : goal.returns-clause-held
returns-clause-held c =
    let live : Live = c.in-Some.live.now in
    let left : Live = with_call c.take.new.self live in
    rw (← c.self.view_is)
    (held_taken c.args.job c.self.inside.live.entries _ c.self.inside.ready c.self.inside.count live left c.self.invariant (sym c.in-Some.ensures.value) (c.get_mut.follows.holds left).0 (ap (λ called. held_entry (c.args.job, with_call called live)) c.take.ensures.after))
