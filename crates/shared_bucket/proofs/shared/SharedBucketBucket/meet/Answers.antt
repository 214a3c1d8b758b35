use Rattle.std.proofs.Common.{ap, ◌∙◌}
use Rattle.shared_bucket.specs.Known.{marks_at}
use Rattle.shared_bucket.proofs.Marks.{marks_met, rising_marks}
use Rattle.shared_bucket.proofs.shared.SharedBucketBucket.meet.Goals as goal

pub returns-clause-own : goal.returns-clause-own
returns-clause-own g c =
    let seat = c.meet.new.seat.me.0 in
    rw (← c.pass.view_is, ← c.other.view_is)
    (ap (λ places. marks_at seat.seen places) c.meet.ensures.own
    ∙ marks_met c.pass.inside.seat.me.0.seen c.other.inside.seat.me.0.seen seat.seen c.pass.inside.seat.me.0.own c.other.inside.seat.me.0.own c.meet.ensures.begins c.meet.ensures.other_begins c.pass.invariant.places c.other.invariant.places)

pub returns-clause-rising : goal.returns-clause-rising
returns-clause-rising g c = rising_marks c.meet.new.seat.me.0.seen c.meet.new.seat.me.0.own c.meet.ensures.places
