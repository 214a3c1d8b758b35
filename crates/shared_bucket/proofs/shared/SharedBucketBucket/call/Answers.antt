use Rattle.shared_bucket.proofs.Marks.{adds_mark, rising_marks, sees_call}
use Rattle.shared_bucket.proofs.shared.SharedBucketBucket.call.Goals as goal

pub returns-clause-own : goal.returns-clause-own
returns-clause-own g c =
    let turned = c.turn-position in
    rw (← c.pass.view_is) (adds_mark c.args.call turned.result.0 turned.result.1 turned.result.2 c.pass.inside.seat turned.new.seat turned.ensures.calls c.pass.invariant.places)

pub returns-clause-rising : goal.returns-clause-rising
returns-clause-rising g c =
    let turned = c.turn-position in
    rising_marks turned.new.seat.me.0.seen turned.new.seat.me.0.own turned.ensures.calls.places

pub returns-clause-told : goal.returns-clause-told
returns-clause-told g c =
    let turned = c.turn-position in
    rw (← c.pass.view_is) (sees_call c.args.call turned.result.0 turned.result.1 turned.result.2 c.pass.inside.seat turned.new.seat turned.ensures.calls)
