use Rattle.std.proofs.Common.{rules, of_calls, ◌≡◌, ltb}
use Rattle.std.proofs.lemmas.Fn.{always_returns_same}
use Rattle.mp_driver.specs.declared.held.HeldAnswer.{HeldAnswer}
use Rattle.mp_driver.proofs.ByJob.{are_parted, with-insert, by_job-insert}
use Rattle.mp_driver.proofs.held.hold.Goals as goal

pub returns-clause-with : goal.returns-clause-with
returns-clause-with c = rw c.in-Ok.ensures.items (with-insert c.args.held.now.items c.partition_point-place.result c.args.got c.requires.new)

pub returns-clause-by_job : goal.returns-clause-by_job
returns-clause-by_job c =
    let same : c.deref.result.now ≡ c.args.held.now.items = c.deref.ensures.value in
    let point = c.partition_point-place.ensures.partitioned (λ (other : HeldAnswer). ltb other.job c.args.got.job) (always_returns_same _ _ _ (λ a r f k. search (rules, of_calls))) (rw same (are_parted c.args.got.job c.args.held.now.items c.requires.by_job)) in
    rw c.in-Ok.ensures.items (by_job-insert c.args.held.now.items c.partition_point-place.result c.args.got c.requires.new c.requires.by_job (rw same at point))
