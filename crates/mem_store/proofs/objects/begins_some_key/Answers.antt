use Rattle.mem_store.proofs.First.{first_decides, none_begins}
use Rattle.mem_store.proofs.objects.begins_some_key.Goals as goal

pub returns-in-Some : goal.returns-in-Some
returns-in-Some c =
    first_decides c.args.objects.now c.args.start.now c.in-Some.key.now c.in-Some.field-0-1.now c.range.result c.next.new.self c.starts_with.result
    (c.range.ensures.in_range tt) c.in-Some.ensures.steps (cc)

pub returns-in-None : goal.returns-in-None
returns-in-None c = none_begins c.args.objects.now c.args.start.now c.range.result (c.range.ensures.in_range tt) c.in-None.ensures.steps.0
