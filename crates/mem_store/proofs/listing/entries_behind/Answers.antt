use Rattle.std.proofs.Common.{sym}
use Rattle.mem_store.proofs.Ahead.{stand_after_named, stand_at, stand_past_named}
use Rattle.mem_store.proofs.listing.entries_behind.Goals as goal

pub returns-then-lt : goal.returns-then-lt
returns-then-lt c = stand_at c.args.prefix.now c.args.text.now c.args.objects.now c.range.result (sym c.if-lt.ensures) (c.range.ensures.between tt) c.range.ensures.ordered

pub returns-in_ok-entries_past-in-Some : goal.returns-in_ok-entries_past-in-Some
returns-in_ok-entries_past-in-Some c =
    stand_past_named c.args.prefix.now c.args.text.now c.as_str-2.result.now c.as_str.result.now c.as_str-in-Some-2.result.now c.in-Some.name.now c.args.objects.now c.in_ok-entries_past-in-Some.field-0 c.as_str-2.ensures c.as_str.ensures
    c.as_str-in-Some-2.ensures c.in-Some.ensures c.in_ok-entries_past-in-Some.ensures.from c.in_ok-entries_past-in-Some.ensures.ordered

pub returns-in-None : goal.returns-in-None
returns-in-None c =
    stand_after_named c.args.prefix.now c.args.text.now c.as_str-2.result.now c.as_str.result.now c.args.objects.now c.range-in-None.result c.as_str-2.ensures c.as_str.ensures (sym c.if-lt.ensures) c.in-None.ensures
    (c.range-in-None.ensures.between tt) c.range-in-None.ensures.ordered
