use Rattle.std.proofs.Common.{option_copied, ◌+◌, take, drop, refl, sym, subst, ◌∙◌, arith}
use Rattle.mp_rules.specs.Local.{local_at}
use Rattle.mp_rules.specs.Walk.{entry_at, fact_in, walk, with_last}
use Rattle.superblock.specs.Decided.{Decides}
use Rattle.superblock.specs.Prefix.{name_length, names_behind}
use Rattle.superblock.proofs.Prefixes.{at_prefix, begins, first_not_empty, goes_on, stop_at}
use Rattle.superblock.proofs.walk.walk.Goals as goal

pub loop-end-init : goal.loop-end-init
loop-end-init c =
    let path = c.args.path.now in
    let facts = fact_in (with_last (option_copied c.args.last) c.args.own.now) in
    let locally = local_at c.args.names.now in
    record {
      stop = rw c.name_end-end.ensures (stop_at path 0 c.requires.key.1 (omega arith) (omega (arith, first_not_empty path c.requires.key.0 c.requires.names)));
      same = begins facts locally path c.name_end-end.result c.requires.key.0 c.name_end-end.ensures;
    }

pub returns-in-Some : goal.returns-in-Some
returns-in-Some c =
    let path = c.args.path.now in
    let end = c.loop-end.end in
    let facts = fact_in (with_last (option_copied c.args.last) c.args.own.now) in
    let locally = local_at c.args.names.now in
    let next = end + 1 + name_length (drop (end + 1) path) in
    let found = at_prefix facts locally path end c.entry_at.result c.range.result.now c.range.ensures.value c.entry_at.ensures in
    let rest = walk facts locally (take next path) (names_behind (drop next path)) in
    let same = c.loop-end.invariant.same ∙ goes_on facts locally path end next c.loop-end.invariant.stop c.loop-end-test.true refl in
    subst (Decides c.in-Some.stop) (sym same) (c.in-Some.ensures (entry_at facts locally (take end path)) rest found)

pub loop-end-preserved : goal.loop-end-preserved
loop-end-preserved c =
    let path = c.args.path.now in
    let end = c.loop-end.end in
    let facts = fact_in (with_last (option_copied c.args.last) c.args.own.now) in
    let locally = local_at c.args.names.now in
    let next = c.name_end-end-in-loop-end.result in
    let found = at_prefix facts locally path end c.entry_at.result c.range.result.now c.range.ensures.value c.entry_at.ensures in
    let rest = walk facts locally (take next path) (names_behind (drop next path)) in
    record {
      stop = rw c.name_end-end-in-loop-end.ensures (stop_at path (end + 1) c.requires.key.1 (omega arith) (omega arith));
      same = c.loop-end.invariant.same ∙ (goes_on facts locally path end next c.loop-end.invariant.stop c.loop-end-test.true c.name_end-end-in-loop-end.ensures ∙ c.in_default.ensures (entry_at facts locally (take end path)) rest found);
    }
