use Rattle.std.proofs.Common.{[], refl, ap, arith}
use Rattle.std.proofs.lemmas.Option.{slice_get_within}
use Rattle.mount_model.specs.declared.standing.Phase.TheVariants.{Begun}
use Rattle.mount_model.specs.Heard.{nothing_heard}
use Rattle.line_table.proofs.Starts.{absent_start}
use Rattle.line_table.proofs.Kept.{numbers_above, set_phase, begin_kept}
use Rattle.line_table.proofs.lines.Lines.begin.Goals as goal

pub place_among-requires : goal.place_among-requires
place_among-requires c = rw c.as_slice.ensures.value (numbers_above c.args.number _ _ _ _ _ c.self.invariant)

pub unreachable-requires : goal.unreachable-requires
unreachable-requires c =
    let among = rw (← c.self.view_is, ← c.self.invariant.may_start) at c.requires in
    let absent = rw c.as_slice.ensures.value at c.in_default.ensures in
    absurd (cc (among, absent.1))

pub unreachable-requires-in_default-place_of : goal.unreachable-requires-in_default-place_of
unreachable-requires-in_default-place_of c =
    let among = rw (← c.self.view_is) at c.requires in
    let absent = absent_start c.args.number [] c.self.inside.standings.items (rw (← c.as_slice-2.ensures.value) c.in_default-place_of.ensures) in
    absurd (cc (absent))

pub remove-requires : goal.remove-requires
remove-requires c = omega (arith, slice_get_within c.self.inside.startable.items c.in-Ok.at c.args.number (rw (← c.as_slice.ensures.value) c.in-Ok.ensures), c.self.inside.startable.ok.0)

pub index_mut-requires : goal.index_mut-requires
index_mut-requires c =
    let place = rw c.as_slice-2.ensures.value at c.in-Some.ensures in
    omega (arith, slice_get_within c.self.inside.standings.items c.in-Some.i place.standing place.stands, c.self.inside.standings.ok.0)

pub invariant_of-self : goal.invariant_of-self
invariant_of-self c = begin_kept c.args.number _ _ _ _ _ c.self.invariant c.in-Some.i c.in-Ok.at c.index_mut.result.now _ _ _ (rw (← c.as_slice-2.ensures.value) c.in-Some.ensures) c.index_mut.ensures.value refl (ap Begun c.new.ensures) (rw (← c.as_slice.ensures.value) c.in-Ok.ensures) c.remove.ensures.items c.remove.ensures.capacity

pub returns : goal.returns
returns c = rw (← c.self.view_is) (set_phase c.args.number (λ phase. Begun nothing_heard) c.self.inside.standings.items c.in-Some.i c.index_mut.result.now _ c.self.invariant.rising (rw (← c.as_slice-2.ensures.value) c.in-Some.ensures) c.index_mut.ensures.value refl (ap Begun c.new.ensures))
