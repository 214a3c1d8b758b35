use Rattle.std.proofs.Common.{refl, sym, subst, arith}
use Rattle.std.proofs.lemmas.Option.{slice_get_within, slice_get_read}
use Rattle.mount_model.specs.declared.standing.Phase.TheVariants.{Replied}
use Rattle.line_table.specs.Table.{HasBegun}
use Rattle.line_table.proofs.Kept.{numbers_above, set_phase, follower_within, follower_is, reply_room, reply_moves, reply_kept}
use Rattle.line_table.proofs.lines.Lines.reply.Goals as goal

pub index-follower-requires : goal.index-follower-requires
index-follower-requires c =
    let place = rw c.as_slice.ensures.value at c.in-Some.ensures in
    omega (arith, follower_within c.args.number _ _ _ _ _ c.self.invariant c.in-Some.i place, c.self.inside.followers.ok.0)

pub index_mut-requires : goal.index_mut-requires
index_mut-requires c =
    let place = rw c.as_slice.ensures.value at c.in-Some.ensures in
    omega (arith, slice_get_within c.self.inside.standings.items c.in-Some.i place.standing place.stands, c.self.inside.standings.ok.0)

pub put_follower-requires-clause-rising : goal.put_follower-requires-clause-rising
put_follower-requires-clause-rising c = numbers_above c.args.number _ _ _ _ _ c.self.invariant

pub put_follower-requires-clause-room : goal.put_follower-requires-clause-room
put_follower-requires-clause-room c =
    let place = rw c.as_slice.ensures.value at c.in-Some.ensures in
    let begun = subst (HasBegun c.args.number) (sym c.self.view_is) c.requires in
    let read = slice_get_read c.self.inside.followers.items _ c.in-Some.i c.index-follower.result.now refl (follower_within c.args.number _ _ _ _ _ c.self.invariant c.in-Some.i place) c.index-follower.ensures in
    rw (follower_is c.args.number _ _ _ _ _ c.self.invariant c.in-Some.i c.index-follower.result.now place read) (reply_room c.args.number _ _ _ _ _ c.self.invariant begun)

pub open_from-self-inside-requires : goal.open_from-self-inside-requires
open_from-self-inside-requires c =
    let place = rw c.as_slice.ensures.value at c.in-Some.ensures in
    rw c.as_slice-2.ensures.value (reply_moves c.args.number _ _ _ _ _ c.self.invariant c.in-Some.i c.index_mut.result.now _ place c.index_mut.ensures.value refl refl)

pub invariant_of-self : goal.invariant_of-self
invariant_of-self c =
    let place = rw c.as_slice.ensures.value at c.in-Some.ensures in
    let begun = subst (HasBegun c.args.number) (sym c.self.view_is) c.requires in
    let read = slice_get_read c.self.inside.followers.items _ c.in-Some.i c.index-follower.result.now refl (follower_within c.args.number _ _ _ _ _ c.self.invariant c.in-Some.i place) c.index-follower.ensures in
    let follower = follower_is c.args.number _ _ _ _ _ c.self.invariant c.in-Some.i c.index-follower.result.now place read in
    reply_kept c.args.number _ _ _ _ _ c.self.invariant c.in-Some.i c.index_mut.result.now _ _ _ _ place begun c.index_mut.ensures.value refl refl (rw (← follower) c.put_follower.ensures.items) c.put_follower.ensures.capacity (rw (← c.as_slice-2.ensures.value) c.open_from-self-inside.ensures)

pub returns : goal.returns
returns c =
    let place = rw c.as_slice.ensures.value at c.in-Some.ensures in
    rw (← c.self.view_is) (set_phase c.args.number (λ phase. Replied) c.self.inside.standings.items c.in-Some.i c.index_mut.result.now _ c.self.invariant.rising place c.index_mut.ensures.value refl refl)
