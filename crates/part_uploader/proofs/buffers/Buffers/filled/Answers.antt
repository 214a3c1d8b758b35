use Rattle.std.proofs.Common.{◌≤◌, ◌+◌, ◌++◌, length, ap, ◌∙◌, arith}
use Rattle.std.specs.List.{slice_range}
use Rattle.mp_types.specs.Content.{bytes_of}
use Rattle.part_uploader.proofs.Cuts.{filled_more}
use Rattle.part_uploader.proofs.buffers.Buffers.filled.Goals as goal

pub loop-place-preserved : goal.loop-place-preserved
loop-place-preserved c =
    let bytes = bytes_of c.args.data.now in
    let place = c.loop-place.place in
    let within : place + c.args.part ≤ length bytes = omega (arith, c.len.ensures, c.loop-place.invariant.within) in
    let next = c.in_ok-extend.ensures ∙ ap (λ held. held ++ slice_range bytes place (place + c.args.part)) c.new-buffer.ensures.items in
    let more = filled_more c.args.part place c.loop-place.full.items c.push_back.new.self.items _ bytes _ within c.loop-place.invariant.whole c.loop-place.invariant.so_far (c.from_vec.ensures ∙ next) c.in-Ok.ensures.items in
    record { within = within; whole = more.0; so_far = more.1 }
