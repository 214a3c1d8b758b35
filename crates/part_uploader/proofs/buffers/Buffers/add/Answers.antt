use Rattle.std.proofs.Common.{◌≡◌, ◌++◌, ◌+◌, ◌-◌, ◌≤◌, length, drop, ap, ◌∙◌, arith}
use Rattle.mp_types.specs.Content.{bytes_of}
use Rattle.part_uploader.specs.Buffered.{AreCut, Buffered, bytes_in}
use Rattle.part_uploader.proofs.Cuts.{buffers_added, moved}
use Rattle.part_uploader.proofs.buffers.Buffers.add.Goals as goal
use Rattle.part_uploader.proofs.buffers.Buffers.add.Goals.{After-drop-behind-2}

added : (c : After-drop-behind-2) → AreCut c.self.inside.part c.append.new.self.items c.replace-first.new.dest.items
    × (bytes_in c.append.new.self.items c.replace-first.new.dest.items ≡ bytes_in c.self.inside.full.items c.self.inside.last.items ++ drop c.args.at (bytes_of c.args.data.now))
added c =
    let room = c.self.inside.part - c.len.result in
    let stands = c.behind.view_is ∙ c.in_ok-behind.ensures in
    let part : c.behind.inside.part ≡ c.self.inside.part = ap (λ (b : Buffered). b.part) stands in
    let bytes : bytes_in c.behind.inside.full.items c.behind.inside.last.items ≡ drop (c.args.at + room) (bytes_of c.args.data.now) = ap (λ (b : Buffered). b.bytes) stands in
    let size : length c.self.inside.last.items + room ≡ c.self.inside.part = omega (arith, c.len.ensures, c.self.invariant.short, c.self.inside.last.ok.0) in
    let within : c.args.at + room ≤ length (bytes_of c.args.data.now) = omega (arith, c.len-2.ensures, c.if-count-room.false) in
    let first = c.from_vec.ensures ∙ ap (λ v. v.items) c.replace-first.ensures.value in
    let now = moved c.self.inside.full.items c.reserve.new.self.items c.push_back_reserved.new.self.items c.append.new.self.items c.behind.inside.full.items c.from_vec.result c.extend-2.new.buffer.items c.in_ok-reserve.ensures.items first c.push_back_reserved.ensures.items c.in-Ok.ensures.items in
    let last : c.replace-first.new.dest.items ≡ c.behind.inside.last.items = ap (λ v. v.items) c.replace-first.ensures.after in
    rw last (buffers_added c.self.inside.part c.args.at room c.self.inside.full.items c.behind.inside.full.items c.append.new.self.items c.self.inside.last.items c.extend-2.new.buffer.items c.behind.inside.last.items (bytes_of c.args.data.now) c.self.invariant (rw part at c.behind.invariant) size within bytes c.in_ok-extend.ensures now)

pub invariant_of-self-2 : goal.invariant_of-self-2
invariant_of-self-2 c = (added c).0

pub returns-clause-ok : goal.returns-clause-ok
returns-clause-ok c = rw (← c.self.view_is) (ap (λ bytes. record { part = c.self.inside.part; bytes = bytes }) (added c).1)
