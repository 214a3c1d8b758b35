use Rattle.std.proofs.Common.{◌≡◌, true, false, length, min, sym, ap, subst, arith}
use Rattle.upload_rules.specs.Upload.{Upload, due}
use Rattle.part_uploader.specs.Asks.{is_part}
use Rattle.part_uploader.specs.Unasked.{Unasked}
use Rattle.part_uploader.specs.Sound.{upload_of}
use Rattle.part_uploader.proofs.PartDue.{next_due, sound_part, part_moved}
use Rattle.part_uploader.proofs.uploader.Uploader.part_asked.Goals as goal

pub invariant_of-self : goal.invariant_of-self
invariant_of-self c =
    let i = c.self.inside in
    let u : Upload = upload_of i.state i.created i.asked i.sent i.stored i.waiting i.pending i.closing in
    let part = subst (λ (w : Upload). is_part (due w) ≡ true) (sym c.self.view_is) c.requires in
    let left : c.drop_front.new.self ≡ record { part = u.part; bytes = _; ended = false } = c.drop_front.ensures in
    let size : c.min.result ≡ min u.part (length u.rest) = omega (arith, c.min.ensures, c.part.ensures, c.self.invariant.sum) in
    let moved = part_moved u c.drop_front.new.self c.min.result left size in
    let ended : c.drop_front.new.self.ended ≡ false = ap (λ (w : Unasked). w.ended) c.drop_front.ensures in
    rw (moved, ended) (sound_part u i.waiting.ended i.total c.self.invariant (next_due u part))
