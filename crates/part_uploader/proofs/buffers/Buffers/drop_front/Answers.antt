use Rattle.part_uploader.proofs.Cuts.{cut_front}
use Rattle.part_uploader.proofs.buffers.Buffers.drop_front.Goals as goal

pub invariant_of-self : goal.invariant_of-self
invariant_of-self c = cut_front _ _ _ _ _ c.in-Some.ensures.items c.self.invariant
