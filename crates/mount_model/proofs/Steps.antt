-- A change of the last step leaves a last step.
use Rattle.std.proofs.Common.{List, ap, ◌∙◌}
use Rattle.mount_model.specs.Step.{Step, change_last, HasStep}
use Rattle.mount_model.proofs.Order.{change_last-push}

pub HasStep-change_last : (f : Step → Step) (steps : List Step) → HasStep steps → HasStep (change_last f steps)
HasStep-change_last f steps has = record {
  before = has.before;
  last = f has.last;
  are = ap (change_last f) has.are ∙ change_last-push f has.before has.last;
}
