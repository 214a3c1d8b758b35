-- Changes of a record's last step.
use Rattle.std.proofs.Common.{◌≡◌, List, [], ◌∷◌, ◌++◌, refl, ap}
use Rattle.mount_model.specs.Step.{change_last}

pub change_last-push : {X : Type 0} (f : X → X) (xs : List X) (x : X) → change_last f (xs ++ x ∷ []) ≡ xs ++ f x ∷ []
change_last-push f [] x = refl
change_last-push f (y ∷ []) x = refl
change_last-push f (y ∷ z ∷ xs) x = ap (λ t. y ∷ t) (change_last-push f (z ∷ xs) x)
