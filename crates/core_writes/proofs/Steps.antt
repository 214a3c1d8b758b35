-- Drops and asks behind those of the last step.
use Rattle.std.proofs.Common.{◌≡◌, ℕ, List, [], ◌∷◌, ◌++◌, refl, sym, ap, ◌∙◌, append_assoc, append-nil}
use Rattle.mount_model.specs.declared.event.Ask.{Ask}
use Rattle.mount_model.specs.Step.{Step, change_last, with_ask, with_drop}
use Rattle.core_writes.specs.Turn.{with_turn}

module _ {X : Type 0} where
  change_last-same : (f g : X → X) → ((x : X) → f x ≡ g x) → (xs : List X) → change_last f xs ≡ change_last g xs
  change_last-same f g same [] = refl
  change_last-same f g same (x ∷ []) = ap (λ y. y ∷ []) (same x)
  change_last-same f g same (x ∷ y ∷ xs) = ap (λ t. x ∷ t) (change_last-same f g same (y ∷ xs))

  change_last-id : (f : X → X) → ((x : X) → f x ≡ x) → (xs : List X) → change_last f xs ≡ xs
  change_last-id f same [] = refl
  change_last-id f same (x ∷ []) = ap (λ y. y ∷ []) (same x)
  change_last-id f same (x ∷ y ∷ xs) = ap (λ t. x ∷ t) (change_last-id f same (y ∷ xs))

  change_last-twice : (f g : X → X) (xs : List X) → change_last f (change_last g xs) ≡ change_last (λ x. f (g x)) xs
  change_last-twice f g [] = refl
  change_last-twice f g (x ∷ []) = refl
  change_last-twice f g (x ∷ y ∷ []) = refl
  change_last-twice f g (x ∷ y ∷ z ∷ xs) = ap (λ t. x ∷ t) (change_last-twice f g (y ∷ z ∷ xs))

-- none
pub turn-none : (steps : List Step) → steps ≡ change_last (with_turn [] []) steps
turn-none steps = sym (change_last-id (with_turn [] []) same steps)
  where
    same : (step : Step) → with_turn [] [] step ≡ step
    same step = rw (append-nil step.drops, append-nil step.asks) refl

-- one
pub turn-ask : (ask : Ask) (steps : List Step) → change_last (with_ask ask) steps ≡ change_last (with_turn [] (ask ∷ [])) steps
turn-ask ask steps = change_last-same (with_ask ask) (with_turn [] (ask ∷ [])) (λ step. rw append-nil refl) steps

pub turn-drop : (job : ℕ) (steps : List Step) → change_last (with_drop job) steps ≡ change_last (with_turn (job ∷ []) []) steps
turn-drop job steps = change_last-same (with_drop job) (with_turn (job ∷ []) []) (λ step. rw append-nil refl) steps

-- more behind those
pub turn-then : (drops more : List ℕ) (asks others : List Ask) (steps : List Step) → change_last (with_turn more others) (change_last (with_turn drops asks) steps) ≡ change_last (with_turn (drops ++ more) (asks ++ others)) steps
turn-then drops more asks others steps =
    change_last-twice (with_turn more others) (with_turn drops asks) steps
    ∙ change_last-same (λ step. with_turn more others (with_turn drops asks step)) (with_turn (drops ++ more) (asks ++ others)) (λ step. rw (append_assoc step.drops drops more, append_assoc step.asks asks others) refl) steps
