-- What a turn and the awaits behind it write into the last step.
use Rattle.std.proofs.Common.{◌≡◌, ℕ, List, [], ◌∷◌, ◌++◌, refl, sym, ap, ◌∙◌, append_assoc, append-nil, subst}
use Rattle.mount_model.specs.declared.event.Event.{Event}
use Rattle.mount_model.specs.declared.event.Ask.{Ask}
use Rattle.mount_model.specs.declared.event.Answered.{Answered}
use Rattle.mount_model.specs.Step.{Step, step_of, change_last, with_ask, HasStep}
use Rattle.mount_model.proofs.Order.{change_last-push}
use Rattle.mount_model.proofs.Steps.{HasStep-change_last}
use Rattle.core_writes.specs.Turn.{with_turn}
use Rattle.mount_core.specs.Turn.{with_part}

-- there is a step behind an event
pub has_step : (before steps : List Step) (event : Event) → steps ≡ before ++ step_of event ∷ [] → HasStep steps
has_step before steps event is = record { before = before; last = step_of event; are = is }

pub still_steps : (f : Step → Step) (old new : List Step) → new ≡ change_last f old → HasStep old → HasStep new
still_steps f old new is has = subst HasStep (sym is) (HasStep-change_last f old has)

pub change_last-same : (f g : Step → Step) (steps : List Step) → ((s : Step) → f s ≡ g s) → change_last f steps ≡ change_last g steps
change_last-same f g [] same = refl
change_last-same f g (s ∷ []) same = ap (λ t. t ∷ []) (same s)
change_last-same f g (s ∷ t ∷ steps) same = ap (λ u. s ∷ u) (change_last-same f g (t ∷ steps) same)

-- a change of a change of the last step is one change
pub change_last-twice : (f g : Step → Step) (steps : List Step) → HasStep steps → change_last f (change_last g steps) ≡ change_last (λ s. f (g s)) steps
change_last-twice f g steps has =
    let once : change_last g steps ≡ has.before ++ g has.last ∷ [] = ap (change_last g) has.are ∙ change_last-push g has.before has.last in
    let twice : change_last f (change_last g steps) ≡ has.before ++ f (g has.last) ∷ [] = ap (change_last f) once ∙ change_last-push f has.before (g has.last) in
    let both : change_last (λ s. f (g s)) steps ≡ has.before ++ f (g has.last) ∷ [] = ap (change_last (λ s. f (g s))) has.are ∙ change_last-push (λ s. f (g s)) has.before has.last in
    twice ∙ sym both

-- nothing dropped, asked or replied leaves the steps
pub with_part-none : (steps : List Step) → HasStep steps → change_last (with_part [] [] []) steps ≡ steps
with_part-none steps has =
    let once : change_last (with_part [] [] []) steps ≡ has.before ++ with_part [] [] [] has.last ∷ [] = ap (change_last (with_part [] [] [])) has.are ∙ change_last-push (with_part [] [] []) has.before has.last in
    let same : with_part [] [] [] has.last ≡ has.last = simp append-nil in
    once ∙ (ap (λ s. has.before ++ s ∷ []) same ∙ sym has.are)

-- a part of a step, and then more
pub with_part-more : (drops : List ℕ) (asks : List Ask) (own more : List Answered) (step : Step) → with_part [] [] more (with_part drops asks own step) ≡ with_part drops asks (own ++ more) step
with_part-more drops asks own more step = simp (append_assoc, append-nil)

pub with_part-behind : (drops : List ℕ) (asks : List Ask) (own more : List Answered) (step : Step) → with_part drops asks more (with_part [] [] own step) ≡ with_part drops asks (own ++ more) step
with_part-behind drops asks own more step = simp (append_assoc, append-nil)

-- steps with more and more in the last one
pub steps-more : (drops : List ℕ) (asks : List Ask) (own more : List Answered) (old mid new : List Step) → HasStep old → mid ≡ change_last (with_part drops asks own) old → new ≡ change_last (with_part [] [] more) mid → new ≡ change_last (with_part drops asks (own ++ more)) old
steps-more drops asks own more old mid new has one two =
    two ∙ ap (change_last (with_part [] [] more)) one ∙ change_last-twice (with_part [] [] more) (with_part drops asks own) old has ∙ change_last-same (λ s. with_part [] [] more (with_part drops asks own s)) (with_part drops asks (own ++ more)) old (with_part-more drops asks own more)

pub steps-behind : (drops : List ℕ) (asks : List Ask) (own more : List Answered) (old mid new : List Step) → HasStep old → mid ≡ change_last (with_part [] [] own) old → new ≡ change_last (with_part drops asks more) mid → new ≡ change_last (with_part drops asks (own ++ more)) old
steps-behind drops asks own more old mid new has one two =
    two ∙ ap (change_last (with_part drops asks more)) one ∙ change_last-twice (with_part drops asks more) (with_part [] [] own) old has ∙ change_last-same (λ s. with_part drops asks more (with_part [] [] own s)) (with_part drops asks (own ++ more)) old (with_part-behind drops asks own more)

-- a writer's part, and then the replies
pub with_turn-part : (drops : List ℕ) (asks : List Ask) (step : Step) → with_turn drops asks step ≡ with_part drops asks [] step
with_turn-part drops asks step = simp append-nil

pub steps-turned : (drops : List ℕ) (asks : List Ask) (own : List Answered) (old mid new : List Step) → HasStep old → mid ≡ change_last (with_turn drops asks) old → new ≡ change_last (with_part [] [] own) mid → new ≡ change_last (with_part drops asks own) old
steps-turned drops asks own old mid new has one two =
    steps-more drops asks [] own old mid new has (one ∙ change_last-same (with_turn drops asks) (with_part drops asks []) old (with_turn-part drops asks)) two

pub with_part-ask : (ask : Ask) (s : Step) → with_ask ask s ≡ with_part [] (ask ∷ []) [] s
with_part-ask ask s = simp append-nil

-- the whole step, from its event on
pub steps-begun : (drops : List ℕ) (asks : List Ask) (own : List Answered) (before begun new : List Step) (event : Event) → begun ≡ before ++ step_of event ∷ [] → new ≡ change_last (with_part drops asks own) begun → new ≡ before ++ record { event = event; drops = drops; asks = asks; replies = own } ∷ []
steps-begun drops asks own before begun new event one two = two ∙ ap (change_last (with_part drops asks own)) one ∙ change_last-push (with_part drops asks own) before (step_of event)
