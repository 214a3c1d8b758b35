-- What goes by the first of some answers.
use Rattle.std.proofs.Common.{◌≡◌, List, [], ◌∷◌, Some, slice_get, subst}
use Rattle.bucket_model.specs.declared.answer.Brief.{Brief}

pub by_first : (P : List Brief → Type 0) (answers : List Brief) (answer : Brief) → Some answer ≡ slice_get answers 0 → ((others : List Brief) → P (answer ∷ others)) → P answers
by_first P [] answer is holds = absurd (cc)
by_first P (first ∷ others) answer is holds =
    let same : answer ≡ first = cc in
    subst (λ a. P (a ∷ others)) same (holds others)
