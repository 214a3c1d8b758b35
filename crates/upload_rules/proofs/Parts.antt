-- Lists of parts.
use Rattle.std.proofs.Common.{◌≡◌, ℕ, ◌*◌, ◌≤◌, List, [], ◌∷◌, ◌++◌, length, take, drop, min, ap, ◌∙◌, arith}
use Rattle.std.specs.List.{AllByRecursion}
use Rattle.std.proofs.lemmas.List.{append-nil, length-append, length-take, take_min, take-append-drop}
use Rattle.std.proofs.lemmas.Grind.{flat_map-append}
use Rattle.upload_rules.specs.Run.{joined, AreCut}

-- each part has so many bytes
abbrev pub AreFull : ℕ → List (List ℕ) → Type 0
AreFull part parts = AllByRecursion (λ bytes. length bytes ≡ part) parts

pub full-empty : (part : ℕ) (parts : List (List ℕ)) → length parts ≡ 0 → AreFull part parts
full-empty part [] none = tt
full-empty part (bytes ∷ parts) none = absurd (omega arith)

pub full-push : (part : ℕ) (parts : List (List ℕ)) (bytes : List ℕ) → AreFull part parts → length bytes ≡ part → AreFull part (parts ++ bytes ∷ [])
full-push part [] bytes full fits = (fits, tt)
full-push part (first ∷ parts) bytes full fits = (full.0, full-push part parts bytes full.1 fits)

-- the last part may be shorter
pub cut-push : (part : ℕ) (parts : List (List ℕ)) (bytes : List ℕ) → AreFull part parts → length bytes ≤ part → AreCut part (parts ++ bytes ∷ [])
cut-push part [] bytes full fits = fits
cut-push part (first ∷ []) bytes full fits = (full.0, fits)
cut-push part (first ∷ second ∷ parts) bytes full fits = (full.0, cut-push part (second ∷ parts) bytes full.1 fits)

pub joined-push : (parts : List (List ℕ)) (bytes : List ℕ) → joined (parts ++ bytes ∷ []) ≡ joined parts ++ bytes
joined-push parts bytes = flat_map-append (λ bytes. bytes) parts (bytes ∷ []) ∙ ap (λ (last : List ℕ). joined parts ++ last) (append-nil bytes)

pub length-joined : (part : ℕ) (parts : List (List ℕ)) → AreFull part parts → length (joined parts) ≡ length parts * part
length-joined part [] full = omega arith
length-joined part (bytes ∷ parts) full =
    let more = length-joined part parts full.1 in
    let sum = length-append bytes (joined parts) in
    let first : length bytes ≡ part = full.0 in
    omega arith

-- a part and what is behind it
pub take-then-drop : (part : ℕ) (rest : List ℕ) → take part rest ++ drop (length (take part rest)) rest ≡ rest
take-then-drop part rest = rw (length-take part rest) (rw (← take_min part rest) (take-append-drop (min part (length rest)) rest))
