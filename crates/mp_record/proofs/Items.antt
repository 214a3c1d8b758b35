-- The text of the items of a list, one after another, behind a text that begins it.
use Rattle.std.proofs.Common.{◌≡◌, ℕ, ◌+◌, ◌<◌, List, [], ◌∷◌, ◌++◌, Option, length, take, drop, get_or, flat_map, refl, sym, ◌∙◌, ap, append_assoc, append-nil}
use Rattle.std.proofs.lemmas.List.{take_more, take-append-drop}
use Rattle.std.proofs.lemmas.Grind.{flat_map-append}
use Rattle.mp_record.specs.Appends.{AppendsBut, AppendsFront}
use Rattle.mp_record.proofs.Appends.{AppendsBut-then, AppendsFront-more, AppendsFront-rest, AppendsFront-then}

-- one item more
text_more : {X : Type 0} (f : X → List ℕ) (begun : List ℕ) (xs : List X) (i : ℕ) (d x : X) → i < length xs → x ≡ get_or xs i d → begun ++ flat_map f (take (i + 1) xs) ≡ (begun ++ flat_map f (take i xs)) ++ f x
text_more f begun xs i d x lt is =
    ap (λ t. begun ++ flat_map f t) (take_more xs i d lt)
    ∙ (ap (λ t. begun ++ t) (flat_map-append f (take i xs) (get_or xs i d ∷ []) ∙ ap (λ t. flat_map f (take i xs) ++ t) (append-nil (f (get_or xs i d)) ∙ ap f (sym is)))
    ∙ sym (append_assoc begun (flat_map f (take i xs)) (f x)))

-- the items up to a place, and those from there on
text_rest : {X : Type 0} (f : X → List ℕ) (begun : List ℕ) (xs : List X) (i : ℕ) → (begun ++ flat_map f (take i xs)) ++ flat_map f (drop i xs) ≡ begun ++ flat_map f xs
text_rest f begun xs i =
    append_assoc begun (flat_map f (take i xs)) (flat_map f (drop i xs))
    ∙ ap (λ t. begun ++ t) (sym (flat_map-append f (take i xs) (drop i xs)) ∙ ap (flat_map f) (take-append-drop i xs))

-- an item's text is gathered, and a front of what has been gathered is written
pub item_rest : {X : Type 0} (f : X → List ℕ) (begun : List ℕ) (xs : List X) (i : ℕ) (d x : X) (held now : Option (List ℕ)) (gathered left : List ℕ) (after : Option (List ℕ)) → i < length xs → x ≡ get_or xs i d → AppendsBut held (begun ++ flat_map f (take i xs)) gathered now → AppendsBut now (gathered ++ f x) left after → AppendsBut held (begun ++ flat_map f (take (i + 1) xs)) left after
item_rest f begun xs i d x held now gathered left after lt is but sent =
    rw (text_more f begun xs i d x lt is) (AppendsBut-then held now after (begun ++ flat_map f (take i xs)) gathered (f x) (gathered ++ f x) left but refl sent)

pub item_front : {X : Type 0} (f : X → List ℕ) (begun : List ℕ) (xs : List X) (i : ℕ) (d x : X) (held now : Option (List ℕ)) (gathered : List ℕ) (after : Option (List ℕ)) → i < length xs → x ≡ get_or xs i d → AppendsBut held (begun ++ flat_map f (take i xs)) gathered now → AppendsFront now (gathered ++ f x) after → AppendsFront held (begun ++ flat_map f xs) after
item_front f begun xs i d x held now gathered after lt is but front =
    AppendsFront-then held now after (begun ++ flat_map f (take i xs)) gathered (f x) (gathered ++ f x) (flat_map f (drop (i + 1) xs)) (begun ++ flat_map f xs) but refl front
    (ap (λ t. t ++ flat_map f (drop (i + 1) xs)) (sym (text_more f begun xs i d x lt is)) ∙ text_rest f begun xs (i + 1))

-- what has been written is a front of all
pub items_front : {X : Type 0} (f : X → List ℕ) (begun : List ℕ) (xs : List X) (i : ℕ) (held now : Option (List ℕ)) (gathered : List ℕ) (after : Option (List ℕ)) → AppendsBut held (begun ++ flat_map f (take i xs)) gathered now → AppendsFront now gathered after → AppendsFront held (begun ++ flat_map f xs) after
items_front f begun xs i held now gathered after but front =
    AppendsFront-more held (begun ++ flat_map f (take i xs)) (flat_map f (drop i xs)) (begun ++ flat_map f xs) after (text_rest f begun xs i)
    (AppendsFront-rest held (begun ++ flat_map f (take i xs)) gathered now after but front)
