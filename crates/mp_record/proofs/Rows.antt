-- Where a row of items is cut in front of an event, the rest is a row, and no step begins within what is cut off.
use Rattle.std.proofs.Common.{◌≡◌, ℕ, suc, ◌+◌, ◌<◌, List, [], ◌∷◌, ◌++◌, length, take, drop, get_or, Bool, true, false, not, refl, sym, ◌∙◌, ap, subst, arith, length-append, take-append-drop, take_at}
use Rattle.std.specs.List.{IsChunkByPrefix}
use Rattle.std.proofs.lemmas.List.{get_or_at}
use Rattle.bucket_model.specs.Along.{Along}
use Rattle.mount_model.specs.declared.record.Item.{Item}
use Rattle.mount_model.specs.declared.record.Item.TheVariants as item
use Rattle.mount_model.specs.Step.{Step, step_of, with_drop, with_ask, with_reply, with_item, MayFollow, HasStep, IsRow}
use Rattle.mount_model.proofs.Steps.{HasStep-change_last}
use Rattle.mp_record.specs.Rows.{is_event, goes_on, SplitsStep}

-- ---- where there is a step, anything may follow

HasStep-with_item : (steps : List Step) (item : Item) → HasStep steps → HasStep (with_item steps item)
HasStep-with_item steps (item.Event event) has = record { before = steps; last = step_of event; are = refl }
HasStep-with_item steps (item.Drop job) has = HasStep-change_last (with_drop job) steps has
HasStep-with_item steps (item.Ask ask) has = HasStep-change_last (with_ask ask) steps has
HasStep-with_item steps (item.Reply reply) has = HasStep-change_last (with_reply reply) steps has

MayFollow-HasStep : (steps : List Step) (item : Item) → HasStep steps → MayFollow steps item
MayFollow-HasStep steps (item.Event event) has = tt
MayFollow-HasStep steps (item.Drop job) has = has
MayFollow-HasStep steps (item.Ask ask) has = has
MayFollow-HasStep steps (item.Reply reply) has = has

Along-HasStep : (steps : List Step) (items : List Item) → HasStep steps → Along MayFollow with_item steps items
Along-HasStep steps [] has = tt
Along-HasStep steps (item ∷ items) has = (MayFollow-HasStep steps item has, Along-HasStep (with_item steps item) items (HasStep-with_item steps item has))

not_empty : (before : List Step) (last : Step) → [] ≡ before ++ last ∷ [] → ⊥
not_empty before last are = let lengths = ap length are in grind (arith, length-append)

-- ---- a row is nothing, or begins with an event

pub IsRow-event : (first : Item) (items : List Item) → is_event first ≡ true → IsRow (first ∷ items)
IsRow-event (item.Event event) items is = (tt, Along-HasStep (step_of event ∷ []) items (record { before = []; last = step_of event; are = refl }))
IsRow-event (item.Drop job) items is = absurd (cc)
IsRow-event (item.Ask ask) items is = absurd (cc)
IsRow-event (item.Reply reply) items is = absurd (cc)

pub event-IsRow : (first : Item) (items : List Item) → IsRow (first ∷ items) → is_event first ≡ true
event-IsRow (item.Event event) items row = refl
event-IsRow (item.Drop job) items row = absurd (not_empty row.0.before row.0.last row.0.are)
event-IsRow (item.Ask ask) items row = absurd (not_empty row.0.before row.0.last row.0.are)
event-IsRow (item.Reply reply) items row = absurd (not_empty row.0.before row.0.last row.0.are)

-- ---- the first step's items

-- no step begins with one of the items
abbrev pub AreOwn : List Item → Type 0
AreOwn [] = Unit {0}
AreOwn (item ∷ items) = (is_event item ≡ false) × AreOwn items

from_not : (b c : Bool) → not b ≡ c → b ≡ not c
from_not true true is = absurd (cc)
from_not true false is = refl
from_not false true is = refl
from_not false false is = absurd (cc)

own_items : (own rest : List Item) → ((k : ℕ) (d : Item) → k < length own → not (is_event (get_or (own ++ rest) k d)) ≡ true) → AreOwn own
own_items [] rest go_on = tt
own_items (item ∷ own) rest go_on = (from_not (is_event item) true (go_on 0 item (omega arith)), own_items own rest (λ k d lt. go_on (suc k) d (omega arith)))

pub AreOwn-chunk : (first : Item) (own rest : List Item) → IsChunkByPrefix goes_on (first ∷ (own ++ rest)) (length (first ∷ own)) → AreOwn own
AreOwn-chunk first own rest chunk = own_items own rest (λ k d lt.
    let next : k + 1 ≡ suc k = omega arith in
    subst (λ (n : ℕ). not (is_event (get_or (first ∷ (own ++ rest)) n d)) ≡ true) next (chunk.0 k d (omega arith)))

pub IsRow-rest : (step rest : List Item) → IsChunkByPrefix goes_on (step ++ rest) (length step) → IsRow rest
IsRow-rest step [] chunk = tt
IsRow-rest step (next ∷ rest) chunk =
    let shorter : length step < length (step ++ next ∷ rest) = grind (arith, length-append) in
    IsRow-event next rest (from_not (is_event next) false (subst (λ (i : Item). not (is_event i) ≡ false) (get_or_at step next rest next (length step) refl) (chunk.1 shorter next)))

pub SplitsStep-chunk : (items step rest front back : List Item) → items ≡ step ++ rest → 0 < length step → IsChunkByPrefix goes_on items (length step) → front ≡ take (length step) items → back ≡ drop (length step) items → SplitsStep items front back
SplitsStep-chunk items step rest front back whole some own front_is back_is =
    let same : step ≡ front = sym (take_at step rest (length step) refl) ∙ (ap (take (length step)) (sym whole) ∙ sym front_is) in
    record {
      whole = rw (front_is, back_is) (sym (take-append-drop (length step) items));
      some = subst (λ (f : List Item). 0 < length f) same some;
      own = subst (λ (f : List Item). IsChunkByPrefix goes_on items (length f)) same own;
    }
