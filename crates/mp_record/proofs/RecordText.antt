-- The text of a row's steps is, step by step, the text of the step's items, kind by kind.
use Rattle.std.proofs.Common.{◌≡◌, ℕ, ◌<◌, List, [], ◌∷◌, ◌++◌, length, fold, flat_map, true, refl, sym, ◌∙◌, ap, subst, append_assoc, append-nil, arith}
use Rattle.std.specs.List.{IsChunkByPrefix}
use Rattle.std.proofs.lemmas.Grind.{flat_map-append, fold-append}
use Rattle.bucket_model.specs.Along.{Along}
use Rattle.mount_model.specs.declared.record.Item.{Item}
use Rattle.mount_model.specs.declared.record.Item.TheVariants as item
use Rattle.mount_model.specs.Step.{Step, step_of, with_drop, with_ask, with_reply, change_last, with_item, steps_of, MayFollow, IsRow}
use Rattle.mp_record.specs.RecordText.{event_text, drop_text, ask_text, reply_text, step_text, record_text}
use Rattle.mount_model.proofs.Order.{change_last-push}
use Rattle.mp_record.specs.declared.kind.Kind.TheVariants as kind
use Rattle.mp_record.specs.ItemText.{text_of_kind, items_text}
use Rattle.mp_record.specs.Rows.{is_event, goes_on, SplitsStep}
use Rattle.mp_record.proofs.Rows.{AreOwn, event-IsRow, AreOwn-chunk, IsRow-rest}

-- ---- steps behind steps

change_last-append : {X : Type 0} (f : X → X) (xs before : List X) (last : X) → change_last f (xs ++ (before ++ last ∷ [])) ≡ xs ++ change_last f (before ++ last ∷ [])
change_last-append f xs before last =
    ap (change_last f) (sym (append_assoc xs before (last ∷ []))) ∙ (change_last-push f (xs ++ before) last ∙ (append_assoc xs before (f last ∷ []) ∙ ap (λ t. xs ++ t) (sym (change_last-push f before last))))

with_item-append : (steps more : List Step) (item : Item) → MayFollow more item → with_item (steps ++ more) item ≡ steps ++ with_item more item
with_item-append steps more (item.Event event) may = append_assoc steps more (step_of event ∷ [])
with_item-append steps more (item.Drop job) may = rw may.are (change_last-append (with_drop job) steps may.before may.last)
with_item-append steps more (item.Ask ask) may = rw may.are (change_last-append (with_ask ask) steps may.before may.last)
with_item-append steps more (item.Reply reply) may = rw may.are (change_last-append (with_reply reply) steps may.before may.last)

with_items-append : (steps more : List Step) (items : List Item) → Along MayFollow with_item more items → fold with_item (steps ++ more) items ≡ steps ++ fold with_item more items
with_items-append steps more [] run = refl
with_items-append steps more (item ∷ items) run = ap (λ s. fold with_item s items) (with_item-append steps more item run.0) ∙ with_items-append steps (with_item more item) items run.1

-- a row behind other items
pub steps_of-append : (front behind : List Item) → IsRow behind → steps_of (front ++ behind) ≡ steps_of front ++ steps_of behind
steps_of-append front behind row =
    fold-append with_item [] front behind ∙ (ap (λ s. fold with_item s behind) (sym (append-nil (steps_of front))) ∙ with_items-append (steps_of front) [] behind row)

-- ---- the items of one step

-- one more of the items of a kind
flat_map-push : {X : Type 0} (f : X → List ℕ) (xs : List X) (x : X) (rest : List ℕ) → flat_map f (xs ++ x ∷ []) ++ rest ≡ flat_map f xs ++ (f x ++ rest)
flat_map-push f xs x rest = rw (flat_map-append f xs (x ∷ []), append-nil (f x)) (append_assoc (flat_map f xs) (f x) rest)

-- a step's text once more items have come
abbrev text_with : Step → List Item → List ℕ
text_with step items =
    event_text step.event ++ ((flat_map drop_text step.drops ++ text_of_kind items kind.Drop) ++ ((flat_map ask_text step.asks ++ text_of_kind items kind.Ask) ++ (flat_map reply_text step.replies ++ text_of_kind items kind.Reply)))

record_text-own : (step : Step) (own : List Item) → AreOwn own → record_text (fold with_item (step ∷ []) own) ≡ text_with step own
record_text-own step [] all = rw (append-nil (step_text step), append-nil (flat_map drop_text step.drops), append-nil (flat_map ask_text step.asks), append-nil (flat_map reply_text step.replies)) refl
record_text-own step (item.Event event ∷ own) all = let is = all.0 in absurd (cc)
record_text-own step (item.Drop job ∷ own) all =
    record_text-own (with_drop job step) own all.1 ∙ rw (flat_map-push drop_text step.drops job (text_of_kind own kind.Drop)) refl
record_text-own step (item.Ask ask ∷ own) all =
    record_text-own (with_ask ask step) own all.1 ∙ rw (flat_map-push ask_text step.asks ask (text_of_kind own kind.Ask)) refl
record_text-own step (item.Reply reply ∷ own) all =
    record_text-own (with_reply reply step) own all.1 ∙ rw (flat_map-push reply_text step.replies reply (text_of_kind own kind.Reply)) refl

no_event : (own : List Item) → AreOwn own → text_of_kind own kind.Event ≡ []
no_event [] all = refl
no_event (item.Event event ∷ own) all = let is = all.0 in absurd (cc)
no_event (item.Drop job ∷ own) all = no_event own all.1
no_event (item.Ask ask ∷ own) all = no_event own all.1
no_event (item.Reply reply ∷ own) all = no_event own all.1

record_text-step : (first : Item) (own : List Item) → is_event first ≡ true → AreOwn own → record_text (steps_of (first ∷ own)) ≡ items_text (first ∷ own)
record_text-step (item.Event event) own is all =
    record_text-own (step_of event) own all ∙ rw (no_event own all, append-nil (event_text event), append-nil (text_of_kind own kind.Reply)) refl
record_text-step (item.Drop job) own is all = absurd (cc)
record_text-step (item.Ask ask) own is all = absurd (cc)
record_text-step (item.Reply reply) own is all = absurd (cc)

-- ---- one step more

record_text-row : (step rest : List Item) → 0 < length step → IsRow (step ++ rest) → IsChunkByPrefix goes_on (step ++ rest) (length step) → record_text (steps_of (step ++ rest)) ≡ items_text step ++ record_text (steps_of rest)
record_text-row [] rest some row chunk = absurd (omega arith)
record_text-row (first ∷ own) rest some row chunk =
    ap record_text (steps_of-append (first ∷ own) rest (IsRow-rest (first ∷ own) rest chunk))
    ∙ (flat_map-append step_text (steps_of (first ∷ own)) (steps_of rest)
    ∙ ap (λ t. t ++ record_text (steps_of rest)) (record_text-step first own (event-IsRow first (own ++ rest) row) (AreOwn-chunk first own rest chunk)))

pub step_more : (text whole : List ℕ) (row step behind : List Item) → SplitsStep row step behind → IsRow row → text ++ record_text (steps_of row) ≡ whole → (text ++ items_text step) ++ record_text (steps_of behind) ≡ whole
step_more text whole row step behind splits is_row is =
    append_assoc text (items_text step) (record_text (steps_of behind))
    ∙ (ap (λ t. text ++ t) (sym (record_text-row step behind splits.some (subst (λ (r : List Item). IsRow r) splits.whole is_row) (subst (λ (r : List Item). IsChunkByPrefix goes_on r (length step)) splits.whole splits.own)) ∙ ap (λ r. record_text (steps_of r)) (sym splits.whole)) ∙ is)

pub row_more : (row step behind : List Item) → SplitsStep row step behind → IsRow behind
row_more row step behind splits = IsRow-rest step behind (subst (λ (r : List Item). IsChunkByPrefix goes_on r (length step)) splits.whole splits.own)
