-- A line that lists and asks for one more call has heard nothing but pages.
use Rattle.std.proofs.Common.{◌≡◌, ℕ, List, [], ◌∷◌, ◌++◌, Result, Ok, Err, refl, sym, ap, ◌∙◌, subst}
use Rattle.mp_types.specs.declared.path.PathFault.{PathFault}
use Rattle.mp_rules.specs.declared.facts.Known.{Known}
use Rattle.listing_rules.specs.Names.{prefix_of}
use Rattle.bucket_model.specs.declared.call.Call.{Call}
use Rattle.bucket_model.specs.declared.answer.Brief.{Brief}
use Rattle.bucket_model.specs.declared.answer.Brief.TheVariants as answer
use Rattle.mount_model.specs.declared.request.Request.{Request}
use Rattle.mount_model.specs.declared.request.Request.TheVariants as request
use Rattle.mount_model.specs.declared.standing.Heard.{Heard}
use Rattle.mount_model.specs.declared.standing.Told.{Told}
use Rattle.mount_model.specs.declared.standing.Told.TheVariants.{Fact, Answer}
use Rattle.mount_model.specs.Heard.{nothing_heard, with_told}
use Rattle.mount_model.specs.Conversation.{Asks, View, last_of, behind_answer, list_next, next_of}
use Rattle.run_laws.specs.Listings.{IsPage, HeardPages}
use Rattle.run_laws.proofs.Keyed.{all-append}

-- what a line has heard: nothing yet, or one thing more, behind pages alone
pub data HasHeard (request : Request) (heard : Heard) : Type 0 where
  HeardNothing : heard ≡ nothing_heard → HasHeard request heard
  HeardMore : (before : Heard) (told : Told) → heard ≡ with_told told before → HeardPages request before.answers → HasHeard request heard

last-append : (first : Brief) (answers : List Brief) (answer : Brief) → last_of first (answers ++ answer ∷ []) ≡ answer
last-append first [] answer = refl
last-append first (next ∷ answers) answer = last-append next answers answer

-- the last answer decides
list-decided : (view : View) (names : List (List ℕ)) (facts : List Known) (answers : List Brief) (answer : Brief) → list_next view (Ok names) (record { facts = facts; answers = answers ++ answer ∷ [] }) ≡ behind_answer view (prefix_of names) (answers ++ answer ∷ []) answer
list-decided view names facts [] answer = refl
list-decided view names facts (first ∷ answers) answer = ap (behind_answer view (prefix_of names) (first ∷ answers ++ answer ∷ [])) (last-append first answers answer)

-- so that it is a page, where one more is asked for
asks-behind : (view : View) (prefix : List ℕ) (answers : List Brief) (last : Brief) (called : Call) → behind_answer view prefix answers last ≡ Asks called → IsPage last
asks-behind view prefix answers (answer.Page page) called asks = tt
asks-behind view prefix answers other called asks = absurd (cc)

pages-told : (view : View) (names : List (List ℕ)) (before : Heard) (told : Told) (called : Call) → HeardPages (request.List (Ok names)) before.answers → list_next view (Ok names) (with_told told before) ≡ Asks called → HeardPages (request.List (Ok names)) (with_told told before).answers
pages-told view names before (Fact known) called pages asks = pages
pages-told view names before (Answer answer) called pages asks =
    all-append IsPage before.answers (answer ∷ []) pages (asks-behind view (prefix_of names) (before.answers ++ answer ∷ []) answer called (sym (list-decided view names before.facts before.answers answer) ∙ asks), tt)

pages-found : (view : View) (path : Result (List (List ℕ)) PathFault) (heard : Heard) (called : Call) → HasHeard (request.List path) heard → list_next view path heard ≡ Asks called → HeardPages (request.List path) heard.answers
pages-found view (Err why) heard called has asks = absurd (cc)
pages-found view (Ok names) heard called (HeardNothing is) asks = subst (λ (h : Heard). HeardPages (request.List (Ok names)) h.answers) (sym is) tt
pages-found view (Ok names) heard called (HeardMore before told is pages) asks =
    subst (λ (h : Heard). HeardPages (request.List (Ok names)) h.answers) (sym is) (pages-told view names before told called pages (ap (list_next view (Ok names)) (sym is) ∙ asks))

pub asks-pages : (view : View) (request : Request) (heard : Heard) (called : Call) → HasHeard request heard → next_of view request heard ≡ Asks called → HeardPages request heard.answers
asks-pages view (request.List path) heard called has asks = pages-found view path heard called has asks
asks-pages view other heard called has asks = tt
