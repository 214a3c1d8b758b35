-- A listing goes by its last answer, and walks while it has none.
use Rattle.std.proofs.Common.{◌≡◌, ℕ, ◌-◌, List, [], ◌∷◌, ◌++◌, length, slice_get, Option, None, Some, Ok, refl, sym, ap, ◌∙◌, arith}
use Rattle.listing_rules.specs.Names.{prefix_of}
use Rattle.bucket_model.specs.declared.answer.Brief.{Brief}
use Rattle.mount_model.specs.declared.standing.Heard.{Heard}
use Rattle.mount_model.specs.declared.standing.Told.{Told}
use Rattle.mount_model.specs.declared.standing.Told.TheVariants.{Fact, Answer}
use Rattle.mount_model.specs.Conversation.{View, along, asks_page, last_of, list_at, list_next}
use Rattle.mount_plan.specs.declared.planned.LinePlan.{LinePlan}
use Rattle.mount_plan.specs.Last.{last_answer, last_in}
use Rattle.mount_plan.specs.Meant.{MeansOne, with_last}

last-pushed : (answers : List Brief) (last : Brief) → last_in (answers ++ last ∷ []) ≡ Some last
last-pushed [] last = refl
last-pushed (first ∷ answers) last = go first answers
  where
    go : (first : Brief) (answers : List Brief) → Some (last_of first (answers ++ last ∷ [])) ≡ Some last
    go first [] = refl
    go first (next ∷ answers) = go next answers

-- the last of a slice is its last item
last-place : (answers : List Brief) → slice_get answers (length answers - 1) ≡ last_in answers
last-place [] = refl
last-place (first ∷ answers) =
    let place : length (first ∷ answers) - 1 ≡ length answers = omega arith in
    ap (slice_get (first ∷ answers)) place ∙ go first answers
  where
    go : (first : Brief) (answers : List Brief) → slice_get (first ∷ answers) (length answers) ≡ Some (last_of first answers)
    go first [] = refl
    go first (next ∷ answers) = go next answers

-- the last answer of all stands apart, or behind the others
pub newest-apart : (last : Option Told) (heard : Heard) (answer : Brief) → Some answer ≡ last_answer last → Some answer ≡ last_in (with_last last heard).answers
newest-apart None heard answer is = absurd (cc)
newest-apart (Some (Fact known)) heard answer is = absurd (cc)
newest-apart (Some (Answer told)) heard answer is = is ∙ sym (last-pushed heard.answers told)

pub newest-kept : (last : Option Told) (heard : Heard) (found : Option Brief) → None ≡ last_answer last → found ≡ slice_get heard.answers (length heard.answers - 1) → found ≡ last_in (with_last last heard).answers
newest-kept None heard found none is = is ∙ last-place heard.answers
newest-kept (Some (Fact known)) heard found none is = is ∙ last-place heard.answers
newest-kept (Some (Answer told)) heard found none is = absurd (cc)

pub lists_by_walk : (plan : LinePlan) (view : View) (names : List (List ℕ)) (heard : Heard) → None ≡ last_in heard.answers →
    MeansOne plan (along view (asks_page view (prefix_of names) []) (list_at (asks_page view (prefix_of names) [])) names heard) →
    MeansOne plan (list_next view (Ok names) heard)
lists_by_walk plan view names heard none means = go heard.answers none means
  where
    go : (answers : List Brief) → None ≡ last_in answers → MeansOne plan (along view (asks_page view (prefix_of names) []) (list_at (asks_page view (prefix_of names) [])) names (record { facts = heard.facts; answers = answers })) → MeansOne plan (list_next view (Ok names) (record { facts = heard.facts; answers = answers }))
    go [] none means = means
    go (first ∷ answers) none means = absurd (cc)
