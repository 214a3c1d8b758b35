-- The reply to a line stands at its place among a record's items.
use Rattle.std.proofs.Common.{◌≡◌, ℕ, ◌+◌, ◌≤◌, Bool, true, false, eqb, cond, List, [], ◌∷◌, ◌++◌, length, flat_map, Option, Some, None, refl, sym, ap, ◌∙◌, length-append, arith}
use Rattle.std.specs.Prelude.{option_map, option_and_then, slice_get, nat_lt, position}
use Rattle.std.specs.List.{find, position_or_len}
use Rattle.std.specs.Option.{option_or}
use Rattle.std.proofs.lemmas.Bool.{eqb-true}
use Rattle.std.proofs.lemmas.Bool.Decides.{nat_tests}
use Rattle.std.proofs.lemmas.List.Folds.{find_at, position_or_len_push}
use Rattle.std.proofs.lemmas.List.Sums.{prefix_len-le-length}
use Rattle.std.proofs.lemmas.Option.{slice_get_past}
use Rattle.mount_model.specs.declared.event.Answered.{Answered}
use Rattle.mount_model.specs.declared.record.Item.{Item}
use Rattle.mount_model.specs.declared.record.Item.TheVariants as item
use Rattle.mount_model.specs.Step.{Step, steps_of, IsRow}
use Rattle.mount_model.specs.Replies.{replies_in, reply_to}
use Rattle.mount_model.proofs.Replies.{replies_of-row}
use Rattle.job_table.specs.Journal.{is_reply_to, reply_in}

-- a reply among the items
find-replies : (line : ℕ) (items : List Item) → option_map (λ a. a.reply) (find (λ a. eqb a.line line) (flat_map replies_in items)) ≡ option_and_then reply_in (find (is_reply_to line) items)
find-replies line [] = refl
find-replies line (item.Event event ∷ items) = find-replies line items
find-replies line (item.Drop job ∷ items) = find-replies line items
find-replies line (item.Ask ask ∷ items) = find-replies line items
find-replies line (item.Reply answered ∷ items) = at_one (eqb answered.line line) refl (find-replies line items)
  where
    at_one : (b : Bool) → eqb answered.line line ≡ b → option_map (λ a. a.reply) (find (λ a. eqb a.line line) (flat_map replies_in items)) ≡ option_and_then reply_in (find (is_reply_to line) items) → option_map (λ a. a.reply) (find (λ a. eqb a.line line) (flat_map replies_in (item.Reply answered ∷ items))) ≡ option_and_then reply_in (find (is_reply_to line) (item.Reply answered ∷ items))
    at_one true e below = rw e refl
    at_one false e below = rw e below

module _ {X : Type 0} (p : X → Bool) where
  -- the first element that passes stands at the first place
  pub find-position : (xs : List X) → find p xs ≡ option_and_then (slice_get xs) (position p xs)
  find-position xs = at_place (nat_lt (position_or_len p xs) (length xs)) refl
    where
      at_place : (b : Bool) → nat_lt (position_or_len p xs) (length xs) ≡ b → find p xs ≡ option_and_then (slice_get xs) (cond b (Some (position_or_len p xs)) None)
      at_place true e = find_at p xs
      at_place false e = find_at p xs ∙ slice_get_past xs (position_or_len p xs) (grind (arith, nat_tests, e))

  -- one element more
  pub position-push : (xs : List X) (x : X) → position p (xs ++ x ∷ []) ≡ option_or (position p xs) (cond (p x) (Some (length xs)) None)
  position-push xs x = rw (position_or_len_push p xs x, length-append xs (x ∷ [])) (by_place (position_or_len p xs) (length xs) (p x) (prefix_len-le-length _ xs))
    where
      by_place : (at n : ℕ) (b : Bool) → at ≤ n → cond (nat_lt (cond (eqb at n) (n + cond b 0 1) at) (n + 1)) (Some (cond (eqb at n) (n + cond b 0 1) at)) None ≡ option_or (cond (nat_lt at n) (Some at) None) (cond b (Some n) None)
      by_place at n true h = grind (arith, nat_tests, h)
      by_place at n false h = grind (arith, nat_tests, h)

-- the reply to a line is in the item at its place
module _ (line : ℕ) (items : List Item) (steps : List Step) (place : Option ℕ) (row : IsRow items) (are : steps_of items ≡ steps) (stands : place ≡ position (is_reply_to line) items) where
  reply_to-place : reply_to line steps ≡ option_and_then reply_in (option_and_then (slice_get items) place)
  reply_to-place =
      let found : find (is_reply_to line) items ≡ option_and_then (slice_get items) place = find-position (is_reply_to line) items ∙ ap (option_and_then (slice_get items)) (sym stands) in
      ap (reply_to line) (sym are) ∙ (ap (λ r. option_map (λ a. a.reply) (find (λ a. eqb a.line line) r)) (replies_of-row items row) ∙ (find-replies line items ∙ ap (option_and_then reply_in) found))

  pub reply_to-nowhere : place ≡ None → None ≡ reply_to line steps
  reply_to-nowhere none = sym (reply_to-place ∙ ap (λ o. option_and_then reply_in (option_and_then (slice_get items) o)) none)

  pub reply_to-there : (i : ℕ) (item : Item) → place ≡ Some i → slice_get items i ≡ Some item → reply_in item ≡ reply_to line steps
  reply_to-there i item some there = sym (reply_to-place ∙ (ap (λ o. option_and_then reply_in (option_and_then (slice_get items) o)) some ∙ ap (option_and_then reply_in) there))

-- one reply more: the first to its line is noted
pub noted-push : (reply : Answered) (items : List Item) (old new : ℕ → Option ℕ) (place : ℕ) → place ≡ length items → ((q : ℕ) → new q ≡ cond (eqb reply.line q) (option_or (old reply.line) (Some place)) (old q)) → ((q : ℕ) → old q ≡ position (is_reply_to q) items) → (q : ℕ) → new q ≡ position (is_reply_to q) (items ++ item.Reply reply ∷ [])
noted-push reply items old new place is notes are q = notes q ∙ (at_one (eqb reply.line q) refl ∙ sym (position-push (is_reply_to q) items (item.Reply reply)))
  where
    or_none : (o : Option ℕ) → o ≡ option_or o None
    or_none None = refl
    or_none (Some i) = refl

    at_one : (b : Bool) → eqb reply.line q ≡ b → cond b (option_or (old reply.line) (Some place)) (old q) ≡ option_or (position (is_reply_to q) items) (cond b (Some (length items)) None)
    at_one true e =
        let first : old reply.line ≡ position (is_reply_to q) items = ap old (eqb-true reply.line q e) ∙ are q in
        ap (λ o. option_or o (Some place)) first ∙ ap (λ i. option_or (position (is_reply_to q) items) (Some i)) is
    at_one false e = are q ∙ or_none (position (is_reply_to q) items)
