-- What one more entry does to a history.
use Rattle.std.proofs.Common.{◌≡◌, ℕ, ◌+◌, ◌≤◌, List, [], ◌∷◌, ◌++◌, length, Option, Some, None, refl, sym, ap, ◌∙◌, subst, append_assoc, append-nil, arith, length-append}
use Rattle.std.specs.List.{cons_option, fold}
use Rattle.std.specs.Option.{option_to_list}
use Rattle.std.proofs.lemmas.List.Elements.{filter_map-append}
use Rattle.std.proofs.lemmas.List.Sums.{fold-append}
use Rattle.bucket_model.specs.declared.history.Logged.{Logged}
use Rattle.bucket_model.specs.Bucket.{BucketState, empty_bucket, version_made, after}
use Rattle.bucket_model.specs.History.{replay, versions_from, versions_of, IsLegalEntry, IsLegalHistory}
use Rattle.bucket_model.proofs.Along.{Along-push}
use Rattle.mem_store.specs.Served.{upload_in, uploads_made}

-- items added one by one
fold_snoc : {E : Type 0} (past items : List E) → fold (λ (xs : List E) (x : E). xs ++ x ∷ []) past items ≡ past ++ items
fold_snoc past [] = sym (append-nil past)
fold_snoc past (item ∷ items) = fold_snoc (past ++ item ∷ []) items ∙ append_assoc past (item ∷ []) items

pub replay_push : (log : List Logged) (logged : Logged) → replay (log ++ logged ∷ []) ≡ after (replay log) logged
replay_push log logged = fold-append after empty_bucket log (logged ∷ [])

pub versions_from-push : (state : BucketState) (log : List Logged) (logged : Logged) → versions_from state (log ++ logged ∷ []) ≡ versions_from state log ++ option_to_list (version_made (fold after state log) logged)
versions_from-push state [] logged = append-nil (option_to_list (version_made state logged))
versions_from-push state (first ∷ log) logged =
    ap (λ vs. option_to_list (version_made state first) ++ vs) (versions_from-push (after state first) log logged)
    ∙ sym (append_assoc (option_to_list (version_made state first)) (versions_from (after state first) log) _)

pub versions_push : (log : List Logged) (logged : Logged) → versions_of (log ++ logged ∷ []) ≡ versions_of log ++ option_to_list (version_made (replay log) logged)
versions_push log logged = versions_from-push empty_bucket log logged

-- the uploads made, with one more entry
pub uploads_push : (log : List Logged) (logged : Logged) → uploads_made (log ++ logged ∷ []) ≡ uploads_made log ++ option_to_list (upload_in logged.made)
uploads_push log logged = filter_map-append (λ (l : Logged). upload_in l.made) log (logged ∷ []) ∙ ap (λ ids. uploads_made log ++ ids) (own (upload_in logged.made))
  where
    own : (o : Option ℕ) → cons_option o [] ≡ option_to_list o
    own None = refl
    own (Some id) = refl

pub legal_push : (log : List Logged) (logged : Logged) → IsLegalHistory log → IsLegalEntry log logged → IsLegalHistory (log ++ logged ∷ [])
legal_push log logged legal fine =
    let P : List Logged → Type 0 = λ past. IsLegalEntry past logged in
    Along-push IsLegalEntry (λ past entry. past ++ entry ∷ []) [] log logged legal (subst P (sym (fold_snoc [] log)) fine)

one_at_most : {X : Type 0} (o : Option X) → length (option_to_list o) ≤ 1
one_at_most None = omega arith
one_at_most (Some x) = omega arith

-- each entry makes at most one version
pub versions_from-few : (state : BucketState) (log : List Logged) → length (versions_from state log) ≤ length log
versions_from-few state [] = omega arith
versions_from-few state (first ∷ log) =
    omega (arith, length-append (option_to_list (version_made state first)) (versions_from (after state first) log), versions_from-few (after state first) log, one_at_most (version_made state first))

-- and at most one upload
pub uploads_few : (log : List Logged) → length (uploads_made log) ≤ length log
uploads_few [] = omega arith
uploads_few (first ∷ log) = omega (arith, one_more (upload_in first.made) (uploads_made log), uploads_few log)
  where
    one_more : (o : Option ℕ) (ids : List ℕ) → length (cons_option o ids) ≤ length ids + 1
    one_more None ids = omega arith
    one_more (Some id) ids = omega arith
