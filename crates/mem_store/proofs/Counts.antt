-- Object versions and uploads are numbered from 1 on.
use Rattle.std.proofs.Common.{◌≡◌, ℕ, zero, suc, ◌+◌, ◌<◌, ◌≤◌, ◌^◌, List, [], ◌∷◌, ◌++◌, length, Option, Some, None, get_or, sym, ap, ◌∙◌, subst, add-zero, append-nil, arith, below_more, length-append}
use Rattle.std.specs.List.{AllByRecursion, Contains, cons_option, range_with_len}
use Rattle.std.specs.Option.{option_to_list}
use Rattle.std.proofs.lemmas.List.{get_or_append_left}
use Rattle.std.proofs.lemmas.List.Elements.{All-contains, All-from_recursion}
use Rattle.std.proofs.Math.Seq.{get_or-append_seam}
use Rattle.bucket_model.specs.declared.history.Logged.{Logged}
use Rattle.bucket_model.specs.declared.history.Name.{Name}
use Rattle.bucket_model.specs.declared.history.Name.TheVariants as name
use Rattle.bucket_model.specs.Bucket.{ObjectVersion}
use Rattle.bucket_model.specs.History.{IsNewUpload}
use Rattle.mem_store.specs.Kept.{AreNumbered}
use Rattle.mem_store.specs.Served.{etag_of_version, upload_in, uploads_made}
use Rattle.mem_store.proofs.ETags.{version_etags_differ}

-- a version that is made has the next number, and is counted
abbrev pub IsNextVersion : ℕ → ℕ → Option ObjectVersion → Type 0
IsNextVersion count now None = now ≡ count
IsNextVersion count now (Some version) = (version.etag ≡ etag_of_version (count + 1)) × (now ≡ count + 1)

-- so is an upload
abbrev pub IsNextUpload : ℕ → ℕ → Option ℕ → Type 0
IsNextUpload count now None = now ≡ count
IsNextUpload count now (Some upload) = (upload ≡ count + 1) × (now ≡ count + 1)

numbered_push : (versions : List ObjectVersion) (version : ObjectVersion) → AreNumbered versions → version.etag ≡ etag_of_version (length versions + 1) → AreNumbered (versions ++ version ∷ [])
numbered_push versions version numbered is = λ place otherwise low.
    below_more (λ (k : ℕ). (get_or (versions ++ version ∷ []) k otherwise).etag ≡ etag_of_version (k + 1)) (length versions)
    (λ k h. ap (λ (v : ObjectVersion). v.etag) (get_or_append_left versions (version ∷ []) otherwise k h) ∙ numbered k otherwise h)
    (ap (λ (v : ObjectVersion). v.etag) (get_or-append_seam versions version [] otherwise) ∙ is) place
    (omega (arith, length-append versions (version ∷ [])))

pub numbered_next : (versions : List ObjectVersion) (made : Option ObjectVersion) (count now : ℕ) → AreNumbered versions → length versions ≡ count → IsNextVersion count now made → AreNumbered (versions ++ option_to_list made)
numbered_next versions None count now numbered counted next = let P : List ObjectVersion → Type 0 = λ vs. AreNumbered vs in subst P (sym (append-nil versions)) numbered
numbered_next versions (Some version) count now numbered counted next = numbered_push versions version numbered (next.0 ∙ ap (λ n. etag_of_version (n + 1)) (sym counted))

pub counted_next : (versions : List ObjectVersion) (made : Option ObjectVersion) (count now : ℕ) → length versions ≡ count → IsNextVersion count now made → length (versions ++ option_to_list made) ≡ now
counted_next versions None count now counted next = ap length (append-nil versions) ∙ counted ∙ sym next
counted_next versions (Some version) count now counted next = omega (arith, length-append versions (version ∷ []), next.1)

range_more : (from count : ℕ) → range_with_len from (suc count) ≡ range_with_len from count ++ (from + count) ∷ []
range_more from zero = ap (λ k. k ∷ []) (sym (add-zero from))
range_more from (suc count) = ap (λ rest. from ∷ rest) (range_more (from + 1) count ∙ ap (λ k. range_with_len (from + 1) count ++ k ∷ []) (omega arith))

pub ids_next : (ids : List ℕ) (made : Option ℕ) (count now : ℕ) → ids ≡ range_with_len 1 count → IsNextUpload count now made → ids ++ option_to_list made ≡ range_with_len 1 now
ids_next ids None count now numbered next = append-nil ids ∙ numbered ∙ ap (range_with_len 1) (sym next)
ids_next ids (Some upload) count now numbered next =
    let next_id : upload ≡ 1 + count = omega (arith, next.0) in
    let one_more : suc count ≡ now = omega (arith, next.1) in
    ap (λ all. all ++ upload ∷ []) numbered ∙ ap (λ k. range_with_len 1 count ++ k ∷ []) next_id ∙ sym (range_more 1 count) ∙ ap (range_with_len 1) one_more

-- no earlier version has the next version's ETag
pub next_is_new : (versions : List ObjectVersion) (count : ℕ) (v : ObjectVersion) → AreNumbered versions → length versions ≡ count → count + 1 < 2 ^ 64 → Contains versions v → v.etag ≡ etag_of_version (count + 1) → ⊥
next_is_new versions count v numbered counted small among same =
    let own : v.etag ≡ etag_of_version (among.0 + 1) = ap (λ (w : ObjectVersion). w.etag) (sym among.2) ∙ numbered among.0 v among.1 in
    let low : among.0 < length versions = among.1 in
    let clash : among.0 + 1 ≡ count + 1 = version_etags_differ (among.0 + 1) (count + 1) (omega arith) small (sym own ∙ same) in
    absurd (omega arith)

-- no earlier upload has the next id
range_below : (from count end : ℕ) → from + count ≤ end → AllByRecursion (λ id. id < end) (range_with_len from count)
range_below from zero end within = tt
range_below from (suc count) end within = (omega arith, range_below (from + 1) count end (omega arith))

module _ (P : ℕ → Type 0) where
  first_and_rest : (made : Option Name) (rest : List ℕ) → AllByRecursion P (cons_option (upload_in made) rest) → ((id : ℕ) → made ≡ Some (name.Upload id) → P id) × AllByRecursion P rest
  first_and_rest None rest all = (λ id is. absurd (cc), all)
  first_and_rest (Some (name.Version etag)) rest all = (λ id is. absurd (cc), all)
  first_and_rest (Some (name.Upload upload)) rest all = (λ id is. let same : upload ≡ id = cc in subst P same all.0, all.1)

  of_entries : (log : List Logged) → AllByRecursion P (uploads_made log) → AllByRecursion (λ logged. (id : ℕ) → logged.made ≡ Some (name.Upload id) → P id) log
  of_entries [] all = tt
  of_entries (logged ∷ log) all = let parts = first_and_rest logged.made (uploads_made log) all in (parts.0, of_entries log parts.1)

pub id_is_new : (log : List Logged) (count : ℕ) → uploads_made log ≡ range_with_len 1 count → IsNewUpload log (count + 1)
id_is_new log count numbered logged among made =
    let Below : List ℕ → Type 0 = λ ids. AllByRecursion (λ id. id < count + 1) ids in
    let Made : Logged → Type 0 = λ l. (id : ℕ) → l.made ≡ Some (name.Upload id) → id < count + 1 in
    let all = of_entries (λ id. id < count + 1) log (subst Below (sym numbered) (range_below 1 count (count + 1) (omega arith))) in
    let low : count + 1 < count + 1 = All-contains Made log logged (All-from_recursion Made log all) among (count + 1) made in
    absurd (omega arith)
