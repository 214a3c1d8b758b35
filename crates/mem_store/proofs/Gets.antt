-- What GetObject does to what a bucket in memory keeps, and whose bytes it brings.
use Rattle.std.proofs.Common.{◌≡◌, ℕ, ◌<◌, ◌-◌, Bool, true, false, ◌&&◌, cond, List, length, Option, Some, None, sym, refl, ap, ◌∙◌, subst, ◌≤◌, drop, append-nil, arith}
use Rattle.std.specs.BTreeMap as tree
use Rattle.std.specs.Cmp.Lexicographic.{slice_cmp, pointwise}
use Rattle.std.specs.List.{slice_range}
use Rattle.std.specs.Option.{option_map}
use Rattle.std.specs.Ordering.{nat_cmp}
use Rattle.std.specs.Prelude.{nat_eq, nat_le}
use Rattle.std.proofs.lemmas.Bool.{and_parts, leb-true}
use Rattle.std.proofs.lemmas.List.{length-drop, length-take-le}
use Rattle.std.proofs.lemmas.Slice.Eq.{bytes_eq-Decides}
use Rattle.bucket_model.specs.declared.answer.Answer.{Answer}
use Rattle.bucket_model.specs.declared.answer.Answer.TheVariants as answer
use Rattle.bucket_model.specs.declared.answer.Brief.TheVariants.{Bytes, Changed}
use Rattle.bucket_model.specs.declared.call.Call.TheVariants.{Get}
use Rattle.bucket_model.specs.declared.history.Logged.{Logged}
use Rattle.bucket_model.specs.declared.history.Object.{Object}
use Rattle.bucket_model.specs.Answers.{brief_of}
use Rattle.bucket_model.specs.Bucket.{ObjectVersion, get_of, IsAnswer, IsSlice, object_at, version_at}
use Rattle.bucket_model.specs.History.{replay, versions_of}
use Rattle.mem_store.specs.Kept.{IsKept, Kept}
use Rattle.mem_store.specs.Served.{answer_of_get, entry_of}
use Rattle.mem_store.proofs.Keeps.{Answered, plain_entry, reads, with_entry}
use Rattle.mem_store.proofs.Replay.{versions_push}
use Rattle.mem_store.proofs.Versions.{AreVersions, objects_are_versions}

-- the object has the ETag, and reaches to the range's end
abbrev has_range : List ℕ → ℕ → Object → Bool
has_range etag to object = pointwise nat_eq object.etag etag && nat_le to (length object.bytes)

-- a get is answered in one of three ways
by_test : (P : Answer → Type 0) (bytes : List ℕ) (b : Bool) → P answer.Changed → P (answer.Bytes bytes) → P (cond b (answer.Bytes bytes) answer.Changed)
by_test P bytes true changed brings = brings
by_test P bytes false changed brings = changed

by_answer : (P : Answer → Type 0) (etag : List ℕ) (from to : ℕ) (object : Option Object) → P answer.Missing → P answer.Changed → ((bytes : List ℕ) → P (answer.Bytes bytes)) → P (answer_of_get etag from to object)
by_answer P etag from to None missing changed brings = missing
by_answer P etag from to (Some object) missing changed brings = by_test P (slice_range object.bytes from to) (has_range etag to object) changed (brings (slice_range object.bytes from to))

-- in brief it is the documented answer
brief_by_test : (etag : List ℕ) (from to : ℕ) (object : Object) (b : Bool) → has_range etag to object ≡ b → brief_of (cond b (answer.Bytes (slice_range object.bytes from to)) answer.Changed) ≡ cond b (Bytes (to - from)) Changed
brief_by_test etag from to object false is = refl
brief_by_test etag from to object true is =
    let parts = and_parts (pointwise nat_eq object.etag etag) (nat_le to (length object.bytes)) is in
    let reaches : to ≤ length object.bytes = leb-true to (length object.bytes) parts.1 in
    let enough : to - from ≤ length (drop from object.bytes) = omega (arith, length-drop from object.bytes) in
    ap Bytes (length-take-le (to - from) (drop from object.bytes) enough)

get_brief : (etag : List ℕ) (from to : ℕ) (object : Option Object) → brief_of (answer_of_get etag from to object) ≡ get_of etag from to object
get_brief etag from to None = refl
get_brief etag from to (Some object) = brief_by_test etag from to object (has_range etag to object) refl

get_at : (kept : Kept) (log : List Logged) (key etag : List ℕ) (from to : ℕ) (object : Option Object) → from < to → IsKept kept log → object_at (replay log) key ≡ object
    → Answered kept kept log (Get key etag from to) (brief_of (answer_of_get etag from to object))
get_at kept log key etag from to object low before is =
    let P : Answer → Type 0 = λ said. IsAnswer (replay log) (Get key etag from to) (brief_of said) → Answered kept kept log (Get key etag from to) (brief_of said) in
    by_answer P etag from to object
    (λ e. reads kept log (Get key etag from to) _ before (plain_entry log (Get key etag from to) _ low e refl refl refl) (λ new new_is. (e, new_is)) refl refl refl)
    (λ e. reads kept log (Get key etag from to) _ before (plain_entry log (Get key etag from to) _ low e refl refl refl) (λ new new_is. (e, new_is)) refl refl refl)
    (λ bytes e. reads kept log (Get key etag from to) _ before (plain_entry log (Get key etag from to) _ low e refl refl refl) (λ new new_is. (e, new_is)) refl refl refl)
    (get_brief etag from to object ∙ ap (get_of etag from to) (sym is))

pub get_answered : (kept : Kept) (log : List Logged) (key etag : List ℕ) (from to : ℕ) (said : Answer) → from < to → IsKept kept log
    → said ≡ answer_of_get etag from to (tree.get (slice_cmp nat_cmp) kept.objects key) → Answered kept kept log (Get key etag from to) (brief_of said)
get_answered kept log key etag from to said low before answers =
    let P : Answer → Type 0 = λ a. Answered kept kept log (Get key etag from to) (brief_of a) in
    subst P (sym answers) (get_at kept log key etag from to _ low before (before.stands key))

-- the bytes are those of the version
slice_by_test : (versions : List ObjectVersion) (key etag : List ℕ) (from to : ℕ) (object : Object) (b : Bool) → has_range etag to object ≡ b → version_at versions key object.etag ≡ Some object.bytes
    → IsSlice versions (Get key etag from to) (cond b (answer.Bytes (slice_range object.bytes from to)) answer.Changed)
slice_by_test versions key etag from to object false is stands = tt
slice_by_test versions key etag from to object true is stands =
    let parts = and_parts (pointwise nat_eq object.etag etag) (nat_le to (length object.bytes)) is in
    let same : object.etag ≡ etag = (bytes_eq-Decides object.etag etag).0 parts.0 in
    let P : List ℕ → Type 0 = λ e. version_at versions key e ≡ Some object.bytes in
    ap (option_map (λ bytes. slice_range bytes from to)) (subst P same stands)

slice_of : (versions : List ObjectVersion) (key etag : List ℕ) (from to : ℕ) (object : Option Object) → ((o : Object) → object ≡ Some o → version_at versions key o.etag ≡ Some o.bytes)
    → IsSlice versions (Get key etag from to) (answer_of_get etag from to object)
slice_of versions key etag from to None stands = tt
slice_of versions key etag from to (Some object) stands = slice_by_test versions key etag from to object (has_range etag to object) refl (stands object refl)

pub get_slice : (kept : Kept) (log new : List Logged) (key etag : List ℕ) (from to : ℕ) (said : Answer) → IsKept kept log
    → said ≡ answer_of_get etag from to (tree.get (slice_cmp nat_cmp) kept.objects key) → new ≡ with_entry log (Get key etag from to) (brief_of said) → IsSlice (versions_of new) (Get key etag from to) said
get_slice kept log new key etag from to said before answers is =
    let are : AreVersions (replay log) (versions_of log) = objects_are_versions log before.legal in
    let P : Answer → Type 0 = λ a. IsSlice (versions_of log) (Get key etag from to) a in
    let Q : List ObjectVersion → Type 0 = λ vs. IsSlice vs (Get key etag from to) said in
    subst Q (sym (ap versions_of is ∙ versions_push log (entry_of (Get key etag from to) (brief_of said)) ∙ append-nil (versions_of log)))
    (subst P (sym answers) (slice_of (versions_of log) key etag from to _ (λ o stands. are key o (before.stands key ∙ stands))))
