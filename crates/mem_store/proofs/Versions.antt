-- Each object that a legal history leaves is a version, and the first with its key and its ETag.
use Rattle.std.proofs.Common.{◌≡◌, ℕ, Bool, true, false, cond, List, [], ◌∷◌, ◌++◌, Option, Some, None, sym, refl, ap, ◌∙◌, subst, append_assoc, append-nil, arith, suc}
use Rattle.std.specs.Cmp.Lexicographic.{slice_cmp, pointwise, nat_list_cmp_total}
use Rattle.std.specs.FinMap.{get-empty, get-insert, get-remove}
use Rattle.std.specs.List.{find, Contains}
use Rattle.std.specs.Option.{option_map, option_or, option_to_list}
use Rattle.std.specs.Ordering.{eq_by_cmp, nat_cmp}
use Rattle.std.specs.Prelude.{nat_eq}
use Rattle.std.proofs.lemmas.Bool.{and_from, and_parts}
use Rattle.std.proofs.lemmas.List.Folds.{find-append}
use Rattle.std.proofs.lemmas.Slice.Eq.{bytes_eq-Decides}
use Rattle.mp_types.proofs.Texts.{same_text}
use Rattle.bucket_model.specs.declared.answer.Brief.{Brief}
use Rattle.bucket_model.specs.declared.call.Call.{Call}
use Rattle.bucket_model.specs.declared.call.Call.TheVariants as call
use Rattle.bucket_model.specs.declared.call.Call.TheVariants.{Head, Probe, Get, Delete, Put, Create, Part, Complete, Abort}
use Rattle.bucket_model.specs.declared.history.Logged.{Logged}
use Rattle.bucket_model.specs.declared.history.Name.{Name}
use Rattle.bucket_model.specs.declared.history.Name.TheVariants.{Version, Upload}
use Rattle.bucket_model.specs.declared.history.Object.{Object}
use Rattle.bucket_model.specs.Along.{Along}
use Rattle.bucket_model.specs.Bucket.{BucketState, ObjectVersion, Staged, after, after_call, completed, empty_bucket, is_version, object_at, upload_at, version_at, version_made, with_part, with_upload, with_version, without_upload}
use Rattle.bucket_model.specs.History.{IsLegalEntry, IsLegalHistory, IsOneContent, replay, versions_of}
use Rattle.mem_store.proofs.Replay.{replay_push, versions_push}

-- what is found stands in the list and passes the test
found_by : {X : Type 0} (test : X → Bool) (first x : X) (rest : List X) (b : Bool) → test first ≡ b → cond b (Some first) (find test rest) ≡ Some x → (find test rest ≡ Some x → Contains rest x × (test x ≡ true)) → Contains (first ∷ rest) x × (test x ≡ true)
found_by test first x rest true passes is more = let same : first ≡ x = cc in ((0, omega arith, same), ap test (sym same) ∙ passes)
found_by test first x rest false passes is more = let further = more is in ((suc further.0.0, omega (arith, further.0.1), further.0.2), further.1)

pub found : {X : Type 0} (test : X → Bool) (items : List X) (x : X) → find test items ≡ Some x → Contains items x × (test x ≡ true)
found test [] x is = absurd (cc)
found test (first ∷ rest) x is = found_by test first x rest (test first) refl is (λ further. found test rest x further)

-- the first version stays the first
mapped_or : (o other : Option ObjectVersion) (bytes : List ℕ) → option_map (λ v. v.bytes) o ≡ Some bytes → option_map (λ v. v.bytes) (option_or o other) ≡ Some bytes
mapped_or None other bytes is = absurd (cc)
mapped_or (Some v) other bytes is = is

first_stays : (versions more : List ObjectVersion) (key etag bytes : List ℕ) → version_at versions key etag ≡ Some bytes → version_at (versions ++ more) key etag ≡ Some bytes
first_stays versions more key etag bytes is =
    ap (option_map (λ (v : ObjectVersion). v.bytes)) (find-append (is_version key etag) versions more)
    ∙ mapped_or (find (is_version key etag) versions) (find (is_version key etag) more) bytes is

-- a new version is the first, or has the first one's bytes
is_itself : (v : ObjectVersion) → is_version v.key v.etag v ≡ true
is_itself v = and_from (pointwise nat_eq v.key v.key) (pointwise nat_eq v.etag v.etag) ((bytes_eq-Decides v.key v.key).1 refl) ((bytes_eq-Decides v.etag v.etag).1 refl)

same_names : (key etag : List ℕ) (v : ObjectVersion) → is_version key etag v ≡ true → (v.key ≡ key) × (v.etag ≡ etag)
same_names key etag v is =
    let parts = and_parts (pointwise nat_eq v.key key) (pointwise nat_eq v.etag etag) is in
    ((bytes_eq-Decides v.key key).0 parts.0, (bytes_eq-Decides v.etag etag).0 parts.1)

new_or_first : (versions : List ObjectVersion) (new : ObjectVersion) (o : Option ObjectVersion) → find (is_version new.key new.etag) versions ≡ o → IsOneContent versions new
    → option_map (λ v. v.bytes) (option_or o (find (is_version new.key new.etag) (new ∷ []))) ≡ Some new.bytes
new_or_first versions new None is one = ap (λ b. option_map (λ (v : ObjectVersion). v.bytes) (cond b (Some new) None)) (is_itself new)
new_or_first versions new (Some v) is one =
    let here = found (is_version new.key new.etag) versions v is in
    let names = same_names new.key new.etag v here.1 in
    ap Some (one v here.0 names.0 names.1)

new_stands : (versions : List ObjectVersion) (new : ObjectVersion) → IsOneContent versions new → version_at (versions ++ new ∷ []) new.key new.etag ≡ Some new.bytes
new_stands versions new one =
    ap (option_map (λ (v : ObjectVersion). v.bytes)) (find-append (is_version new.key new.etag) versions (new ∷ []))
    ∙ new_or_first versions new (find (is_version new.key new.etag) versions) refl one

-- each object that stands is one of the versions
abbrev pub AreVersions : BucketState → List ObjectVersion → Type 0
AreVersions state versions = (key : List ℕ) (object : Object) → object_at state key ≡ Some object → version_at versions key object.etag ≡ Some object.bytes

no_new : (state : BucketState) (versions : List ObjectVersion) → AreVersions state versions → AreVersions state (versions ++ [])
no_new state versions are = λ key object is. first_stays versions [] key object.etag object.bytes (are key object is)

left : (b : Bool) (o : Option Object) (object : Object) → cond b None o ≡ Some object → o ≡ Some object
left true o object is = absurd (cc)
left false o object is = is

version_stands : (state : BucketState) (versions : List ObjectVersion) (new : ObjectVersion) (q : List ℕ) (object : Object) (b : Bool) → eq_by_cmp (slice_cmp nat_cmp) q new.key ≡ b
    → AreVersions state versions → IsOneContent versions new → cond b (Some (record { etag = new.etag; bytes = new.bytes })) (object_at state q) ≡ Some object
    → version_at (versions ++ new ∷ []) q object.etag ≡ Some object.bytes
version_stands state versions new q object true at are one is =
    let made : Object = record { etag = new.etag; bytes = new.bytes } in
    let same : made ≡ object = cc in
    let P : List ℕ → Type 0 = λ k. version_at (versions ++ new ∷ []) k object.etag ≡ Some object.bytes in
    let Q : Object → Type 0 = λ o. version_at (versions ++ new ∷ []) new.key o.etag ≡ Some o.bytes in
    subst P (sym (same_text q new.key at)) (subst Q same (new_stands versions new one))
version_stands state versions new q object false at are one is = first_stays versions (new ∷ []) q object.etag object.bytes (are q object is)

-- where a version was made, if one was
after_version : (state : BucketState) (versions : List ObjectVersion) (made : Option ObjectVersion) → AreVersions state versions → ((new : ObjectVersion) → made ≡ Some new → IsOneContent versions new)
    → AreVersions (with_version state made) (versions ++ option_to_list made)
after_version state versions None are one = no_new state versions are
after_version state versions (Some new) are one = λ q object is.
    version_stands state versions new q object (eq_by_cmp (slice_cmp nat_cmp) q new.key) refl are (one new refl)
    (sym (get-insert nat_list_cmp_total state.objects new.key (record { etag = new.etag; bytes = new.bytes }) q) ∙ is)

after_complete : (state : BucketState) (versions : List ObjectVersion) (upload : ℕ) (made : Option ObjectVersion) → AreVersions state versions → ((new : ObjectVersion) → made ≡ Some new → IsOneContent versions new)
    → AreVersions (completed state upload made) (versions ++ option_to_list made)
after_complete state versions upload None are one = no_new state versions are
after_complete state versions upload (Some new) are one = after_version (without_upload state upload) versions (Some new) are one

after_create : (state : BucketState) (versions : List ObjectVersion) (key : List ℕ) (made : Option Name) → AreVersions state versions → AreVersions (with_upload state key made) versions
after_create state versions key None are = are
after_create state versions key (Some (Version etag)) are = are
after_create state versions key (Some (Upload upload)) are = are

after_part : (state : BucketState) (versions : List ObjectVersion) (upload number : ℕ) (bytes : List ℕ) (staged : Option Staged) → AreVersions state versions → AreVersions (with_part state upload number bytes staged) versions
after_part state versions upload number bytes None are = are
after_part state versions upload number bytes (Some staged) are = are

-- a call that took effect
after_taken : (state : BucketState) (versions : List ObjectVersion) (call : Call) (answer : Brief) (took : Bool) (made : Option Name)
    → AreVersions state versions
    → ((new : ObjectVersion) → version_made state (record { entry = record { call = call; answer = answer; took = took }; made = made }) ≡ Some new → IsOneContent versions new)
    → AreVersions (after_call state (record { entry = record { call = call; answer = answer; took = took }; made = made }))
    (versions ++ option_to_list (version_made state (record { entry = record { call = call; answer = answer; took = took }; made = made })))
after_taken state versions (Head key) answer took made are one = no_new state versions are
after_taken state versions (Probe key) answer took made are one = no_new state versions are
after_taken state versions (call.List prefix after max) answer took made are one = no_new state versions are
after_taken state versions (Get key etag from to) answer took made are one = no_new state versions are
after_taken state versions (Delete key) answer took made are one = λ q object is.
    let stood = left (eq_by_cmp (slice_cmp nat_cmp) q key) (object_at state q) object (sym (get-remove nat_list_cmp_total state.objects key q) ∙ is) in
    first_stays versions [] q object.etag object.bytes (are q object stood)
after_taken state versions (Put key bytes) answer took made are one = after_version state versions _ are one
after_taken state versions (Create key) answer took made are one = no_new (with_upload state key made) versions (after_create state versions key made are)
after_taken state versions (Part upload number bytes) answer took made are one = no_new (with_part state upload number bytes (upload_at state upload)) versions (after_part state versions upload number bytes (upload_at state upload) are)
after_taken state versions (Complete upload parts) answer took made are one = after_complete state versions upload _ are one
after_taken state versions (Abort upload) answer took made are one = no_new (without_upload state upload) versions are

-- one more entry
after_effect : (state : BucketState) (versions : List ObjectVersion) (call : Call) (answer : Brief) (took : Bool) (made : Option Name)
    → AreVersions state versions
    → ((new : ObjectVersion) → version_made state (record { entry = record { call = call; answer = answer; took = took }; made = made }) ≡ Some new → IsOneContent versions new)
    → AreVersions (after state (record { entry = record { call = call; answer = answer; took = took }; made = made }))
    (versions ++ option_to_list (version_made state (record { entry = record { call = call; answer = answer; took = took }; made = made })))
after_effect state versions call answer true made are one = after_taken state versions call answer true made are one
after_effect state versions call answer false made are one = λ key object is. first_stays versions _ key object.etag object.bytes (are key object is)

after_entry : (state : BucketState) (versions : List ObjectVersion) (logged : Logged) → AreVersions state versions
    → ((new : ObjectVersion) → version_made state logged ≡ Some new → IsOneContent versions new)
    → AreVersions (after state logged) (versions ++ option_to_list (version_made state logged))
after_entry state versions logged are one = after_effect state versions logged.entry.call logged.entry.answer logged.entry.took logged.made are one

after_push : (past : List Logged) (logged : Logged) → AreVersions (replay past) (versions_of past) → IsLegalEntry past logged → AreVersions (replay (past ++ logged ∷ [])) (versions_of (past ++ logged ∷ []))
after_push past logged are legal =
    let P : BucketState → Type 0 = λ state. AreVersions state (versions_of (past ++ logged ∷ [])) in
    let Q : List ObjectVersion → Type 0 = λ versions. AreVersions (after (replay past) logged) versions in
    subst P (sym (replay_push past logged)) (subst Q (sym (versions_push past logged)) (after_entry (replay past) (versions_of past) logged are legal.one_content))

after_all : (past log : List Logged) → AreVersions (replay past) (versions_of past) → Along IsLegalEntry (λ past logged. past ++ logged ∷ []) past log → AreVersions (replay (past ++ log)) (versions_of (past ++ log))
after_all past [] are legal =
    let P : List Logged → Type 0 = λ all. AreVersions (replay all) (versions_of all) in
    subst P (sym (append-nil past)) are
after_all past (logged ∷ log) are legal =
    let P : List Logged → Type 0 = λ all. AreVersions (replay all) (versions_of all) in
    subst P (append_assoc past (logged ∷ []) log) (after_all (past ++ logged ∷ []) log (after_push past logged are legal.0) legal.1)

none_at_first : AreVersions empty_bucket []
none_at_first key object is = absurd (no_object (object_at empty_bucket key) object (get-empty (slice_cmp nat_cmp) key) is)
  where
    no_object : (o : Option Object) (object : Object) → o ≡ None → o ≡ Some object → ⊥
    no_object o object none some = cc

pub objects_are_versions : (log : List Logged) → IsLegalHistory log → AreVersions (replay log) (versions_of log)
objects_are_versions log legal = after_all [] log none_at_first legal
