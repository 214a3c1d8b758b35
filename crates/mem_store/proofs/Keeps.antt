-- What one answered call does to what a bucket in memory keeps.
use Rattle.std.proofs.Common.{◌≡◌, ℕ, ◌≤◌, Bool, true, false, cond, IsSome, List, [], ◌∷◌, ◌++◌, length, Option, None, sym, refl, ap, ◌∙◌, subst, arith, BTreeMap}
use Rattle.std.specs.BTreeMap as tree
use Rattle.std.specs.BTreeMap.{Updates, is_at}
use Rattle.std.specs.Cmp.{eq_by_cmp_equiv}
use Rattle.std.specs.Cmp.Lexicographic.{slice_cmp, nat_list_cmp_total}
use Rattle.std.specs.FinMap as map
use Rattle.std.specs.FinMap.{get-empty}
use Rattle.std.specs.Map.{lookup}
use Rattle.std.specs.Ordering.{eq_by_cmp, nat_cmp}
use Rattle.std.proofs.lemmas.List.FromFn.{length-range_with_len}
use Rattle.mp_types.specs.Key.{IsKeyText}
use Rattle.mp_types.proofs.Texts.{same_text}
use Rattle.bucket_model.specs.declared.answer.Brief.{Brief}
use Rattle.bucket_model.specs.declared.call.Call.{Call}
use Rattle.bucket_model.specs.declared.history.Logged.{Logged}
use Rattle.bucket_model.specs.declared.history.Object.{Object}
use Rattle.bucket_model.specs.Answers.{MayBeMade, made_by}
use Rattle.bucket_model.specs.Bucket.{BucketState, empty_bucket, ObjectVersion, after, object_at, version_made}
use Rattle.bucket_model.specs.History.{replay, versions_of, IsLegalEntry, MakesName, MayAnswer}
use Rattle.mem_store.specs.Kept.{AreNumbered, IsKept, Kept}
use Rattle.mem_store.specs.Listed.{HaveKeyTexts}
use Rattle.mem_store.specs.Served.{entry_of, IsServed, Serves, upload_in, uploads_made}
use Rattle.mem_store.specs.Uploads.{Uploads}
use Rattle.mem_store.proofs.Counts.{IsNextUpload, IsNextVersion, counted_next, ids_next, numbered_next}
use Rattle.mem_store.proofs.Replay.{legal_push, replay_push, uploads_few, uploads_push, versions_push, versions_from-few}

-- the log with the entry of this call and answer
abbrev pub with_entry : List Logged → Call → Brief → List Logged
with_entry log asked answer = log ++ entry_of asked answer ∷ []

-- the call may be answered so, and what is kept then is what its entry leaves
pub record Answered (kept now : Kept) (log : List Logged) (asked : Call) (answer : Brief) : Type 0 where
  pub entry : IsLegalEntry log (entry_of asked answer)
  pub serves : (new : List Logged) → new ≡ with_entry log asked answer → Serves asked log new answer
  pub stands : (key : List ℕ) → object_at (after (replay log) (entry_of asked answer)) key ≡ tree.get (slice_cmp nat_cmp) now.objects key
  pub keys : HaveKeyTexts now.objects
  pub staged : (after (replay log) (entry_of asked answer)).uploads ≡ now.uploads
  pub version : IsNextVersion kept.versions now.versions (version_made (replay log) (entry_of asked answer))
  pub upload : IsNextUpload kept.created now.created (upload_in (made_by answer))

keeps_entry : (kept now : Kept) (log : List Logged) (asked : Call) (answer : Brief) → Answered kept now log asked answer → IsKept kept log → IsKept now (with_entry log asked answer)
keeps_entry kept now log asked answer answered before =
    let logged = entry_of asked answer in
    let Numbered : List ObjectVersion → Type 0 = λ made. AreNumbered made in
    record {
      stands = λ key. ap (λ state. object_at state key) (replay_push log logged) ∙ answered.stands key;
      keys = answered.keys;
      staged = ap (λ (state : BucketState). state.uploads) (replay_push log logged) ∙ answered.staged;
      legal = legal_push log logged before.legal answered.entry;
      numbered = subst Numbered (sym (versions_push log logged)) (numbered_next (versions_of log) _ kept.versions now.versions before.numbered before.counted answered.version);
      counted = ap length (versions_push log logged) ∙ counted_next (versions_of log) _ kept.versions now.versions before.counted answered.version;
      ids = uploads_push log logged ∙ ids_next (uploads_made log) (upload_in logged.made) kept.created now.created before.ids answered.upload;
    }

pub keeps : {kept now : Kept} {log : List Logged} {asked : Call} {answer : Brief} (new : List Logged) → Answered kept now log asked answer → IsKept kept log → new ≡ with_entry log asked answer → IsKept now new
keeps {kept} {now} {log} {asked} {answer} new answered before is =
    let P : List Logged → Type 0 = λ l. IsKept now l in
    subst P (sym is) (keeps_entry kept now log asked answer answered before)

pub served : {kept now : Kept} {log : List Logged} {asked : Call} {answer : Brief} (new : List Logged) (place : ℕ) → Answered kept now log asked answer → IsKept kept log → new ≡ with_entry log asked answer → place ≡ length log
    → IsServed asked log new place answer
served new place answered before is at_end = record {
  at_end = at_end;
  served = answered.serves new is;
  legal = (keeps new answered before is).legal;
}

-- an entry that made nothing
pub plain_entry : (log : List Logged) (asked : Call) (answer : Brief) → MayBeMade asked → MayAnswer (replay log) asked answer → made_by answer ≡ None → MakesName (replay log) asked true answer None
    → version_made (replay log) (entry_of asked answer) ≡ None → IsLegalEntry log (entry_of asked answer)
plain_entry log asked answer may answered none makes no_version = record {
  may = may;
  answered = answered;
  took = λ _. refl;
  made = subst (MakesName (replay log) asked true answer) (sym none) makes;
  one_content = λ new made. absurd (cc);
  new_upload = λ upload made. absurd (cc);
}

-- a call that changes nothing
pub reads : (kept : Kept) (log : List Logged) (asked : Call) (answer : Brief) → IsKept kept log → IsLegalEntry log (entry_of asked answer) → ((new : List Logged) → new ≡ with_entry log asked answer → Serves asked log new answer)
    → after (replay log) (entry_of asked answer) ≡ replay log → version_made (replay log) (entry_of asked answer) ≡ None → made_by answer ≡ None → Answered kept kept log asked answer
reads kept log asked answer before entry serves same no_version none = record {
  entry = entry;
  serves = serves;
  stands = λ key. ap (λ state. object_at state key) same ∙ before.stands key;
  keys = before.keys;
  staged = ap (λ (state : BucketState). state.uploads) same ∙ before.staged;
  version = subst (IsNextVersion kept.versions kept.versions) (sym no_version) refl;
  upload = subst (IsNextUpload kept.created kept.created) (sym (ap upload_in none)) refl;
}

-- a change of the object at one key
pub changed_at : (objects changed : BTreeMap (List ℕ) Object) (old new : BucketState) (key : List ℕ) (value : Option Object) → ((q : List ℕ) → object_at old q ≡ tree.get (slice_cmp nat_cmp) objects q)
    → ((q : List ℕ) → object_at new q ≡ cond (eq_by_cmp (slice_cmp nat_cmp) q key) value (object_at old q)) → Updates (slice_cmp nat_cmp) objects changed key value
    → (q : List ℕ) → object_at new q ≡ tree.get (slice_cmp nat_cmp) changed q
changed_at objects changed old new key value stands changes updates q =
    changes q ∙ ap (λ o. cond (eq_by_cmp (slice_cmp nat_cmp) q key) value o) (stands q)
    ∙ ap (λ b. cond b value (tree.get (slice_cmp nat_cmp) objects q)) ((eq_by_cmp_equiv nat_list_cmp_total).symm q key) ∙ sym (updates.0 q)

-- keys stay as long as keys may be
some_at : (q key : List ℕ) (b : Bool) (value stood : Option Object) → eq_by_cmp (slice_cmp nat_cmp) key q ≡ b → IsKeyText key → (IsSome stood → IsKeyText q) → IsSome (cond b value stood) → IsKeyText q
some_at q key true value stood at fits old some =
    let P : List ℕ → Type 0 = λ k. IsKeyText k in
    subst P (same_text key q at) fits
some_at q key false value stood at fits old some = old some

pub some_along : (a b : Option Object) → a ≡ b → IsSome a → IsSome b
some_along a b is some = let P : Option Object → Type 0 = λ o. IsSome o in subst P is some

pub keys_at : (objects changed : BTreeMap (List ℕ) Object) (key : List ℕ) (value : Option Object) → HaveKeyTexts objects → IsKeyText key → Updates (slice_cmp nat_cmp) objects changed key value → HaveKeyTexts changed
keys_at objects changed key value keys fits updates = λ q some. some_at q key (eq_by_cmp (slice_cmp nat_cmp) key q) value (tree.get (slice_cmp nat_cmp) objects q) refl fits (keys q) (some_along _ _ (updates.0 q) some)

none_some : (o : Option Object) → o ≡ None → IsSome o → ⊥
none_some o none some = absurd (cc)

-- a key less
keys_less_at : (q key : List ℕ) (b : Bool) (stood : Option Object) → (IsSome stood → IsKeyText q) → IsSome (cond b None stood) → IsKeyText q
keys_less_at q key true stood old some = absurd (none_some None refl some)
keys_less_at q key false stood old some = old some

pub keys_less : (objects changed : BTreeMap (List ℕ) Object) (key : List ℕ) → HaveKeyTexts objects → Updates (slice_cmp nat_cmp) objects changed key None → HaveKeyTexts changed
keys_less objects changed key keys updates = λ q some. keys_less_at q key (eq_by_cmp (slice_cmp nat_cmp) key q) (tree.get (slice_cmp nat_cmp) objects q) (keys q) (some_along _ _ (updates.0 q) some)

-- each entry makes at most one version and one upload
pub few_versions : (kept : Kept) (log : List Logged) → IsKept kept log → kept.versions ≤ length log
few_versions kept log before = omega (arith, before.counted, versions_from-few empty_bucket log)

pub few_uploads : (kept : Kept) (log : List Logged) → IsKept kept log → kept.created ≤ length log
few_uploads kept log before = omega (arith, ap length before.ids, length-range_with_len 1 kept.created, uploads_few log)

-- a new bucket
empty_get : (objects : BTreeMap (List ℕ) Object) (key : List ℕ) → objects.entries ≡ [] → tree.get (slice_cmp nat_cmp) objects key ≡ None
empty_get objects key none = ap (λ entries. lookup (is_at (slice_cmp nat_cmp key)) entries) none

empty_keeps : (objects : BTreeMap (List ℕ) Object) (uploads : Uploads) → objects.entries ≡ [] → uploads ≡ map.empty → IsKept (record { objects = objects; uploads = uploads; versions = 0; created = 0 }) []
empty_keeps objects uploads none no_uploads = record {
  stands = λ key. get-empty (slice_cmp nat_cmp) key ∙ sym (empty_get objects key none);
  keys = λ key some. absurd (none_some _ (empty_get objects key none) some);
  staged = sym no_uploads;
  legal = tt;
  numbered = λ place otherwise low. absurd (omega arith);
  counted = refl;
  ids = refl;
}

pub new_keeps : (objects : BTreeMap (List ℕ) Object) (uploads : Uploads) (log : List Logged) → objects.entries ≡ [] → uploads ≡ map.empty → log ≡ []
    → IsKept (record { objects = objects; uploads = uploads; versions = 0; created = 0 }) log
new_keeps objects uploads log none no_uploads empty =
    let P : List Logged → Type 0 = λ l. IsKept (record { objects = objects; uploads = uploads; versions = 0; created = 0 }) l in
    subst P (sym empty) (empty_keeps objects uploads none no_uploads)
