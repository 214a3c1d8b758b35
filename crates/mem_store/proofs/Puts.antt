-- What PutObject and DeleteObject do to what a bucket in memory keeps.
use Rattle.std.proofs.Common.{◌≡◌, ℕ, ◌+◌, ◌<◌, ◌^◌, List, Some, None, sym, refl, ap, ◌∙◌, subst, BTreeMap}
use Rattle.std.specs.BTreeMap as tree
use Rattle.std.specs.BTreeMap.{Updates}
use Rattle.std.specs.Cmp.Lexicographic.{slice_cmp, nat_list_cmp_total}
use Rattle.std.specs.FinMap.{get-insert, get-remove}
use Rattle.std.specs.Ordering.{nat_cmp}
use Rattle.mp_types.specs.Key.{IsKeyText}
use Rattle.bucket_model.specs.declared.answer.Brief.TheVariants.{Gone, Made}
use Rattle.bucket_model.specs.declared.call.Call.TheVariants.{Delete, Put}
use Rattle.bucket_model.specs.declared.history.Logged.{Logged}
use Rattle.bucket_model.specs.declared.history.Object.{Object}
use Rattle.bucket_model.specs.Bucket.{BucketState, ObjectVersion, object_at, with_version, without_object}
use Rattle.bucket_model.specs.History.{IsOneContent, replay, versions_of}
use Rattle.mem_store.specs.Kept.{IsKept, Kept}
use Rattle.mem_store.specs.Served.{etag_of_version}
use Rattle.mem_store.proofs.Counts.{next_is_new}
use Rattle.mem_store.proofs.Keeps.{Answered, changed_at, keys_at, keys_less, plain_entry}

-- the next version at this key
abbrev pub next_version : Kept → List ℕ → List ℕ → ObjectVersion
next_version kept key bytes = record { key = key; etag = etag_of_version (kept.versions + 1); bytes = bytes }

abbrev pub next_object : Kept → List ℕ → Object
next_object kept bytes = record { etag = etag_of_version (kept.versions + 1); bytes = bytes }

pub next_one_content : (kept : Kept) (log : List Logged) (key bytes : List ℕ) → IsKept kept log → kept.versions + 1 < 2 ^ 64 → (new : ObjectVersion) → Some (next_version kept key bytes) ≡ Some new → IsOneContent (versions_of log) new
next_one_content kept log key bytes before small new made = λ v among _ same.
    let is : next_version kept key bytes ≡ new = cc in
    absurd (next_is_new (versions_of log) kept.versions v before.numbered before.counted small among (same ∙ ap (λ (w : ObjectVersion). w.etag) (sym is)))

pub next_stands : (kept : Kept) (state : BucketState) (changed : BTreeMap (List ℕ) Object) (log : List Logged) (key bytes : List ℕ) → IsKept kept log → ((q : List ℕ) → object_at state q ≡ object_at (replay log) q)
    → Updates (slice_cmp nat_cmp) kept.objects changed key (Some (next_object kept bytes)) → (q : List ℕ) → object_at (with_version state (Some (next_version kept key bytes))) q ≡ tree.get (slice_cmp nat_cmp) changed q
next_stands kept state changed log key bytes before same updates =
    changed_at kept.objects changed state (with_version state (Some (next_version kept key bytes))) key (Some (next_object kept bytes)) (λ q. same q ∙ before.stands q)
    (λ q. get-insert nat_list_cmp_total state.objects key (next_object kept bytes) q) updates

put_next : (kept : Kept) (changed : BTreeMap (List ℕ) Object) (log : List Logged) (key bytes : List ℕ) → IsKept kept log → kept.versions + 1 < 2 ^ 64 → IsKeyText key
    → Updates (slice_cmp nat_cmp) kept.objects changed key (Some (next_object kept bytes))
    → Answered kept (record kept { objects = changed; versions = kept.versions + 1 }) log (Put key bytes) (Made (etag_of_version (kept.versions + 1)))
put_next kept changed log key bytes before small fits updates = record {
  entry = record {
    may = tt;
    answered = tt;
    took = λ _. refl;
    made = refl;
    one_content = next_one_content kept log key bytes before small;
    new_upload = λ upload made. absurd (cc);
  };
  serves = λ new is. ((tt, is), ap (λ n. etag_of_version (n + 1)) (sym before.counted));
  stands = next_stands kept (replay log) changed log key bytes before (λ q. refl) updates;
  keys = keys_at kept.objects changed key _ before.keys fits updates;
  staged = before.staged;
  version = (refl, refl);
  upload = refl;
}

pub put_answered : (kept : Kept) (changed : BTreeMap (List ℕ) Object) (log : List Logged) (key bytes etag : List ℕ) → IsKept kept log → kept.versions + 1 < 2 ^ 64 → IsKeyText key
    → etag ≡ etag_of_version (kept.versions + 1) → Updates (slice_cmp nat_cmp) kept.objects changed key (Some (next_object kept bytes))
    → Answered kept (record kept { objects = changed; versions = kept.versions + 1 }) log (Put key bytes) (Made etag)
put_answered kept changed log key bytes etag before small fits etag_is updates =
    let P : List ℕ → Type 0 = λ e. Answered kept (record kept { objects = changed; versions = kept.versions + 1 }) log (Put key bytes) (Made e) in
    subst P (sym etag_is) (put_next kept changed log key bytes before small fits updates)

pub delete_answered : (kept : Kept) (changed : BTreeMap (List ℕ) Object) (log : List Logged) (key : List ℕ) → IsKept kept log → Updates (slice_cmp nat_cmp) kept.objects changed key None
    → Answered kept (record kept { objects = changed }) log (Delete key) Gone
delete_answered kept changed log key before updates = record {
  entry = plain_entry log (Delete key) Gone tt refl refl refl refl;
  serves = λ new is. (refl, is);
  stands = changed_at kept.objects changed (replay log) (without_object (replay log) key) key None before.stands (λ q. get-remove nat_list_cmp_total (replay log).objects key q) updates;
  keys = keys_less kept.objects changed key before.keys updates;
  staged = before.staged;
  version = refl;
  upload = refl;
}
