-- What calls of uploads do to what a bucket in memory keeps.
use Rattle.std.proofs.Common.{◌≡◌, ℕ, ◌+◌, ◌<◌, ◌≤◌, ◌^◌, List, Option, Some, None, IsSome, length, sym, refl, ap, ◌∙◌, subst, BTreeMap}
use Rattle.std.specs.BTreeMap.{is_at}
use Rattle.std.specs.Cmp.Lexicographic.{slice_cmp}
use Rattle.std.specs.FinMap as map
use Rattle.std.specs.Map.{lookup}
use Rattle.std.specs.Ordering.{nat_cmp}
use Rattle.bucket_model.specs.declared.answer.Brief.{Brief}
use Rattle.bucket_model.specs.declared.answer.Brief.TheVariants.{Gone, Made, NoUpload, Stored, Upload}
use Rattle.bucket_model.specs.declared.call.Call.TheVariants.{Abort, Complete, Create, Part}
use Rattle.bucket_model.specs.declared.history.Logged.{Logged}
use Rattle.bucket_model.specs.declared.history.Name.TheVariants as name
use Rattle.bucket_model.specs.declared.history.Object.{Object}
use Rattle.bucket_model.specs.Answers.{max_parts}
use Rattle.bucket_model.specs.Bucket.{BucketState, IsComplete, Staged, Whole, completed, object_at, staged_or_not, upload_at, version_completed, whole_of, without_upload}
use Rattle.bucket_model.specs.Bucket as bucket
use Rattle.bucket_model.specs.History.{IsNewUpload, MakesWhole, replay}
use Rattle.mem_store.specs.Kept.{IsKept, Kept}
use Rattle.mem_store.specs.Served.{etag_of_version}
use Rattle.mem_store.specs.Uploads.{Completes, Uploads, with_part}
use Rattle.mem_store.proofs.Counts.{IsNextVersion, id_is_new}
use Rattle.mem_store.proofs.Keeps.{Answered, keys_at, plain_entry}
use Rattle.mem_store.proofs.Puts.{next_one_content, next_stands, next_version}
use Rattle.std.proofs.lemmas.List.FromFn.{length-range_with_len}

-- CreateMultipartUpload
pub create_answered : (kept : Kept) (uploads : Uploads) (log : List Logged) (key : List ℕ) → IsKept kept log → uploads ≡ map.insert kept.uploads (kept.created + 1) (record { key = key; parts = map.empty })
    → Answered kept (record kept { uploads = uploads; created = kept.created + 1 }) log (Create key) (Upload (kept.created + 1))
create_answered kept uploads log key before is = record {
  entry = record {
    may = tt;
    answered = tt;
    took = λ _. refl;
    made = refl;
    one_content = λ new made. absurd (cc);
    new_upload = λ upload made.
        let same : kept.created + 1 ≡ upload = cc in
        let P : ℕ → Type 0 = λ id. IsNewUpload log id in
        subst P same (id_is_new log kept.created before.ids);
  };
  serves = λ new new_is. ((tt, new_is), ap (λ n. n + 1) (sym (length-range_with_len 1 kept.created) ∙ ap length (sym before.ids)));
  stands = before.stands;
  keys = before.keys;
  staged = ap (λ m. map.insert m (kept.created + 1) (record { key = key; parts = map.empty })) before.staged ∙ sym is;
  version = refl;
  upload = (refl, refl);
}

-- what an upload is, where what is kept is what the log leaves
kept_upload : (kept : Kept) (log : List Logged) (upload : ℕ) (staged : Option Staged) → IsKept kept log → map.get kept.uploads upload ≡ staged → upload_at (replay log) upload ≡ staged
kept_upload kept log upload staged before is = ap (λ m. map.get m upload) before.staged ∙ is

-- UploadPart
objects_stay : (state : BucketState) (upload number : ℕ) (bytes : List ℕ) (staged : Option Staged) (q : List ℕ) → object_at (bucket.with_part state upload number bytes staged) q ≡ object_at state q
objects_stay state upload number bytes None q = refl
objects_stay state upload number bytes (Some staged) q = refl

uploads_with : (state : BucketState) (upload number : ℕ) (bytes : List ℕ) (staged : Option Staged) → (bucket.with_part state upload number bytes staged).uploads ≡ with_part state.uploads upload number bytes staged
uploads_with state upload number bytes None = refl
uploads_with state upload number bytes (Some staged) = refl

part_uploads : (kept : Kept) (uploads : Uploads) (log : List Logged) (upload number : ℕ) (bytes : List ℕ) (staged : Option Staged) → IsKept kept log → upload_at (replay log) upload ≡ staged
    → uploads ≡ with_part kept.uploads upload number bytes staged → (bucket.with_part (replay log) upload number bytes (upload_at (replay log) upload)).uploads ≡ uploads
part_uploads kept uploads log upload number bytes staged before at is =
    uploads_with (replay log) upload number bytes (upload_at (replay log) upload)
    ∙ ap (with_part (replay log).uploads upload number bytes) at
    ∙ ap (λ m. with_part m upload number bytes staged) before.staged
    ∙ sym is

part_at : (kept : Kept) (uploads : Uploads) (log : List Logged) (upload number : ℕ) (bytes : List ℕ) (staged : Option Staged) → 1 ≤ number → number ≤ max_parts → IsKept kept log → upload_at (replay log) upload ≡ staged
    → uploads ≡ with_part kept.uploads upload number bytes staged → Answered kept (record kept { uploads = uploads }) log (Part upload number bytes) (staged_or_not Stored staged)
part_at kept uploads log upload number bytes None low high before at is = record {
  entry = plain_entry log (Part upload number bytes) NoUpload (low, high) (ap (staged_or_not Stored) (sym at)) refl refl refl;
  serves = λ new new_is. (ap (staged_or_not Stored) (sym at), new_is);
  stands = λ q. objects_stay (replay log) upload number bytes (upload_at (replay log) upload) q ∙ before.stands q;
  keys = before.keys;
  staged = part_uploads kept uploads log upload number bytes None before at is;
  version = refl;
  upload = refl;
}
part_at kept uploads log upload number bytes (Some staged) low high before at is = record {
  entry = plain_entry log (Part upload number bytes) Stored (low, high) (ap (staged_or_not Stored) (sym at)) refl refl refl;
  serves = λ new new_is. (ap (staged_or_not Stored) (sym at), new_is);
  stands = λ q. objects_stay (replay log) upload number bytes (upload_at (replay log) upload) q ∙ before.stands q;
  keys = before.keys;
  staged = part_uploads kept uploads log upload number bytes (Some staged) before at is;
  version = refl;
  upload = refl;
}

pub part_answered : (kept : Kept) (uploads : Uploads) (log : List Logged) (upload number : ℕ) (bytes : List ℕ) (answer : Brief) → 1 ≤ number → number ≤ max_parts → IsKept kept log
    → answer ≡ staged_or_not Stored (map.get kept.uploads upload) → uploads ≡ with_part kept.uploads upload number bytes (map.get kept.uploads upload)
    → Answered kept (record kept { uploads = uploads }) log (Part upload number bytes) answer
part_answered kept uploads log upload number bytes answer low high before answers is =
    let P : Brief → Type 0 = λ a. Answered kept (record kept { uploads = uploads }) log (Part upload number bytes) a in
    subst P (sym answers) (part_at kept uploads log upload number bytes _ low high before (kept_upload kept log upload _ before refl) is)

-- AbortMultipartUpload
abort_at : (kept : Kept) (log : List Logged) (upload : ℕ) (staged : Option Staged) → IsKept kept log → upload_at (replay log) upload ≡ staged
    → Answered kept (record kept { uploads = map.remove kept.uploads upload }) log (Abort upload) (staged_or_not Gone staged)
abort_at kept log upload None before at = record {
  entry = plain_entry log (Abort upload) NoUpload tt (ap (staged_or_not Gone) (sym at)) refl refl refl;
  serves = λ new new_is. (ap (staged_or_not Gone) (sym at), new_is);
  stands = before.stands;
  keys = before.keys;
  staged = ap (λ m. map.remove m upload) before.staged;
  version = refl;
  upload = refl;
}
abort_at kept log upload (Some staged) before at = record {
  entry = plain_entry log (Abort upload) Gone tt (ap (staged_or_not Gone) (sym at)) refl refl refl;
  serves = λ new new_is. (ap (staged_or_not Gone) (sym at), new_is);
  stands = before.stands;
  keys = before.keys;
  staged = ap (λ m. map.remove m upload) before.staged;
  version = refl;
  upload = refl;
}

pub abort_answered : (kept : Kept) (uploads : Uploads) (log : List Logged) (upload : ℕ) (answer : Brief) → IsKept kept log → answer ≡ staged_or_not Gone (map.get kept.uploads upload) → uploads ≡ map.remove kept.uploads upload
    → Answered kept (record kept { uploads = uploads }) log (Abort upload) answer
abort_answered kept uploads log upload answer before answers is =
    let P : Brief → Type 0 = λ a. Answered kept (record kept { uploads = uploads }) log (Abort upload) a in
    let Q : Uploads → Type 0 = λ m. Answered kept (record kept { uploads = m }) log (Abort upload) (staged_or_not Gone (map.get kept.uploads upload)) in
    subst P (sym answers) (subst Q (sym is) (abort_at kept log upload _ before (kept_upload kept log upload _ before refl)))

-- CompleteMultipartUpload
kept_whole : (kept : Kept) (log : List Logged) (upload parts : ℕ) → IsKept kept log → whole_of parts (upload_at (replay log) upload) ≡ whole_of parts (map.get kept.uploads upload)
kept_whole kept log upload parts before = ap (λ m. whole_of parts (map.get m upload)) before.staged

complete_made_at : (kept : Kept) (changed : BTreeMap (List ℕ) Object) (left : Uploads) (log : List Logged) (upload parts : ℕ) (etag : List ℕ) (whole : Option Whole) → 1 ≤ parts → IsKept kept log → kept.versions + 1 < 2 ^ 64
    → whole_of parts (upload_at (replay log) upload) ≡ whole → Completes upload (kept.versions + 1) whole kept.objects changed kept.uploads left (Some etag)
    → Answered kept (record { objects = changed; uploads = left; versions = kept.versions + 1; created = kept.created }) log (Complete upload parts) (Made etag)
complete_made_at kept changed left log upload parts etag None low before small is done = let wrong = done.0 in absurd (cc)
complete_made_at kept changed left log upload parts etag (Some whole) low before small is done =
    let same = done.0 in
    let etag_is : etag ≡ etag_of_version (kept.versions + 1) = cc in
    let made_is : version_completed (Some (name.Version etag)) (whole_of parts (upload_at (replay log) upload)) ≡ Some (next_version kept whole.key whole.bytes) =
    ap (version_completed (Some (name.Version etag))) is ∙ ap (λ e. version_completed (Some (name.Version e)) (Some whole)) etag_is in
    let answered : IsComplete (whole_of parts (upload_at (replay log) upload)) (Made etag) = let P : Option Whole → Type 0 = λ w. IsComplete w (Made etag) in subst P (sym is) tt in
    record {
      entry = record {
        may = low;
        answered = answered;
        took = λ _. refl;
        made = let P : Option Whole → Type 0 = λ w. MakesWhole w (Made etag) (Some (name.Version etag)) in subst P (sym is) refl;
        one_content = λ new made. next_one_content kept log whole.key whole.bytes before small new (sym made_is ∙ made);
        new_upload = λ id made. absurd (cc);
      };
      serves = λ new new_is. ((answered, new_is), etag_is ∙ ap (λ n. etag_of_version (n + 1)) (sym before.counted));
      stands = λ q.
          ap (λ o. object_at (completed (replay log) upload o) q) made_is
          ∙ next_stands kept (without_upload (replay log) upload) changed log whole.key whole.bytes before (λ q. refl) done.1 q;
      keys = keys_at kept.objects changed whole.key _ before.keys done.3 done.1;
      staged = ap (λ o. (completed (replay log) upload o).uploads) made_is ∙ ap (λ m. map.remove m upload) before.staged ∙ sym done.2;
      version = subst (IsNextVersion kept.versions (kept.versions + 1)) (sym made_is) (refl, refl);
      upload = refl;
    }

pub complete_made : (kept : Kept) (changed : BTreeMap (List ℕ) Object) (left : Uploads) (log : List Logged) (upload parts : ℕ) (etag : List ℕ) → 1 ≤ parts → IsKept kept log → kept.versions + 1 < 2 ^ 64
    → Completes upload (kept.versions + 1) (whole_of parts (map.get kept.uploads upload)) kept.objects changed kept.uploads left (Some etag)
    → Answered kept (record { objects = changed; uploads = left; versions = kept.versions + 1; created = kept.created }) log (Complete upload parts) (Made etag)
complete_made kept changed left log upload parts etag low before small done = complete_made_at kept changed left log upload parts etag _ low before small (kept_whole kept log upload parts before) done

complete_none_at : (kept : Kept) (changed : BTreeMap (List ℕ) Object) (left : Uploads) (log : List Logged) (upload parts : ℕ) (whole : Option Whole) → 1 ≤ parts → IsKept kept log
    → whole_of parts (upload_at (replay log) upload) ≡ whole → Completes upload (kept.versions + 1) whole kept.objects changed kept.uploads left None
    → Answered kept (record kept { objects = changed; uploads = left }) log (Complete upload parts) NoUpload
complete_none_at kept changed left log upload parts (Some whole) low before is done = let wrong = done.0 in absurd (cc)
complete_none_at kept changed left log upload parts None low before is done =
    let none : version_completed None (whole_of parts (upload_at (replay log) upload)) ≡ None = ap (version_completed None) is in
    let answered : IsComplete (whole_of parts (upload_at (replay log) upload)) NoUpload = let P : Option Whole → Type 0 = λ w. IsComplete w NoUpload in subst P (sym is) refl in
    let makes : MakesWhole (whole_of parts (upload_at (replay log) upload)) NoUpload None = let P : Option Whole → Type 0 = λ w. MakesWhole w NoUpload None in subst P (sym is) refl in
    record {
      entry = plain_entry log (Complete upload parts) NoUpload low answered refl makes none;
      serves = λ new new_is. (answered, new_is);
      stands = λ q. ap (λ o. object_at (completed (replay log) upload o) q) none ∙ before.stands q ∙ ap (λ es. lookup (is_at (slice_cmp nat_cmp q)) es) (sym done.1);
      keys = λ q some. before.keys q (let P : List (List ℕ × Object) → Type 0 = λ es. IsSome (lookup (is_at (slice_cmp nat_cmp q)) es) in subst P done.1 some);
      staged = ap (λ o. (completed (replay log) upload o).uploads) none ∙ before.staged ∙ sym done.2;
      version = subst (IsNextVersion kept.versions kept.versions) (sym none) refl;
      upload = refl;
    }

pub complete_none : (kept : Kept) (changed : BTreeMap (List ℕ) Object) (left : Uploads) (log : List Logged) (upload parts : ℕ) → 1 ≤ parts → IsKept kept log
    → Completes upload (kept.versions + 1) (whole_of parts (map.get kept.uploads upload)) kept.objects changed kept.uploads left None
    → Answered kept (record kept { objects = changed; uploads = left }) log (Complete upload parts) NoUpload
complete_none kept changed left log upload parts low before done = complete_none_at kept changed left log upload parts _ low before (kept_whole kept log upload parts before) done
