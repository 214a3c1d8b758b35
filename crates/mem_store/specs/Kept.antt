-- How a bucket in memory keeps its objects and its uploads beside its log.
use Rattle.std.specs.Prelude.{◌≡◌, ℕ, ◌+◌, ◌<◌, List, length, slice_index_or}
use Rattle.std.specs.BTreeMap as tree
use Rattle.std.specs.BTreeMap.{BTreeMap}
use Rattle.std.specs.Cmp.Lexicographic.{slice_cmp}
use Rattle.std.specs.List.{range_with_len}
use Rattle.std.specs.Ordering.{nat_cmp}
use Rattle.bucket_model.specs.declared.history.Logged.{Logged}
use Rattle.bucket_model.specs.declared.history.Object.{Object}
use Rattle.bucket_model.specs.Bucket.{ObjectVersion, object_at}
use Rattle.bucket_model.specs.History.{IsLegalHistory, replay, versions_of}
use Rattle.mem_store.specs.Listed.{HaveKeyTexts}
use Rattle.mem_store.specs.Served.{etag_of_version, uploads_made}
use Rattle.mem_store.specs.Uploads.{Uploads}

-- what stands beside the log: `versions` and `created` count the object versions and the uploads that were made
pub record Kept : Type 0 where
  pub objects : BTreeMap (List ℕ) Object
  pub uploads : Uploads
  pub versions : ℕ
  pub created : ℕ

-- each version has the ETag of its number, from 1 on
abbrev pub AreNumbered : List ObjectVersion → Type 0
AreNumbered versions = (place : ℕ) (otherwise : ObjectVersion) → place < length versions → (slice_index_or versions place otherwise).etag ≡ etag_of_version (place + 1)

-- objects and uploads are those that the log leaves, their keys are as long as keys may be, and what was made is numbered and counted
pub record IsKept (kept : Kept) (log : List Logged) : Type 0 where
  pub stands : (key : List ℕ) → object_at (replay log) key ≡ tree.get (slice_cmp nat_cmp) kept.objects key
  pub keys : HaveKeyTexts kept.objects
  pub staged : (replay log).uploads ≡ kept.uploads
  pub legal : IsLegalHistory log
  pub numbered : AreNumbered (versions_of log)
  pub counted : length (versions_of log) ≡ kept.versions
  pub ids : uploads_made log ≡ range_with_len 1 kept.created
