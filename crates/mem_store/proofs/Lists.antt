-- What ListObjectsV2 answers.
use Rattle.std.proofs.Common.{◌≡◌, ℕ, ◌≤◌, Bool, true, T, List, [], ◌∷◌, sym, refl, ap, ◌∙◌, subst, nat_cmp}
use Rattle.std.specs.BTreeMap as tree
use Rattle.std.specs.Cmp.Lexicographic.{slice_cmp, nat_list_cmp_total}
use Rattle.std.specs.FinMap as finite
use Rattle.std.specs.FinMap.{entries_sorted, get-entries, is_sorted, nat_cmp-IsAntisymmetric, slice_cmp-IsAntisymmetric}
use Rattle.std.specs.FinMap.Entries.{below_all, same_entries}
use Rattle.std.proofs.lemmas.Bool.{and_from}
use Rattle.bucket_model.specs.declared.answer.Brief.{Brief}
use Rattle.bucket_model.specs.declared.answer.Brief.TheVariants as brief
use Rattle.bucket_model.specs.declared.call.Call.{Call}
use Rattle.bucket_model.specs.declared.call.Call.TheVariants as call
use Rattle.bucket_model.specs.declared.history.Logged.{Logged}
use Rattle.bucket_model.specs.declared.history.Object.{Object}
use Rattle.bucket_model.specs.declared.page.Page.{Page}
use Rattle.mp_types.specs.Options.{max_items}
use Rattle.bucket_model.specs.Answers.{MayBeMade, fits}
use Rattle.bucket_model.specs.Bucket.{BucketState, IsList}
use Rattle.bucket_model.specs.History.{replay}
use Rattle.bucket_model.specs.Listing.{page_of}
use Rattle.bucket_model.proofs.Listing.{entries_of, key_of, objects_rise, page_is_page}
use Rattle.bucket_model.proofs.Order.{is_before}
use Rattle.bucket_model.proofs.Rising.{AllBehind, Rises}
use Rattle.mem_store.specs.Kept.{IsKept, Kept}
use Rattle.mem_store.specs.Served.{IsServed, Serves}
use Rattle.mem_store.proofs.Keeps.{Answered, plain_entry, reads}
use Rattle.mem_store.proofs.Listed.{found_same, map_rises}

-- the log leaves the entries that are kept
below_told : (key : List ℕ) (objects : List (List ℕ × Object)) → AllBehind key_of key objects → below_all (slice_cmp nat_cmp) key objects ≡ true
below_told key [] all = refl
below_told key (entry ∷ objects) all = and_from (is_before key entry.0) (below_all (slice_cmp nat_cmp) key objects) all.0 (below_told key objects all.1)

sorted_told : (objects : List (List ℕ × Object)) → Rises key_of objects → is_sorted (slice_cmp nat_cmp) objects ≡ true
sorted_told [] rises = refl
sorted_told (entry ∷ objects) rises = and_from (below_all (slice_cmp nat_cmp) entry.0 objects) (is_sorted (slice_cmp nat_cmp) objects) (below_told entry.0 objects rises.0) (sorted_told objects rises.1)

entries_stand : (kept : Kept) (log : List Logged) → IsKept kept log → tree.IsOrdered (slice_cmp nat_cmp) kept.objects → kept.objects.entries ≡ finite.entries (replay log).objects
entries_stand kept log before ordered =
    let P : Bool → Type 0 = λ b. T b in
    same_entries (slice_cmp nat_cmp) nat_list_cmp_total (slice_cmp-IsAntisymmetric nat_cmp-IsAntisymmetric) kept.objects.entries (finite.entries (replay log).objects)
    (subst P (sym (sorted_told kept.objects.entries (map_rises kept.objects.entries ordered))) tt) (entries_sorted (replay log).objects)
    (λ key. sym (found_same key kept.objects.entries) ∙ sym (before.stands key) ∙ get-entries (replay log).objects key)

list_at : (kept : Kept) (log : List Logged) (prefix after : List ℕ) (max : ℕ) (page : Page) → 1 ≤ max → max ≤ max_items → IsKept kept log → IsList (replay log) prefix after max (brief.Page page)
    → Answered kept kept log (call.List prefix after max) (brief.Page page)
list_at kept log prefix after max page low high before is =
    reads kept log (call.List prefix after max) _ before (plain_entry log (call.List prefix after max) _ (low, high) is refl refl refl) (λ new new_is. (is, new_is)) refl refl refl

pub list_answered : (kept : Kept) (log : List Logged) (prefix after : List ℕ) (max : ℕ) (page : Page) → 1 ≤ max → max ≤ max_items → IsKept kept log → tree.IsOrdered (slice_cmp nat_cmp) kept.objects
    → page ≡ page_of prefix after max kept.objects.entries → Answered kept kept log (call.List prefix after max) (brief.Page page)
list_answered kept log prefix after max page low high before ordered is =
    list_at kept log prefix after max page low high before (ap brief.Page (is ∙ ap (page_of prefix after max) (entries_stand kept log before ordered)))

-- an equal page
pub page_served : {asked : Call} {old new : List Logged} {place : ℕ} (shared page : Page) → shared ≡ page → IsServed asked old new place (brief.Page shared) → IsServed asked old new place (brief.Page page)
page_served {asked} {old} {new} {place} shared page is served = let P : Page → Type 0 = λ p. IsServed asked old new place (brief.Page p) in subst P is served

-- the answer is of the call's kind
page_fits : (state : BucketState) (prefix after : List ℕ) (max : ℕ) (answer : Brief) → 1 ≤ max → IsList state prefix after max answer → fits (call.List prefix after max) answer ≡ true
page_fits state prefix after max answer low is = ap (fits (call.List prefix after max)) is ∙ page_is_page prefix after max (entries_of state) low (objects_rise state)

serves_fits : (prefix after : List ℕ) (max : ℕ) (old new : List Logged) (answer : Brief) → 1 ≤ max → Serves (call.List prefix after max) old new answer → fits (call.List prefix after max) answer ≡ true
serves_fits prefix after max old new (brief.Found etag size) low served = page_fits (replay old) prefix after max (brief.Found etag size) low served.0
serves_fits prefix after max old new brief.Missing low served = page_fits (replay old) prefix after max brief.Missing low served.0
serves_fits prefix after max old new brief.Yes low served = page_fits (replay old) prefix after max brief.Yes low served.0
serves_fits prefix after max old new brief.No low served = page_fits (replay old) prefix after max brief.No low served.0
serves_fits prefix after max old new (brief.Page page) low served = page_fits (replay old) prefix after max (brief.Page page) low served.0
serves_fits prefix after max old new (brief.Bytes count) low served = page_fits (replay old) prefix after max (brief.Bytes count) low served.0
serves_fits prefix after max old new brief.Changed low served = page_fits (replay old) prefix after max brief.Changed low served.0
serves_fits prefix after max old new brief.Gone low served = page_fits (replay old) prefix after max brief.Gone low served.0
serves_fits prefix after max old new (brief.Made etag) low served = page_fits (replay old) prefix after max (brief.Made etag) low served.0.0
serves_fits prefix after max old new (brief.Upload upload) low served = page_fits (replay old) prefix after max (brief.Upload upload) low served.0.0
serves_fits prefix after max old new brief.Stored low served = page_fits (replay old) prefix after max brief.Stored low served.0
serves_fits prefix after max old new brief.NoUpload low served = page_fits (replay old) prefix after max brief.NoUpload low served.0
serves_fits prefix after max old new brief.Fault low served = absurd served
serves_fits prefix after max old new brief.NoMemory low served = refl

pub list_fits : {prefix after : List ℕ} {max : ℕ} {old new : List Logged} {place : ℕ} {answer : Brief} (asked : Call) → asked ≡ call.List prefix after max → MayBeMade asked → IsServed (call.List prefix after max) old new place answer → fits asked answer ≡ true
list_fits {prefix} {after} {max} {old} {new} {answer = answer} asked is may served =
    let P : Call → Type 0 = λ a. MayBeMade a in
    ap (λ a. fits a answer) is ∙ serves_fits prefix after max old new answer (subst P is may).0 served.served
