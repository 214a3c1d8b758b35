-- What HeadObject and ListObjectsV2 answer.
use Rattle.std.proofs.Common.{◌≡◌, ℕ, Bool, true, false, List, [], ◌∷◌, ◌++◌, Option, Some, None, sym, refl, ap, subst}
use Rattle.std.specs.BTreeMap as tree
use Rattle.std.specs.Cmp.Lexicographic.{slice_cmp}
use Rattle.std.specs.Ordering.{nat_cmp}
use Rattle.bucket_model.specs.declared.answer.Brief.{Brief}
use Rattle.bucket_model.specs.declared.call.Call.TheVariants.{Head, Probe}
use Rattle.bucket_model.specs.declared.history.Logged.{Logged}
use Rattle.bucket_model.specs.declared.history.Object.{Object}
use Rattle.bucket_model.specs.Bucket.{IsProbe, head_of, object_at}
use Rattle.bucket_model.specs.History.{replay}
use Rattle.mem_store.specs.Kept.{IsKept, Kept}
use Rattle.mem_store.specs.Served.{Finds, probe_of}
use Rattle.mem_store.proofs.Keeps.{Answered, plain_entry, reads, some_along}

head_at : (kept : Kept) (log : List Logged) (key : List ℕ) (object : Option Object) → IsKept kept log → object_at (replay log) key ≡ object → Answered kept kept log (Head key) (head_of object)
head_at kept log key None before is =
    reads kept log (Head key) _ before (plain_entry log (Head key) _ tt (ap head_of (sym is)) refl refl refl) (λ new new_is. (ap head_of (sym is), new_is)) refl refl refl
head_at kept log key (Some object) before is =
    reads kept log (Head key) _ before (plain_entry log (Head key) _ tt (ap head_of (sym is)) refl refl refl) (λ new new_is. (ap head_of (sym is), new_is)) refl refl refl

pub head_answered : (kept : Kept) (log : List Logged) (key : List ℕ) (answer : Brief) → IsKept kept log → answer ≡ head_of (tree.get (slice_cmp nat_cmp) kept.objects key) → Answered kept kept log (Head key) answer
head_answered kept log key answer before answers =
    let P : Brief → Type 0 = λ a. Answered kept kept log (Head key) a in
    subst P (sym answers) (head_at kept log key _ before (before.stands key))

probe_is : (kept : Kept) (log : List Logged) (key : List ℕ) (found : Bool) → IsKept kept log → Finds kept.objects (key ++ 47 ∷ []) found → IsProbe (replay log) key (probe_of found)
probe_is kept log key true before finds = record { key = finds.0; stands = some_along _ _ (sym (before.stands finds.0)) finds.1; below = finds.2 }
probe_is kept log key false before finds = λ below. finds below.key (some_along _ _ (before.stands below.key) below.stands) below.below

probe_at : (kept : Kept) (log : List Logged) (key : List ℕ) (found : Bool) → IsKept kept log → IsProbe (replay log) key (probe_of found) → Answered kept kept log (Probe key) (probe_of found)
probe_at kept log key true before is = reads kept log (Probe key) _ before (plain_entry log (Probe key) _ tt is refl refl refl) (λ new new_is. (is, new_is)) refl refl refl
probe_at kept log key false before is = reads kept log (Probe key) _ before (plain_entry log (Probe key) _ tt is refl refl refl) (λ new new_is. (is, new_is)) refl refl refl

pub probe_answered : (kept : Kept) (log : List Logged) (key : List ℕ) (found : Bool) (answer : Brief) → IsKept kept log → Finds kept.objects (key ++ 47 ∷ []) found → answer ≡ probe_of found → Answered kept kept log (Probe key) answer
probe_answered kept log key found answer before finds answers =
    let P : Brief → Type 0 = λ a. Answered kept kept log (Probe key) a in
    subst P (sym answers) (probe_at kept log key found before (probe_is kept log key found before finds))
