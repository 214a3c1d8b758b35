-- What a change of the mount's own names does to each key.
use Rattle.std.proofs.Common.{◌≡◌, ◌≢◌, ℕ, cond, Bool, true, false, not, ◌||◌, List, Some, None, ◌⊎◌, inl, inr, refl, sym, ap, ◌∙◌}
use Rattle.std.proofs.lemmas.Map.Text.{is_eq-slice_cmp}
use Rattle.std.specs.Cmp.Lexicographic.{slice_cmp, nat_list_cmp_total, bytes_decides}
use Rattle.std.specs.FinMap as map
use Rattle.std.specs.FinSet as set
use Rattle.std.specs.FinSet.{nat_cmp-IsAntisymmetric, slice_cmp-IsAntisymmetric}
use Rattle.std.specs.Ordering.{nat_cmp, eq_by_cmp}
use Rattle.std.proofs.lemmas.Bool.{and_parts}
use Rattle.mp_rules.specs.Keys.{is_below}
use Rattle.mp_rules.specs.Local.{Keys, LocalNames, with_file, without_file}
use Rattle.upload_rules.specs.declared.upload.UpState.{UpState}
use Rattle.upload_rules.specs.declared.upload.UpState.TheVariants.{Open, Finished, Done, Failed}
use Rattle.mount_model.specs.Writers.{is_under_way}
use Rattle.mount_model.specs.State.{names_behind}

-- the same key
abbrev is_key : List ℕ → List ℕ → Bool
is_key q key = eq_by_cmp (slice_cmp nat_cmp) q key

key-is : (q key : List ℕ) → is_key q key ≡ true → q ≡ key
key-is q key is = (bytes_decides q key).0 (sym (is_eq-slice_cmp q key) ∙ is)

key-same : (q key : List ℕ) → q ≡ key → is_key q key ≡ true
key-same q key is = is_eq-slice_cmp q key ∙ (bytes_decides q key).1 is

key-other : (q key : List ℕ) → q ≢ key → is_key q key ≡ false
key-other q key apart = go (is_key q key) refl
  where
    go : (b : Bool) → is_key q key ≡ b → is_key q key ≡ false
    go true is = absurd (apart (key-is q key is))
    go false is = is

-- a key is this one or another
pub keys : (q key : List ℕ) → (q ≡ key) ⊎ (q ≢ key)
keys q key = go (is_key q key) refl
  where
    go : (b : Bool) → is_key q key ≡ b → (q ≡ key) ⊎ (q ≢ key)
    go true is = inl (key-is q key is)
    go false is = inr (λ e. let same = key-same q key e in absurd (cc))

-- files

pub file-made : (names : LocalNames) (key : List ℕ) (size : ℕ) → map.get (with_file key size names).files key ≡ Some size
file-made names key size = map.get-insert nat_list_cmp_total names.files key size key ∙ ap (λ (b : Bool). cond b (Some size) (map.get names.files key)) (key-same key key refl)

pub file-made-other : (names : LocalNames) (key : List ℕ) (size : ℕ) (q : List ℕ) → q ≢ key → map.get (with_file key size names).files q ≡ map.get names.files q
file-made-other names key size q apart = map.get-insert nat_list_cmp_total names.files key size q ∙ ap (λ (b : Bool). cond b (Some size) (map.get names.files q)) (key-other q key apart)

file-gone : (names : LocalNames) (key : List ℕ) → map.get (without_file key names).files key ≡ None
file-gone names key = map.get-remove nat_list_cmp_total names.files key key ∙ ap (λ (b : Bool). cond b None (map.get names.files key)) (key-same key key refl)

file-gone-other : (names : LocalNames) (key q : List ℕ) → q ≢ key → map.get (without_file key names).files q ≡ map.get names.files q
file-gone-other names key q apart = map.get-remove nat_list_cmp_total names.files key q ∙ ap (λ (b : Bool). cond b None (map.get names.files q)) (key-other q key apart)

-- where no file was, none is taken away
pub no-file-gone : (names : LocalNames) (key : List ℕ) → map.get names.files key ≡ None → (q : List ℕ) → map.get (without_file key names).files q ≡ map.get names.files q
no-file-gone names key none q = elim (keys q key) [
  | inl here ↦ ap (map.get (without_file key names).files) here ∙ file-gone names key ∙ sym (ap (map.get names.files) here ∙ none)
  | inr apart ↦ file-gone-other names key q apart
]

-- directories

pub dir-made : (dirs : Keys) (key q : List ℕ) → q ≢ key → set.contains (set.insert dirs key) q ≡ set.contains dirs q
dir-made dirs key q apart = set.contains-insert nat_list_cmp_total dirs key q ∙ ap (λ (b : Bool). b || set.contains dirs q) (key-other q key apart)

pub dir-removed : (dirs : Keys) (key q : List ℕ) → set.contains (set.remove dirs key) q ≡ true → set.contains dirs q ≡ true
dir-removed dirs key q is = (and_parts (not (is_key q key)) (set.contains dirs q) (sym (set.contains-remove nat_list_cmp_total dirs key q) ∙ is)).1

dir-retained : (dirs : Keys) (keeps : List ℕ → Bool) (q : List ℕ) → set.contains (set.retain dirs keeps) q ≡ true → set.contains dirs q ≡ true
dir-retained dirs keeps q is =
    let alike = set.contains-retain dirs keeps q (λ x tie. ap keeps (sym (slice_cmp-IsAntisymmetric nat_cmp-IsAntisymmetric q x tie))) in
    (and_parts (set.contains dirs q) (keeps q) (sym alike ∙ is)).0

-- What stays once a file's writer is no longer under way: each other file, and no directory is new.
pub record IsRemoved (names : LocalNames) (key : List ℕ) (now : LocalNames) : Type 0 where
  pub gone : map.get now.files key ≡ None
  pub others : (q : List ℕ) → q ≢ key → map.get now.files q ≡ map.get names.files q
  pub dirs : (q : List ℕ) → set.contains now.dirs q ≡ true → set.contains names.dirs q ≡ true

pub names-removed : (up : UpState) (key : List ℕ) (names : LocalNames) → is_under_way up ≡ false → IsRemoved names key (names_behind up key names)
names-removed Open key names ends = absurd (cc)
names-removed Finished key names ends = absurd (cc)
names-removed Done key names ends = record { gone = file-gone names key; others = file-gone-other names key; dirs = dir-retained names.dirs (λ dir. not (is_below key dir)) }
names-removed (Failed errno) key names ends = record { gone = file-gone names key; others = file-gone-other names key; dirs = λ q is. is }

-- and until then nothing changes
pub names-kept : (up : UpState) (key : List ℕ) (names : LocalNames) → is_under_way up ≡ true → names_behind up key names ≡ names
names-kept Open key names way = refl
names-kept Finished key names way = refl
names-kept Done key names way = absurd (cc)
names-kept (Failed errno) key names way = absurd (cc)
