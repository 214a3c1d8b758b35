-- What calls do to the staged uploads.
use Rattle.std.proofs.Common.{◌≡◌, ℕ, Bool, true, false, cond, List, Option, Some, None, is_some, refl, sym, ap, subst, ◌∙◌, BTreeMap}
use Rattle.std.specs.BTreeMap as tree
use Rattle.std.specs.BTreeMap.{IsUnchanged, Updates, WritesThrough}
use Rattle.std.specs.Cmp.Lexicographic.{slice_cmp}
use Rattle.std.specs.FinMap as map
use Rattle.std.specs.Option.{option_map}
use Rattle.std.specs.Ordering.{nat_cmp}
use Rattle.std.specs.Prelude.{◌==◌}
use Rattle.mp_types.specs.Key.{IsKeyText}
use Rattle.bucket_model.specs.declared.history.Object.{Object}
use Rattle.bucket_model.specs.Bucket.{Parts, Staged, Whole, joined_from, whole_of}
use Rattle.mem_store.specs.Served.{etag_of_version}
use Rattle.mem_store.specs.Uploads.{Completes, Uploads, whole_bytes, with_part}
use Rattle.mem_store.proofs.Numbered.{map_of, found-map_of, insert-map_of}

-- a new upload
pub upload_staged : (table changed : BTreeMap ℕ Staged) (uploads : Uploads) (upload : ℕ) (key own : List ℕ) (parts : Parts) → map_of table ≡ uploads → own ≡ key → parts ≡ map.empty
    → Updates nat_cmp table changed upload (Some (record { key = own; parts = parts })) → map_of changed ≡ map.insert uploads upload (record { key = key; parts = map.empty })
upload_staged table changed uploads upload key own parts is own_is none updates =
    insert-map_of table changed upload (record { key = own; parts = parts }) updates
    ∙ ap (λ m. map.insert m upload (record { key = own; parts = parts })) is
    ∙ ap (λ k. map.insert uploads upload (record { key = k; parts = parts })) own_is
    ∙ ap (λ ps. map.insert uploads upload (record { key = key; parts = ps })) none

-- a part of an upload that isn't staged
pub part_of_none : (table changed : BTreeMap ℕ Staged) (uploads : Uploads) (upload number : ℕ) (bytes : List ℕ) → map_of table ≡ uploads → None ≡ tree.get nat_cmp table upload
    → changed ≡ table → map_of changed ≡ with_part uploads upload number bytes (map.get uploads upload)
part_of_none table changed uploads upload number bytes is none same =
    ap map_of same ∙ is ∙ ap (with_part uploads upload number bytes) (sym (found-map_of table uploads upload None is none))

-- a part of a staged upload
pub part_stored : (table changed : BTreeMap ℕ Staged) (uploads : Uploads) (upload number : ℕ) (bytes : List ℕ) (old new : Staged) → map_of table ≡ uploads → Some old ≡ tree.get nat_cmp table upload
    → new ≡ record { key = old.key; parts = map.insert old.parts number bytes } → WritesThrough nat_cmp (nat_cmp upload) table new changed → map_of changed ≡ with_part uploads upload number bytes (map.get uploads upload)
part_stored table changed uploads upload number bytes old new is at new_is written =
    insert-map_of table changed upload new (written.3 (sym (ap is_some at)))
    ∙ ap (λ m. map.insert m upload new) is
    ∙ ap (map.insert uploads upload) new_is
    ∙ ap (with_part uploads upload number bytes) (sym (found-map_of table uploads upload (Some old) is at))

-- what an upload makes is what its parts make
by_count : (b : Bool) (key : List ℕ) (joined : Option (List ℕ)) → cond b (option_map (λ bytes. record { key = key; bytes = bytes }) joined) None ≡ option_map {U = Whole} (λ bytes. record { key = key; bytes = bytes }) (cond b joined None)
by_count true key joined = refl
by_count false key joined = refl

whole_by_bytes : (count : ℕ) (staged : Staged) → whole_of count (Some staged) ≡ option_map {U = Whole} (λ bytes. record { key = staged.key; bytes = bytes }) (whole_bytes count staged.parts)
whole_by_bytes count staged = by_count (map.len staged.parts == count) staged.key (joined_from staged.parts 1 count)

module _ (objects changed : BTreeMap (List ℕ) Object) (uploads left : Uploads) (upload count number : ℕ) where
  completes_at : (whole made : Option Whole) (told : Option (List ℕ)) → whole ≡ made → Completes upload number made objects changed uploads left told → Completes upload number whole objects changed uploads left told
  completes_at whole made told is fact = let P : Option Whole → Type 0 = λ w. Completes upload number w objects changed uploads left told in subst P (sym is) fact

  pub completes_none : (told : Option (List ℕ)) → map.get uploads upload ≡ None → told ≡ None → IsUnchanged objects changed → left ≡ uploads
      → Completes upload number (whole_of count (map.get uploads upload)) objects changed uploads left told
  completes_none told none none_told same same_left = completes_at _ None told (ap (whole_of count) none) (none_told, same, same_left)

  pub completes_lacking : (staged : Staged) (told : Option (List ℕ)) → map.get uploads upload ≡ Some staged → None ≡ whole_bytes count staged.parts → told ≡ None → IsUnchanged objects changed → left ≡ uploads
      → Completes upload number (whole_of count (map.get uploads upload)) objects changed uploads left told
  completes_lacking staged told at lacks none_told same same_left =
      completes_at _ None told
      (ap (whole_of count) at ∙ whole_by_bytes count staged ∙ ap (option_map (λ bytes. record { key = staged.key; bytes = bytes })) (sym lacks))
      (none_told, same, same_left)

  pub completes_whole : (staged : Staged) (bytes etag : List ℕ) → map.get uploads upload ≡ Some staged → Some bytes ≡ whole_bytes count staged.parts → etag ≡ etag_of_version number
      → Updates (slice_cmp nat_cmp) objects changed staged.key (Some (record { etag = etag_of_version number; bytes = bytes })) → left ≡ map.remove uploads upload → IsKeyText staged.key
      → Completes upload number (whole_of count (map.get uploads upload)) objects changed uploads left (Some etag)
  completes_whole staged bytes etag at whole etag_is updates removed fits =
      completes_at _ (Some (record { key = staged.key; bytes = bytes })) (Some etag)
      (ap (whole_of count) at ∙ whole_by_bytes count staged ∙ ap (option_map (λ bs. record { key = staged.key; bytes = bs })) (sym whole))
      (ap Some etag_is, updates, removed, fits)
