-- How a bucket in memory keeps its staged uploads.
use Rattle.std.specs.Prelude.{◌≡◌, ℕ, List, ◌==◌, if◌then◌else◌, Option, Some, None, refl}
use Rattle.std.specs.BTreeMap.{BTreeMap, IsUnchanged, Updates}
use Rattle.std.specs.Cmp.Lexicographic.{slice_cmp}
use Rattle.std.specs.Coded.{Coded, code_by, coded×, coded_list, coded_ℕ}
use Rattle.std.specs.FinMap as map
use Rattle.std.specs.Ordering.{nat_cmp}
use Rattle.mp_types.specs.Key.{IsKeyText}
use Rattle.bucket_model.specs.declared.history.Object.{Object}
use Rattle.bucket_model.specs.Bucket.{Parts, Staged, Whole, joined_from}
use Rattle.mem_store.specs.Served.{etag_of_version}

abbrev pub Uploads : Type 0
Uploads = map.FinMap nat_cmp Staged

-- how values of these types are stored
abbrev pub parts_code : Coded Parts
parts_code = map.code coded_ℕ (coded_list coded_ℕ)

abbrev pub staged_code : Coded Staged
staged_code = code_by (List ℕ × Parts) (coded× (coded_list coded_ℕ) parts_code) (λ s. (s.key, s.parts)) (λ p. record { key = p.0; parts = p.1 }) (λ _. refl)

abbrev pub uploads_code : Coded Uploads
uploads_code = map.code coded_ℕ staged_code

-- the parts joined by number, where their numbers are just those from 1 to the count
abbrev pub whole_bytes : ℕ → Parts → Option (List ℕ)
whole_bytes count parts = if map.len parts == count then joined_from parts 1 count else None

-- a part is stored where the upload is staged
abbrev pub with_part : Uploads → ℕ → ℕ → List ℕ → Option Staged → Uploads
with_part uploads upload number bytes None = uploads
with_part uploads upload number bytes (Some staged) = map.insert uploads upload (record staged { parts = map.insert staged.parts number bytes })

-- where the upload makes an object, that is put as the version with this number and the upload is gone; else nothing changes
abbrev pub Completes : ℕ → ℕ → Option Whole → BTreeMap (List ℕ) Object → BTreeMap (List ℕ) Object → Uploads → Uploads → Option (List ℕ) → Type 0
Completes upload number None objects changed uploads left made = (made ≡ None) × IsUnchanged objects changed × (left ≡ uploads)
Completes upload number (Some whole) objects changed uploads left made =
    (made ≡ Some (etag_of_version number))
    × Updates (slice_cmp nat_cmp) objects changed whole.key (Some (record { etag = etag_of_version number; bytes = whole.bytes }))
    × (left ≡ map.remove uploads upload)
    × IsKeyText whole.key
