-- The laws of one upload.
use Rattle.std.proofs.Common.{◌≡◌, ◌≢◌, ℕ, ◌+◌, ◌<◌, ◌≤◌, ◌==◌, List, length, take, Bool, true, false, if◌then◌else◌, Option, Some, None, slice_get, option_map, refl, sym, ap, ◌∙◌, subst, arith, eqb-true, eq-eqb}
use Rattle.std.proofs.lemmas.Option.{slice_get_within}
use Rattle.std.specs.FinMap as map
use Rattle.bucket_model.specs.declared.call.Call.{Call}
use Rattle.bucket_model.specs.declared.call.Call.TheVariants.{Create, Complete}
use Rattle.bucket_model.specs.declared.answer.Brief.{Brief}
use Rattle.bucket_model.specs.declared.answer.Brief.TheVariants.{Made, Upload, NoUpload, Fault}
use Rattle.bucket_model.specs.declared.history.Name.TheVariants as name
use Rattle.bucket_model.specs.declared.history.Logged.{Logged}
use Rattle.bucket_model.specs.Bucket.{Staged, Whole, IsComplete, joined_from, upload_at, version_completed, version_made, version_named, whole_of}
use Rattle.bucket_model.specs.History.{IsLegalEntry, IsLegalHistory, Makes, MakesName, MakesWhole, MayAnswer, replay}
use Rattle.upload_history.specs.Entries.{HasParts, IsCreatedAt, IsNumbered, whole_from}
use Rattle.upload_history.proofs.Numbered.{Numbers, len-numbers, joined-numbers}
use Rattle.upload_history.proofs.Along.{legal_at}
use Rattle.upload_history.proofs.Parts.{IsAt, parts_at}

chosen : (b : Bool) (whole : Option Whole) (key : List ℕ) (parts : List (List ℕ)) → b ≡ true → whole ≡ Some (whole_from key parts) → (if b then whole else None) ≡ Some (whole_from key parts)
chosen true whole key parts is made = made
chosen false whole key parts is made = absurd (cc)

was-chosen : (b : Bool) (whole : Option Whole) (made : Whole) → (if b then whole else None) ≡ Some made → b ≡ true
was-chosen true whole made is = refl
was-chosen false whole made is = absurd (cc)

-- an upload of just these parts makes the object of them all
whole-numbers : (key : List ℕ) (parts : List (List ℕ)) (staged : Staged) → staged.key ≡ key → Numbers 1 parts staged.parts → whole_of (length parts) (Some staged) ≡ Some (whole_from key parts)
whole-numbers key parts staged for_key n =
    chosen (map.len staged.parts == length parts) (option_map (λ (bytes : List ℕ). record { key = staged.key; bytes = bytes }) (joined_from staged.parts 1 (length parts))) key parts
    (eq-eqb (map.len staged.parts) (length parts) (len-numbers 1 parts staged.parts n))
    (ap (option_map (λ (bytes : List ℕ). record { key = staged.key; bytes = bytes })) (joined-numbers 1 parts staged.parts n.each)
    ∙ ap (λ (k : List ℕ). Some (whole_from k parts)) for_key)

count-numbers : (parts : List (List ℕ)) (staged : Staged) (count : ℕ) (whole : Whole) → Numbers 1 parts staged.parts → whole_of count (Some staged) ≡ Some whole → count ≡ length parts
count-numbers parts staged count whole n made =
    sym (eqb-true (map.len staged.parts) count (was-chosen (map.len staged.parts == count) (option_map (λ (bytes : List ℕ). record { key = staged.key; bytes = bytes }) (joined_from staged.parts 1 count)) whole made))
    ∙ len-numbers 1 parts staged.parts n

module _ (log : List Logged) (upload from to : ℕ) (key : List ℕ) (parts : List (List ℕ)) where
  -- at the end all parts are there, and no others
  all-there : (now : Option Staged) → HasParts log upload from to parts → (at : IsAt log from upload to key parts now) → Numbers 1 parts at.staged.parts
  all-there now has at = record {
    each = λ index bytes listed. subst (λ (q : ℕ). map.get at.staged.parts q ≡ Some bytes) (let sum : index + 1 ≡ 1 + index = omega arith in sum) (at.each (index + 1) bytes (has.each index bytes listed));
    only = λ number bytes found. by_number number bytes (at.only number bytes found);
  }
    where
      by_number : (number : ℕ) (bytes : List ℕ) → IsNumbered parts number bytes → (1 ≤ number) × (number < 1 + length parts)
      by_number number bytes n = let within = slice_get_within parts n.index bytes n.listed in (omega (arith, n.number_is), omega (arith, n.number_is))

  pub whole_made : IsLegalHistory log → IsCreatedAt log from upload key → HasParts log upload from to parts → to ≤ length log → from < to → whole_of (length parts) (upload_at (replay (take to log)) upload) ≡ Some (whole_from key parts)
  whole_made legal created has ends behind =
      let at : IsAt log from upload to key parts (upload_at (replay (take to log)) upload) = parts_at log from upload to key parts legal created has ends behind in
      ap (whole_of (length parts)) at.there ∙ whole-numbers key parts at.staged at.key_is (all-there (upload_at (replay (take to log)) upload) has at)

  pub count_made : (count : ℕ) (whole : Whole) → IsLegalHistory log → IsCreatedAt log from upload key → HasParts log upload from to parts → to ≤ length log → from < to → whole_of count (upload_at (replay (take to log)) upload) ≡ Some whole → count ≡ length parts
  count_made count whole legal created has ends behind made =
      let at : IsAt log from upload to key parts (upload_at (replay (take to log)) upload) = parts_at log from upload to key parts legal created has ends behind in
      count-numbers parts at.staged count whole (all-there (upload_at (replay (take to log)) upload) has at) (ap (whole_of count) (sym at.there) ∙ made)

  pub version_is : (logged : Logged) → IsLegalHistory log → IsCreatedAt log from upload key → HasParts log upload from to parts → from < to → slice_get log to ≡ Some logged → logged.entry.call ≡ Complete upload (length parts) → version_made (replay (take to log)) logged ≡ version_named logged.made (whole_from key parts)
  version_is logged legal created has behind stands calls =
      let within = slice_get_within log to logged stands in
      ap (λ (c : Call). version_made (replay (take to log)) (record { entry = record { call = c; answer = logged.entry.answer; took = logged.entry.took }; made = logged.made })) calls
      ∙ ap (version_completed logged.made) (whole_made legal created has (omega arith) behind)

-- what an entry told that isn't a fault, it has done

told : (past : List Logged) (logged : Logged) (called : Call) (answer : Brief) → IsLegalEntry past logged → logged.entry.call ≡ called → logged.entry.answer ≡ answer → MayAnswer (replay past) called answer
told past logged called answer entry calls tells =
    subst (λ (a : Brief). MayAnswer (replay past) called a) tells
    (subst (λ (c : Call). MayAnswer (replay past) c logged.entry.answer) calls entry.answered)

makes : (past : List Logged) (logged : Logged) (called : Call) (answer : Brief) → IsLegalEntry past logged → logged.entry.call ≡ called → logged.entry.answer ≡ answer → answer ≢ Fault → Makes (replay past) called answer logged.made
makes past logged called answer entry calls tells fine =
    subst (λ (t : Bool). MakesName (replay past) called t answer logged.made) (entry.took (λ fault. fine (sym tells ∙ fault)))
    (subst (λ (a : Brief). MakesName (replay past) called logged.entry.took a logged.made) tells
    (subst (λ (c : Call). MakesName (replay past) c logged.entry.took logged.entry.answer logged.made) calls entry.made))

complete-told : (whole : Option Whole) (etag : List ℕ) → IsComplete whole (Made etag) → (made : Whole) × (whole ≡ Some made)
complete-told None etag answered = absurd (let none : Made etag ≡ NoUpload = answered in cc)
complete-told (Some made) etag answered = (made, refl)

module _ (log : List Logged) (position upload count : ℕ) (etag : List ℕ) (logged : Logged) (legal : IsLegalHistory log) (stands : slice_get log position ≡ Some logged) (calls : logged.entry.call ≡ Complete upload count) (tells : logged.entry.answer ≡ Made etag) where
  pub whole_told : (whole : Whole) × (whole_of count (upload_at (replay (take position log)) upload) ≡ Some whole)
  whole_told = complete-told (whole_of count (upload_at (replay (take position log)) upload)) etag (told (take position log) logged (Complete upload count) (Made etag) (legal_at log position logged legal stands) calls tells)

  pub version_told : logged.made ≡ Some (name.Version etag)
  version_told =
      subst (λ (whole : Option Whole). MakesWhole whole (Made etag) logged.made) whole_told.1
      (makes (take position log) logged (Complete upload count) (Made etag) (legal_at log position logged legal stands) calls tells (λ fault. absurd (cc)))

pub upload_told : (log : List Logged) (position upload : ℕ) (key : List ℕ) (logged : Logged) → IsLegalHistory log → slice_get log position ≡ Some logged → logged.entry.call ≡ Create key → logged.entry.answer ≡ Upload upload → IsCreatedAt log position upload key
upload_told log position upload key logged legal stands calls tells = record {
  logged = logged;
  stands = stands;
  calls = calls;
  makes = makes (take position log) logged (Create key) (Upload upload) (legal_at log position logged legal stands) calls tells (λ fault. absurd (cc));
}
