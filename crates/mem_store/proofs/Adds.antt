-- What one call adds to the told history.
use Rattle.std.proofs.Common.{◌≡◌, ℕ, List, [], ◌∷◌, ◌++◌, length, refl, sym, ap, ◌∙◌, append-nil}
use Rattle.std.specs.Option.{option_to_list}
use Rattle.bucket_model.specs.declared.answer.Brief.{Brief}
use Rattle.bucket_model.specs.declared.answer.Brief.TheVariants.{Found, Missing, Yes, No, Page, Bytes, Changed, Gone, Made, Upload, Stored, NoUpload, Fault, NoMemory}
use Rattle.bucket_model.specs.declared.call.Call.{Call}
use Rattle.bucket_model.specs.declared.history.Logged.{Logged}
use Rattle.bucket_model.specs.Bucket.{version_made}
use Rattle.bucket_model.specs.History.{replay, versions_of}
use Rattle.store_trait.specs.Told.{Adds, AddsEntry, AddsNone}
use Rattle.store_trait.proofs.Adds.{adds_own, adds_nothing}
use Rattle.mem_store.specs.Served.{entry_of, history_of, IsServed, Serves}
use Rattle.mem_store.proofs.Replay.{versions_push}

adds_entry : (call asked : Call) (old new : List Logged) (place : ℕ) (answer : Brief) → call ≡ asked → place ≡ length old → new ≡ old ++ entry_of asked answer ∷ [] → AddsEntry (Unit {0}) call place answer (history_of old) (history_of new)
adds_entry call asked old new place answer is at_end new_is =
    adds_own (Unit {0}) call place answer (entry_of asked answer) (history_of old) (history_of new) (sym is) refl at_end new_is
    (option_to_list (version_made (replay old) (entry_of asked answer)), ap versions_of new_is ∙ versions_push old (entry_of asked answer))

adds_none : (old new : List Logged) → new ≡ old → AddsNone (Unit {0}) (history_of old) (history_of new)
adds_none old new is = adds_nothing (Unit {0}) (history_of old) (history_of new) is ([], ap versions_of is ∙ sym (append-nil (versions_of old)))

adds_as_served : (call asked : Call) (old new : List Logged) (place : ℕ) (answer : Brief) → call ≡ asked → place ≡ length old → Serves asked old new answer → Adds (Unit {0}) call place answer (history_of old) (history_of new)
adds_as_served call asked old new place (Found etag size) is at_end served = adds_entry call asked old new place (Found etag size) is at_end served.1
adds_as_served call asked old new place Missing is at_end served = adds_entry call asked old new place Missing is at_end served.1
adds_as_served call asked old new place Yes is at_end served = adds_entry call asked old new place Yes is at_end served.1
adds_as_served call asked old new place No is at_end served = adds_entry call asked old new place No is at_end served.1
adds_as_served call asked old new place (Page page) is at_end served = adds_entry call asked old new place (Page page) is at_end served.1
adds_as_served call asked old new place (Bytes count) is at_end served = adds_entry call asked old new place (Bytes count) is at_end served.1
adds_as_served call asked old new place Changed is at_end served = adds_entry call asked old new place Changed is at_end served.1
adds_as_served call asked old new place Gone is at_end served = adds_entry call asked old new place Gone is at_end served.1
adds_as_served call asked old new place (Made etag) is at_end served = adds_entry call asked old new place (Made etag) is at_end served.0.1
adds_as_served call asked old new place (Upload upload) is at_end served = adds_entry call asked old new place (Upload upload) is at_end served.0.1
adds_as_served call asked old new place Stored is at_end served = adds_entry call asked old new place Stored is at_end served.1
adds_as_served call asked old new place NoUpload is at_end served = adds_entry call asked old new place NoUpload is at_end served.1
adds_as_served call asked old new place Fault is at_end served = absurd served
adds_as_served call asked old new place NoMemory is at_end served = adds_none old new served

pub adds : (call asked : Call) (old new : List Logged) (place : ℕ) (answer : Brief) → call ≡ asked → IsServed asked old new place answer → Adds (Unit {0}) call place answer (history_of old) (history_of new)
adds call asked old new place answer is served = adds_as_served call asked old new place answer is served.at_end served.served
