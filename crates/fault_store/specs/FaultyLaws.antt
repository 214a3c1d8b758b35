-- What a store whose listed calls fail tells of its log is true.
use Rattle.std.specs.Prelude.{◌≡◌, List, length, Option, Some, None, unwrap_or, IfSome, refl}
use Rattle.std.proofs.Common.{ap, subst, sym, ◌∙◌}
use Rattle.std.proofs.lemmas.Option.{none-some}
use Rattle.bucket_model.specs.declared.history.Logged.{Logged}
use Rattle.bucket_model.specs.History.{History, IsLegalHistory, versions_of}
use Rattle.fault_store.specs.Faulty.{told_by, told_with, Mirrors}

same_history : (log : List Logged) (inner told : History) → told_by log (Some inner) ≡ Some told → told_with log inner ≡ told
same_history log inner told is = ap (λ (o : Option History). unwrap_or o (told_with log inner)) is

pub position_is : (log : List Logged) (inner : Option History) (told : History) → told_by log inner ≡ Some told → length log ≡ length told.log
position_is log None told is = absurd (none-some told is)
position_is log (Some inner) told is = ap (λ (t : History). length t.log) (same_history log inner told is)

pub honest_is_legal : (log : List Logged) (inner : Option History) (told : History) → told_by log inner ≡ Some told → IfSome inner (Mirrors log)
    → ((t : History) → inner ≡ Some t → t.versions ≡ versions_of t.log) → IsLegalHistory told.log × (told.versions ≡ versions_of told.log)
honest_is_legal log None told is mirrors made = absurd (none-some told is)
honest_is_legal log (Some inner) told is mirrors made =
    let P : History → Type 0 = λ t. IsLegalHistory t.log × (t.versions ≡ versions_of t.log) in
    subst P (same_history log inner told is) (mirrors.legal, made inner refl ∙ sym mirrors.versions)
