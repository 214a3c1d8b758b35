-- What a bucket in memory tells of its log is true.
use Rattle.std.specs.Prelude.{◌≡◌, List, length, Option, Some, unwrap_or, refl}
use Rattle.std.proofs.Common.{ap, subst}
use Rattle.bucket_model.specs.declared.history.Logged.{Logged}
use Rattle.bucket_model.specs.History.{History, IsLegalHistory, versions_of}
use Rattle.mem_store.specs.Served.{history_of}

same_history : (log : List Logged) (told : History) → Some (history_of log) ≡ Some told → history_of log ≡ told
same_history log told is = ap (λ (o : Option History). unwrap_or o (history_of log)) is

pub position_is : (log : List Logged) (told : History) → Some (history_of log) ≡ Some told → length log ≡ length told.log
position_is log told is = ap (λ (t : History). length t.log) (same_history log told is)

pub honest_is_legal : (log : List Logged) (told : History) → Some (history_of log) ≡ Some told → IsLegalHistory log → IsLegalHistory told.log × (told.versions ≡ versions_of told.log)
honest_is_legal log told is honest =
    let P : History → Type 0 = λ t. IsLegalHistory t.log × (t.versions ≡ versions_of t.log) in
    subst P (same_history log told is) (honest, refl)
