-- One item of a run, and one entry of a history.
use Rattle.std.proofs.Common.{◌≡◌, ℕ, zero, suc, List, [], ◌∷◌, ◌++◌, take, fold, Some, slice_get, sym, ap, ◌∙◌, subst, append-nil, append_assoc}
use Rattle.bucket_model.specs.Along.{Along}
use Rattle.bucket_model.specs.declared.history.Logged.{Logged}
use Rattle.bucket_model.specs.Bucket.{after, empty_bucket}
use Rattle.bucket_model.specs.History.{IsLegalEntry, IsLegalHistory, replay}

-- an item is fine in the state after those before it
pub Along-at : {S E : Type 0} (Fine : S → E → Type 0) (next : S → E → S) (state : S) (items : List E) (position : ℕ) (item : E) → Along Fine next state items → slice_get items position ≡ Some item → Fine (fold next state (take position items)) item
Along-at Fine next state [] position item run stands = absurd (cc)
Along-at Fine next state (first ∷ items) zero item run stands = subst (Fine state) (let same : first ≡ item = cc in same) run.0
Along-at Fine next state (first ∷ items) (suc position) item run stands = Along-at Fine next (next state first) items position item run.1 stands

-- and takes that state on
pub fold-next : {S E : Type 0} (next : S → E → S) (state : S) (items : List E) (position : ℕ) (item : E) → slice_get items position ≡ Some item → fold next state (take (suc position) items) ≡ next (fold next state (take position items)) item
fold-next next state [] position item stands = absurd (cc)
fold-next next state (first ∷ items) zero item stands = ap (next state) (let same : first ≡ item = cc in same)
fold-next next state (first ∷ items) (suc position) item stands = fold-next next (next state first) items position item stands

pushed : (past log : List Logged) → fold (λ (before : List Logged) (logged : Logged). before ++ logged ∷ []) past log ≡ past ++ log
pushed past [] = sym (append-nil past)
pushed past (logged ∷ log) = pushed (past ++ logged ∷ []) log ∙ append_assoc past (logged ∷ []) log

pub legal_at : (log : List Logged) (position : ℕ) (logged : Logged) → IsLegalHistory log → slice_get log position ≡ Some logged → IsLegalEntry (take position log) logged
legal_at log position logged legal stands =
    subst (λ (past : List Logged). IsLegalEntry past logged) (pushed [] (take position log))
    (Along-at IsLegalEntry (λ past more. past ++ more ∷ []) [] log position logged legal stands)

pub replay-next : (log : List Logged) (position : ℕ) (logged : Logged) → slice_get log position ≡ Some logged → replay (take (suc position) log) ≡ after (replay (take position log)) logged
replay-next log position logged stands = fold-next after empty_bucket log position logged stands
