-- A run goes on by one item where the item is fine in the state after the run.
use Rattle.std.proofs.Common.{List, [], ◌∷◌, ◌++◌, fold}
use Rattle.bucket_model.specs.Along.{Along}

pub Along-push : {S E : Type 0} (Fine : S → E → Type 0) (next : S → E → S) (state : S) (items : List E) (item : E) → Along Fine next state items → Fine (fold next state items) item → Along Fine next state (items ++ item ∷ [])
Along-push Fine next state [] item run fine = (fine, tt)
Along-push Fine next state (first ∷ items) item run fine = (run.0, Along-push Fine next (next state first) items item run.1 fine)

-- a run's front is a run
pub Along-front : {S E : Type 0} (Fine : S → E → Type 0) (next : S → E → S) (state : S) (items more : List E) → Along Fine next state (items ++ more) → Along Fine next state items
Along-front Fine next state [] more run = tt
Along-front Fine next state (first ∷ items) more run = (run.0, Along-front Fine next (next state first) items more run.1)
