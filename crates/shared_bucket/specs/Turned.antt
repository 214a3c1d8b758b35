-- What one turn does to a seat of the lock.
use Rattle.std.specs.Prelude.{◌≡◌, ℕ, List, length}
use Rattle.bucket_model.specs.declared.call.Call.{Call}
use Rattle.bucket_model.specs.declared.answer.Answer.{Answer}
use Rattle.bucket_model.specs.declared.history.Logged.{Logged}
use Rattle.turn_lock.specs.Seats.{SeatOf, own, seen}
use Rattle.turn_lock.specs.Seen.{IsOwn, IsPrefix, own_after}
use Rattle.shared_bucket.specs.Kept.{Goes}

-- The seat sees what others added meanwhile, and then the entry of its own call.
pub record Calls {T : Type 0} (asked : Call) (position : ℕ) (answer : Answer) (count : ℕ) (old new : SeatOf T Logged (Unit {0})) : Type 0 where
  pub meanwhile : List Logged
  pub begins : IsPrefix (seen old) meanwhile
  pub goes : Goes asked position answer meanwhile (seen new)
  pub own_is : own new ≡ own_after (own old) meanwhile (seen new)
  pub places : IsOwn (own new) (seen new)
  pub counted : count ≡ length (seen new)
