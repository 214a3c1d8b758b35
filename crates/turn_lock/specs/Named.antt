-- Which lock it is.
use Rattle.atomic_table.specs.Seated.{TableId}
use Rattle.turn_lock.specs.declared.lock.TurnLock.{TurnLock}

abbrev pub lock_name : {T E G : Type 0} → TurnLock T E G → TableId
lock_name lock = lock.table.shared.table_id
