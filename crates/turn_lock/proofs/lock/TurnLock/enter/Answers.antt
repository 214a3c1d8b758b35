use Rattle.std.proofs.Common.{rules, Some}
use Rattle.turn_lock.proofs.Keeps.{slot_taken}
use Rattle.turn_lock.proofs.lock.TurnLock.enter.Goals as goal

pub exchange-requires : goal.exchange-requires
exchange-requires g c = (search rules, (Some c.wait.ensures.begins.value, slot_taken c.wait.new.seat.me.1 (Some c.wait.ensures.begins.value) c.wait.ensures.begins.slot_is))
