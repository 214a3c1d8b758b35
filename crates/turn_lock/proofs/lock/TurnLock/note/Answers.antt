use Rattle.std.proofs.Common.{rules}
use Rattle.turn_lock.proofs.Keeps.{note_allowed}
use Rattle.turn_lock.proofs.lock.TurnLock.note.Goals as goal

pub split_seat-requires : goal.split_seat-requires
split_seat-requires g c = (search rules, search rules, note_allowed g.T.Stands.entries g.T.Stands.ground_of g.T.Stands.closes _ _)
