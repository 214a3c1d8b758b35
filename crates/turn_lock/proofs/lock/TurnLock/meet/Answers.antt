use Rattle.std.proofs.Common.{rules}
use Rattle.turn_lock.proofs.Keeps.{learns_allowed, meet_allowed}
use Rattle.turn_lock.proofs.lock.TurnLock.meet.Goals as goal

pub join_seat-requires : goal.join_seat-requires
join_seat-requires g c = (c.requires.seat, c.requires.other, c.requires.other_idle.1, search rules, meet_allowed g.T.Stands.entries g.T.Stands.ground_of g.T.Stands.closes _ _ _ _ c.requires.idle.0 c.requires.other_idle.0)

pub load-requires : goal.load-requires
load-requires g c = (search rules, search rules, learns_allowed g.T.Stands.entries g.T.Stands.ground_of g.T.Stands.closes _ _ _ _)
