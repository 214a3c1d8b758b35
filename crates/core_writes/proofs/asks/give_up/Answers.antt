use Rattle.std.proofs.Common.{refl}
use Rattle.core_writes.proofs.Asked.{none-given_up}
use Rattle.core_writes.proofs.Paid.{paid-same}
use Rattle.core_writes.proofs.asks.give_up.Goals as goal

pub returns-in_default : goal.returns-in_default
returns-in_default c = record {
  writer = refl;
  paid = paid-same c.args.jobs.now c.args.journal.now c.args.owed.now c.requires.step c.requires.enough;
  gives_up = none-given_up c.args.writer.now c.args.jobs.now c.args.journal.now;
}

pub returns-in_default-2-clause-gives_up : goal.returns-in_default-2-clause-gives_up
returns-in_default-2-clause-gives_up c = none-given_up c.args.writer.now c.args.jobs.now c.args.journal.now
