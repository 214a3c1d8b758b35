use Rattle.std.proofs.Common.{◌≡◌, ◌≤◌, []}
use Rattle.run_laws.specs.Work.{work_left}
use Rattle.mount_core.specs.Core.{state_of}
use Rattle.mp_driver.specs.Drive.{HasFewFaults}
use Rattle.mp_driver.proofs.Between.{IsAtTurn}
use Rattle.mp_driver.proofs.driving.drive_oldest.Given as goal

abbrev pub invariant-loop-job : goal.invariant-loop-job
invariant-loop-job g l = record {
  options : l.core.options ≡ l.fn.core.options;
  script : l.core.script ≡ l.fn.core.script;
  between : IsAtTurn (g.S.Store.history l.store) (g.S.Store.position l.store) (g.S.Store.position l.fn.store) (g.S.Store.is_alone l.fn.store) [] l.core;
  faults : HasFewFaults (g.S.Store.faults l.fn.store) (g.S.Store.faults l.store) l.core.steps;
  alone : g.S.Store.is_alone l.fn.store → g.S.Store.is_alone l.store;
  honest : g.S.Store.is_honest l.fn.store → g.S.Store.is_honest l.store;
  grown : g.S.Store.faults l.fn.store ≤ g.S.Store.faults l.store;
}

abbrev pub decreases-loop-job : goal.decreases-loop-job
decreases-loop-job g l = work_left (state_of l.core)
