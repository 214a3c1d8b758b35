use Rattle.std.proofs.Common.{◌≡◌, ◌+◌, ◌≤◌}
use Rattle.run_laws.specs.Work.{work_left}
use Rattle.mount_core.specs.Core.{state_of}
use Rattle.mp_driver.specs.Drive.{HasRisenBy, faults_in}
use Rattle.mp_driver.specs.Held.{AreByJob, faults_among}
use Rattle.mp_driver.proofs.Between.{IsAtTurn}
use Rattle.mp_driver.proofs.driving.drive_listed.Given as goal

abbrev pub invariant-loop-held : goal.invariant-loop-held
invariant-loop-held g l = record {
  options : l.core.options ≡ l.fn.core.options;
  script : l.core.script ≡ l.fn.core.script;
  by_job : AreByJob l.held.items;
  between : IsAtTurn (g.S.Store.history l.store) (g.S.Store.position l.store) (g.S.Store.position l.fn.store) (g.S.Store.is_alone l.fn.store) l.held.items l.core;
  faults : HasRisenBy (faults_in l.core.steps + faults_among l.held.items) (g.S.Store.faults l.fn.store) (g.S.Store.faults l.store);
  alone : g.S.Store.is_alone l.fn.store → g.S.Store.is_alone l.store;
  honest : g.S.Store.is_honest l.fn.store → g.S.Store.is_honest l.store;
  grown : g.S.Store.faults l.fn.store ≤ g.S.Store.faults l.store;
}

abbrev pub decreases-loop-held : goal.decreases-loop-held
decreases-loop-held g l = work_left (state_of l.core)
