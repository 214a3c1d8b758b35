use Rattle.std.proofs.Common.{◌≡◌, ◌-◌, ◌^◌, arith}
use Rattle.std.proofs.lemmas.Grind.{common_steps}
use Rattle.mp_io.specs.Readings.{reading_after}
use Rattle.mp_io.proofs.Given.{given-next}
use Rattle.mp_io.proofs.list_clock.ListClockClock.now.Goals as goal

pub returns-clause-gives : goal.returns-clause-gives
returns-clause-gives c =
    let stands : c.index.result.now ≡ reading_after c.self.inside.readings.items c.self.inside.calls = grind (arith, common_steps) in
    rw (← c.self.view_is, c.saturating_add-self-inside.ensures) (given-next c.self.inside.readings.items c.self.inside.calls (2 ^ 64 - 1) c.index.result.now stands)
