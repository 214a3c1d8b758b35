use Rattle.std.proofs.Common.{refl}
use Rattle.std.proofs.lemmas.Option.{slice_get_read, slice_get_past}
use Rattle.line_table.proofs.Starts.{rising_lines}
use Rattle.line_table.proofs.Opens.{due_first, due_none, due_pair}
use Rattle.line_table.proofs.lines.Lines.due_await.Goals as goal

pub returns-in-Some : goal.returns-in-Some
returns-in-Some c =
    let lines = c.self.inside.standings.items in
    let found = rw c.as_slice.ensures.value at c.in-Some.ensures.lookup in
    let stands = slice_get_read lines _ c.self.inside.first_open c.in-Some.standing.now refl found.3.0 found.1 in
    rw (← c.self.view_is, c.awaited_number.ensures) (due_pair _ lines (due_first 0 lines c.in-Some.standing.now (rising_lines 0 lines c.self.invariant.rising) (rw (← c.self.invariant.from_open) stands)))

pub returns-in-None : goal.returns-in-None
returns-in-None c =
    let lines = c.self.inside.standings.items in
    let found = rw c.as_slice.ensures.value at c.in-None.ensures.lookup in
    rw (← c.self.view_is) (due_none lines (rw (← c.self.invariant.from_open) (slice_get_past lines c.self.inside.first_open found.3)))
