use Rattle.std.proofs.Common.{◌≡◌, ◌≤◌, ℕ, List, length, Result, Ok, Err, MatchResult, is_ok, Some, false, slice_get, sym, ◌∙◌}
use Rattle.std.specs.List.{insert}
use Rattle.mount_model.specs.Run.{is_among}
use Rattle.line_table.specs.Table.{put_in}
use Rattle.line_table.proofs.Searches.{among_at}
use Rattle.line_table.proofs.Kept.{numbers_above}
use Rattle.line_table.proofs.lines.Lines.startable.Goals as goal

by_result : (n : ℕ) (numbers : List ℕ) (r : Result ℕ ℕ) → MatchResult r (λ i. slice_get numbers i ≡ Some n) (λ i. (i ≤ length numbers) × (is_among n numbers ≡ false) × (put_in n numbers ≡ insert numbers i n)) → is_ok r ≡ is_among n numbers
by_result n numbers (Ok i) stands = sym (among_at n numbers i stands)
by_result n numbers (Err i) gap = sym gap.1

pub place_among-requires : goal.place_among-requires
place_among-requires c = rw c.as_slice.ensures.value (numbers_above c.args.number _ _ _ _ _ c.self.invariant)

pub returns-clause-value : goal.returns-clause-value
returns-clause-value c = rw (← c.self.view_is, ← c.self.invariant.may_start, ← c.as_slice.ensures.value) (c.is_ok.ensures.value ∙ by_result c.args.number c.as_slice.result.now c.place_among.result c.place_among.ensures)
