use Rattle.std.proofs.Common.{◌≡◌, ◌≤◌, ℕ, List, length, Result, Ok, Err, MatchResult, Some, false, slice_get}
use Rattle.std.specs.List.{insert}
use Rattle.mount_model.specs.Run.{is_among}
use Rattle.line_table.specs.Table.{put_in}
use Rattle.line_table.proofs.Searches.{HasPlace, HasGap, searched, place_stands, not_among-in_gap, put_in-in_gap}
use Rattle.line_table.proofs.places.place_among.Goals as goal

by_result : (n : ℕ) (numbers : List ℕ) (r : Result ℕ ℕ) → MatchResult r (HasPlace (λ m. m) n numbers) (HasGap (λ m. m) n numbers) → MatchResult r (λ i. slice_get numbers i ≡ Some n) (λ i. (i ≤ length numbers) × (is_among n numbers ≡ false) × (put_in n numbers ≡ insert numbers i n))
by_result n numbers (Ok i) place = place_stands n numbers i place
by_result n numbers (Err i) gap = (gap.in_range, not_among-in_gap n numbers i gap, put_in-in_gap n numbers i gap)

pub returns : goal.returns
returns c = by_result c.args.number c.args.numbers.now c.binary_search.result (searched (λ m. m) c.args.number 0 c.args.numbers.now c.requires c.binary_search.result c.binary_search.ensures.bound c.binary_search.ensures.position)
