use Rattle.std.proofs.Common.{◌≡◌, ℕ, true, take, None}
use Rattle.std.specs.BTreeMap.{keys}
use Rattle.job_table.specs.Journal.{all_known, place_in}
use Rattle.job_table.proofs.journal.no_places.Given as goal

abbrev pub invariant-loop-line : goal.invariant-loop-line
invariant-loop-line l = record {
  places : (line : ℕ) → place_in l.places line ≡ None;
  known : all_known (keys l.places) (take l.line-index l.lines) ≡ true;
}
