use Rattle.std.proofs.Common.{◌≡◌, ◌≢◌, ℕ, ap, ◌∙◌}
use Rattle.std.specs.FinMap as map
use Rattle.mp_types.specs.HandleName.{max_handles}
use Rattle.file_handles.proofs.Tables.{get_put}
use Rattle.state_rows.proofs.writer_rows.table_with.Goals as goal

not_full : (count : ℕ) → count ≡ 0 → count ≢ max_handles
not_full count none full = absurd (cc)

pub open-requires-clause-free : goal.open-requires-clause-free
open-requires-clause-free c = ap (λ m. map.get m (1, 7)) c.new-handles.ensures ∙ map.get-empty _ (1, 7)

pub open-requires-clause-place : goal.open-requires-clause-place
open-requires-clause-place c = not_full _ (ap map.len c.new-handles.ensures ∙ map.len-empty _ _)

pub returns-in-Ok : goal.returns-in-Ok
returns-in-Ok c purpose back = record {
  writer = _;
  stands = ap (λ m. map.get m (1, 7)) c.in-Ok.ensures.ok ∙ get_put _ _ _;
  back = back;
}
