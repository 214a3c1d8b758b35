-- What a table ends as, where a `&mut` to one of its values is returned.
use Rattle.std.specs.Prelude.{Option}
use Rattle.std.specs.Borrow.{LendsIf, Fml, RattleType, MutBor}
use Rattle.std.specs.FinMap.{FinMap, insert}
use Rattle.mp_types.specs.HandleName.{HandleName, name_cmp}
use Rattle.mp_handles.specs.contracts.handles.Handles.{the_row}

-- once the borrow r ends, the name has the last value written through r; at `None` the table stays as it is
abbrev pub lends_at : (T : RattleType) → MutBor (FinMap name_cmp T.Denot) → HandleName → Option (MutBor T.Denot) → Fml
lends_at T s name r = LendsIf (the_row T) T s r (insert s.now name) s.now
