-- Names of handles: a process, and the number that it chose.
use Rattle.std.specs.Prelude.{ℕ}
use Rattle.std.specs.Ordering.{nat_cmp, ordering_then}
use Rattle.std.specs.declared.cmp.Ordering.{Ordering}

abbrev pub HandleName : Type 0
HandleName = ℕ × ℕ

-- processes first, then numbers
abbrev pub name_cmp : HandleName → HandleName → Ordering
name_cmp x y = ordering_then (nat_cmp x.0 y.0) (nat_cmp x.1 y.1)

-- at most this many handles are live at once
abbrev pub max_handles : ℕ
max_handles = 4096
