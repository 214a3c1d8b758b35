-- The options of a mount.
use Rattle.std.specs.Prelude.{ℕ, ◌≤◌, ◌^◌, false}
use Rattle.mp_types.specs.declared.options.Opts.{Opts}

-- a page has at most so many items, as Amazon S3 says
abbrev pub max_items : ℕ
max_items = 1000

abbrev pub default_options : Opts
default_options = record { part = 8388608; page = max_items; allow_delete = false; allow_overwrite = false }

-- each number is one that the option may have
pub record AreWithin (options : Opts) : Type 0 where
  pub part_low : 1 ≤ options.part
  pub part_high : options.part ≤ 2 ^ 30
  pub page_low : 1 ≤ options.page
  pub page_high : options.page ≤ max_items
