-- What an open does by what stands at its path.
use Rattle.std.specs.Prelude.{ℕ, List, false}
use Rattle.mp_types.specs.declared.options.Opts.{Opts}
use Rattle.mp_rules.specs.declared.entry.Entry.{Entry}
use Rattle.mount_model.specs.Conversation.{Next, open_at, create_at}
use Rattle.mount_plan.specs.declared.open.Mode.{Mode}
use Rattle.mount_plan.specs.declared.open.Mode.TheVariants.{Read, Write, Truncate}

-- only an open that truncates may overwrite, where the options allow it
abbrev pub opened_at : Opts → Mode → ℕ → List ℕ → Entry → Next
opened_at options Read = open_at
opened_at options Write = create_at false
opened_at options Truncate = create_at options.allow_overwrite
