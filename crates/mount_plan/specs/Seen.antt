-- What a line sees of the mount.
use Rattle.std.specs.Prelude.{option_copied}
use Rattle.mount_model.specs.Conversation as model
use Rattle.mount_plan.specs.declared.view.View.{View}

abbrev pub view_of : View → model.View
view_of view = record { line = view.line; options = view.options; handle = option_copied view.handle; live = view.live; names = view.names.now }
