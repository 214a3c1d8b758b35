-- What all lines see of the mount, as its parts keep it.
use Rattle.mount_model.specs.State.{Shared}
use Rattle.mount_core.specs.declared.work.Work.{Work}

abbrev pub shared_in : Work → Shared
shared_in work = record { options = work.options; handles = work.handles; names = work.names }
