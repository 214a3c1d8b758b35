use Rattle.std.proofs.Common.{option_copied}
use Rattle.mp_types.specs.declared.errno.Errno.TheVariants.{Eperm}
use Rattle.mount_model.specs.Conversation.{fails, remove_at}
use Rattle.mount_plan.specs.Meant.{with_last}
use Rattle.mount_plan.specs.Seen.{view_of}
use Rattle.mount_plan.proofs.Looks.{goes_by}
use Rattle.mount_plan.proofs.remove.remove_plan.Goals as goal

pub returns-in-Ok-Entry : goal.returns-in-Ok-Entry
returns-in-Ok-Entry c =
    let view = view_of c.args.view.now in
    let heard = with_last (option_copied c.args.last) c.args.heard.now in
    goes_by c.entry_plan.result view (fails Eperm) (remove_at view.names) c.args.path.now heard c.in-Ok-Entry.field-0 c.in-Ok-Entry.key c.in-Ok-Entry.entry c.in-Ok-Entry.field-0-is c.in-Ok-Entry.ensures c.entry_plan.ensures
