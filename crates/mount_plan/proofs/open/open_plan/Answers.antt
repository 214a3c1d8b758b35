use Rattle.std.proofs.Common.{option_copied, sym, ◌∙◌}
use Rattle.mp_types.specs.declared.errno.Errno.TheVariants.{Eisdir}
use Rattle.mount_model.specs.Conversation.{fails}
use Rattle.mount_plan.specs.Meant.{with_last}
use Rattle.mount_plan.specs.Opened.{opened_at}
use Rattle.mount_plan.specs.Seen.{view_of}
use Rattle.mount_plan.proofs.Looks.{goes_by, not_live}
use Rattle.mount_plan.proofs.open.open_plan.Goals as goal

pub returns-in-Ok-Entry : goal.returns-in-Ok-Entry
returns-in-Ok-Entry c =
    let view = view_of c.args.view.now in
    let heard = with_last (option_copied c.args.last) c.args.heard.now in
    let free = not_live c.args.view.now.handle (sym c.is_some.ensures ∙ c.if-is_some.false) in
    rw free (goes_by c.entry_plan.result view (fails Eisdir) (opened_at view.options c.args.mode view.live) c.args.path.now heard c.in-Ok-Entry.field-0 c.in-Ok-Entry.key c.in-Ok-Entry.entry c.in-Ok-Entry.field-0-is c.in-Ok-Entry.ensures c.entry_plan.ensures)
