use Rattle.std.proofs.Common.{option_copied, refl, sym, subst, ap, ◌∙◌}
use Rattle.mp_types.specs.declared.errno.Errno.TheVariants.{Eisdir}
use Rattle.mp_types.specs.Path.{joined}
use Rattle.mount_model.specs.Conversation.{fails, unlink_at}
use Rattle.mount_plan.specs.Gone.{is_gone}
use Rattle.mount_plan.specs.Looked.{IsFound}
use Rattle.mount_plan.specs.Meant.{with_last}
use Rattle.mount_plan.specs.Seen.{view_of}
use Rattle.mount_plan.proofs.Looks.{goes_by, walks}
use Rattle.mount_plan.proofs.unlink.unlink_plan.Goals as goal

pub returns-in-Ok-Root : goal.returns-in-Ok-Root
returns-in-Ok-Root c =
    let view = view_of c.args.view.now in
    let heard = with_last (option_copied c.args.last) c.args.heard.now in
    let names = c.args.path.now in
    let here = ap is_gone (sym c.first_answer.ensures) ∙ (sym c.is_gone.ensures ∙ c.if-is_gone.false) in
    let root = subst (IsFound c.args.path.now view heard) c.in-Ok-Root.field-0-is c.in-Ok-Root.ensures in
    walks c.failed.result view names heard here (rw (root (fails Eisdir) (unlink_at view.options.allow_delete (joined names)), c.failed.ensures) refl)

pub returns-in-Ok-Entry : goal.returns-in-Ok-Entry
returns-in-Ok-Entry c =
    let view = view_of c.args.view.now in
    let heard = with_last (option_copied c.args.last) c.args.heard.now in
    let here = ap is_gone (sym c.first_answer.ensures) ∙ (sym c.is_gone.ensures ∙ c.if-is_gone.false) in
    walks c.entry_plan.result view c.args.path.now heard here
    (goes_by c.entry_plan.result view (fails Eisdir) (unlink_at view.options.allow_delete) c.args.path.now heard c.in-Ok-Entry.field-0 c.in-Ok-Entry.key c.in-Ok-Entry.entry c.in-Ok-Entry.field-0-is c.in-Ok-Entry.ensures c.entry_plan.ensures)
