use Rattle.std.proofs.Common.{[], option_copied, refl, sym, subst}
use Rattle.listing_rules.specs.Names.{prefix_of}
use Rattle.mount_model.specs.Conversation.{asks_page, list_at}
use Rattle.mount_plan.specs.Looked.{IsFound}
use Rattle.mount_plan.specs.Meant.{MeansOne, with_last}
use Rattle.mount_plan.specs.Seen.{view_of}
use Rattle.mount_plan.proofs.Lists.{lists_by_walk}
use Rattle.mount_plan.proofs.Looks.{goes_by}
use Rattle.mount_plan.proofs.list.list_plan.Goals as goal

pub returns-in-Ok-Root : goal.returns-in-Ok-Root
returns-in-Ok-Root c =
    let view = view_of c.args.view.now in
    let heard = with_last (option_copied c.args.last) c.args.heard.now in
    let names = c.args.path.now in
    let first = asks_page view (prefix_of names) [] in
    let root = subst (IsFound c.args.path.now view heard) c.in-Ok-Root.field-0-is c.in-Ok-Root.ensures in
    lists_by_walk c.first_page.result view names heard c.in_default.ensures
    (subst (MeansOne c.first_page.result) (sym (root first (list_at first))) (c.first_page.ensures view refl))

pub returns-in-Ok-Entry : goal.returns-in-Ok-Entry
returns-in-Ok-Entry c =
    let view = view_of c.args.view.now in
    let heard = with_last (option_copied c.args.last) c.args.heard.now in
    let names = c.args.path.now in
    let first = asks_page view (prefix_of names) [] in
    lists_by_walk c.entry_plan.result view names heard c.in_default.ensures
    (goes_by c.entry_plan.result view first (λ key. list_at first) c.args.path.now heard c.in-Ok-Entry.field-0 c.in-Ok-Entry.field-0-0 c.in-Ok-Entry.entry c.in-Ok-Entry.field-0-is c.in-Ok-Entry.ensures (c.entry_plan.ensures view refl))
