use Rattle.std.proofs.Common.{arith, ◌∙◌}
use Rattle.mem_store.proofs.Keeps.{keeps, served}
use Rattle.mem_store.proofs.Lists.{list_answered, page_served}
use Rattle.mem_store.proofs.store.MemStore.list.Goals as goal

pub invariant_of-self-2 : goal.invariant_of-self-2
invariant_of-self-2 c =
    keeps _
    (list_answered _ c.self.inside.log.items c.args.prefix c.args.after c.args.max _ c.requires.low c.requires.high c.self.invariant c.in-Ok-list_page.ensures.ordered (c.in-Ok-share.ensures ∙ c.in-Ok-list_page.ensures.page))
    c.self.invariant (cc)

pub returns : goal.returns
returns c =
    rw (← c.self.view_is)
    (page_served c.in-Ok-share.shared c.in-Ok-list_page.page c.in-Ok-share.ensures
    (served _ _
    (list_answered _ c.self.inside.log.items c.args.prefix c.args.after c.args.max _ c.requires.low c.requires.high c.self.invariant c.in-Ok-list_page.ensures.ordered (c.in-Ok-share.ensures ∙ c.in-Ok-list_page.ensures.page))
    c.self.invariant (cc) (omega (arith, c.self.inside.log.ok.0))))
