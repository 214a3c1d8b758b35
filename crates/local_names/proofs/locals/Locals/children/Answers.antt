use Rattle.std.proofs.Common.{◌≡◌, sym, subst}
use Rattle.std.proofs.lemmas.Result.{IfOk-weaker}
use Rattle.mp_rules.specs.Local.{LocalNames}
use Rattle.local_names.specs.Children.{AreChildren, children_in}
use Rattle.local_names.proofs.Shown.{are_children}
use Rattle.local_names.proofs.locals.Locals.children.Goals as goal

pub returns : goal.returns
returns c =
    IfOk-weaker c.children.result (λ children. children.items ≡ children_in c.args.prefix.now c.self.inside.nodes.entries) (λ children. AreChildren c.args.self.now c.args.prefix.now children.items)
    (λ children is.
    subst (λ (names : LocalNames). AreChildren names c.args.prefix.now children.items) c.self.view_is
    (subst (AreChildren _ c.args.prefix.now) (sym is) (are_children c.self.inside.nodes c.self.invariant c.args.prefix.now c.len-len.ensures.ordered)))
    c.children.ensures
