use Rattle.std.proofs.Common.{◌≡◌, true, false, Bool, not, refl, sym, ap, ◌∙◌}
use Rattle.mp_rules.specs.Local.{LocalNames, without_name}
use Rattle.local_names.specs.declared.nodes.Node.{Node}
use Rattle.local_names.specs.Names.{is_name}
use Rattle.local_names.specs.Nodes.{is_none}
use Rattle.local_names.proofs.Names.{name_in, without_none, counted_above, removed_names, removed_kept}
use Rattle.local_names.proofs.locals.Locals.remove.Goals as goal

named : (b result : Bool) → result ≡ not b → result ≡ true → b ≡ false
named true result is test = absurd (cc)
named false result is test = refl

unnamed : (b result : Bool) → result ≡ not b → result ≡ false → b ≡ true
unnamed true result is test = refl
unnamed false result is test = absurd (cc)

pub remove_name-requires-clause-counted : goal.remove_name-requires-clause-counted
remove_name-requires-clause-counted c =
    counted_above c.self.inside.nodes c.self.inside.nodes c.self.invariant c.args.key.now
    (named _ c.is_name-is_name.result (c.is_name-is_name.ensures ∙ ap (λ (node : Node). not (is_none node.kind)) c.node_at.ensures) c.if-is_name.true)

pub invariant_of-self : goal.invariant_of-self
invariant_of-self c =
    removed_kept c.self.inside.nodes c.remove_name.new.nodes c.self.invariant c.args.key.now
    (named _ c.is_name-is_name.result (c.is_name-is_name.ensures ∙ ap (λ (node : Node). not (is_none node.kind)) c.node_at.ensures) c.if-is_name.true)
    c.remove_name.ensures.kinds c.remove_name.ensures.counts

pub returns-then-is_name-clause-was : goal.returns-then-is_name-clause-was
returns-then-is_name-clause-was c =
    c.is_name-is_name.ensures ∙ ap (λ (node : Node). not (is_none node.kind)) c.node_at.ensures
    ∙ sym (name_in c.self.inside.nodes c.args.key.now) ∙ ap (λ (names : LocalNames). is_name names c.args.key.now) c.self.view_is

pub returns-then-is_name-clause-names : goal.returns-then-is_name-clause-names
returns-then-is_name-clause-names c =
    removed_names c.self.inside.nodes c.remove_name.new.nodes c.self.invariant c.args.key.now
    (named _ c.is_name-is_name.result (c.is_name-is_name.ensures ∙ ap (λ (node : Node). not (is_none node.kind)) c.node_at.ensures) c.if-is_name.true)
    c.remove_name.ensures.kinds
    ∙ ap (λ (names : LocalNames). without_name c.args.key.now names) c.self.view_is

pub returns-else-is_name-clause-was : goal.returns-else-is_name-clause-was
returns-else-is_name-clause-was c =
    c.is_name-is_name.ensures ∙ ap (λ (node : Node). not (is_none node.kind)) c.node_at.ensures
    ∙ sym (name_in c.self.inside.nodes c.args.key.now) ∙ ap (λ (names : LocalNames). is_name names c.args.key.now) c.self.view_is

pub returns-else-is_name-clause-names : goal.returns-else-is_name-clause-names
returns-else-is_name-clause-names c =
    let none = without_none c.self.inside.nodes c.args.key.now
    (unnamed _ c.is_name-is_name.result (c.is_name-is_name.ensures ∙ ap (λ (node : Node). not (is_none node.kind)) c.node_at.ensures) c.if-is_name.false) in
    sym (ap (λ (names : LocalNames). without_name c.args.key.now names) (sym c.self.view_is) ∙ none ∙ c.self.view_is)
