use Rattle.std.proofs.Common.{◌≡◌, ◌++◌, ℕ, true, List, Option, String, Global, sym, ◌∙◌, subst, string_bytes}
use Rattle.std.specs.List.{starts_with}
use Rattle.std.specs.Prelude.{nat_eq}
use Rattle.local_names.specs.Children.{AddsChildren, AddsUpTo, children_in, entries_from}
use Rattle.local_names.proofs.Directory.{from_prefix}
use Rattle.mp_types.proofs.Prefixes.{begins_itself}
use Rattle.local_names.proofs.children.children.Goals as goal

pub loop-from-init : goal.loop-from-init
loop-from-init c = (
  subst (λ (text : List ℕ). starts_with nat_eq text c.args.prefix.now ≡ true) (sym c.in_ok-from.ensures.ok) (begins_itself c.args.prefix.now),
  (λ i. c.new-children.ensures.items i ++ children_in c.args.prefix.now (entries_from (c.in_ok-from.ensures.ok i) c.args.nodes.now.entries))
      ∙ from_prefix c.args.prefix.now c.args.nodes.now.entries,
)

pub add_children-requires : goal.add_children-requires
add_children-requires c = c.loop-from.invariant.0

pub loop-from-smaller : goal.loop-from-smaller
loop-from-smaller c =
    let adds : AddsUpTo c.args.prefix.now (string_bytes c.loop-from.from) c.args.nodes.now.entries c.loop-from.children.items c.add_children.new.children.items (string_bytes c.in-Some.next) =
    subst (λ (next : Option (String Global)). AddsChildren c.args.prefix.now (string_bytes c.loop-from.from) c.args.nodes.now.entries c.loop-from.children.items c.add_children.new.children.items next) c.in-Some.is c.in_ok-next.ensures in
    adds.fewer

pub loop-from-preserved : goal.loop-from-preserved
loop-from-preserved c =
    let adds : AddsUpTo c.args.prefix.now (string_bytes c.loop-from.from) c.args.nodes.now.entries c.loop-from.children.items c.add_children.new.children.items (string_bytes c.in-Some.next) =
    subst (λ (next : Option (String Global)). AddsChildren c.args.prefix.now (string_bytes c.loop-from.from) c.args.nodes.now.entries c.loop-from.children.items c.add_children.new.children.items next) c.in-Some.is c.in_ok-next.ensures in
    (adds.begins, adds.adds ∙ c.loop-from.invariant.1)

pub returns-in-None : goal.returns-in-None
returns-in-None c =
    subst (λ (next : Option (String Global)). AddsChildren c.args.prefix.now (string_bytes c.loop-from.from) c.args.nodes.now.entries c.loop-from.children.items c.add_children.new.children.items next) c.in-None.is c.in_ok-next.ensures
    ∙ c.loop-from.invariant.1
