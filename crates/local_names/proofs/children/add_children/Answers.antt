use Rattle.std.proofs.Common.{◌≡◌, ◌++◌, ℕ, false, List, length, Some, rules, sym, ap, ◌∙◌, subst, string_bytes}
use Rattle.std.proofs.lemmas.Map.Iter.{rest_all, rest_more}
use Rattle.std.specs.List.{starts_with}
use Rattle.std.specs.Prelude.{nat_eq}
use Rattle.mp_rules.specs.declared.entry.Local.{Local}
use Rattle.local_names.specs.Nodes.{is_bare}
use Rattle.std.specs.Map.Iter.{deref_pair}
use Rattle.local_names.proofs.Directory.{ranged, walking_first, walked_all, walked_out, walked_to, walking_on, walking_over, split_slash, no_split, child_found, child_empty, child_bare, plain_name, IsWalking}
use Rattle.local_names.proofs.children.add_children.Goals as goal
use Rattle.local_names.proofs.children.add_children.Goals.{else-not-is_empty-via-then-not-is_empty+else-not-is_bare, else-not-is_empty-via-else-not-is_empty}

pub loop-key-init : goal.loop-key-init
loop-key-init c =
    walking_first c.args.prefix.now (string_bytes c.args.from.now) c.args.nodes.now.entries c.range-key-items.ensures.ordered c.args.children.now.items c.args.children.now.items c.into_iter-key-iterator.result
    (c.into_iter-key-iterator.ensures.into_iter_gives ∙ c.range-key-items.ensures.between tt ∙ ranged c.args.from.now c.args.nodes.now.entries)

pub returns-in_default : goal.returns-in_default
returns-in_default c =
    let next = rest_more deref_pair c.loop-key.key-iterator c.next.new.self c.next.result (c.in-Some.key, c.in-Some.node) c.in-Some.is c.next.ensures.steps in
    walked_out c.args.prefix.now (string_bytes c.args.from.now) c.args.nodes.now.entries c.range-key-items.ensures.ordered c.args.children.now.items c.loop-key.children.items c.loop-key.key-iterator c.next.new.self (c.in-Some.key.now, c.in-Some.node.now) next c.loop-key.invariant c.requires
    (subst (λ (key : List ℕ). starts_with nat_eq key c.args.prefix.now ≡ false) c.as_str.ensures.value c.in_default.ensures)

pub returns-in-Some-split_once : goal.returns-in-Some-split_once
returns-in-Some-split_once c =
    let next = rest_more deref_pair c.loop-key.key-iterator c.next.new.self c.next.result (c.in-Some.key, c.in-Some.node) c.in-Some.is c.next.ensures.steps in
    walked_to c.args.prefix.now (string_bytes c.args.from.now) c.args.nodes.now.entries c.range-key-items.ensures.ordered c.args.children.now.items c.loop-key.children.items c.loop-key.key-iterator c.next.new.self (c.in-Some.key.now, c.in-Some.node.now) next c.loop-key.invariant c.requires
    c.in-Some-split_once.above.now c.in-Some-split_once.field-0-1.now (string_bytes c.in_ok-past_keys_below.field-0)
    (sym c.as_str.ensures.value ∙ c.in-Some-behind.ensures ∙ ap (λ (name : List ℕ). c.args.prefix.now ++ name) (split_slash c.in-Some-behind.name.now c.split_once.result (c.in-Some-split_once.above, c.in-Some-split_once.field-0-1) c.in-Some-split_once.is c.split_once.ensures.cases))
    c.in_ok-past_keys_below.ensures

pub loop-key-preserved-then-not-is_bare : goal.loop-key-preserved-then-not-is_bare
loop-key-preserved-then-not-is_bare c =
    let next = rest_more deref_pair c.loop-key.key-iterator c.next.new.self c.next.result (c.in-Some.key, c.in-Some.node) c.in-Some.is c.next.ensures.steps in
    let is : string_bytes c.in-Some.key.now ≡ c.args.prefix.now ++ c.in-Some-behind.name.now = sym c.as_str.ensures.value ∙ c.in-Some-behind.ensures in
    let bytes = no_split c.in-Some-behind.name.now c.split_once.result c.in_default-split_once.is c.split_once.ensures.cases in
    let some : nat_eq (length c.in-Some-behind.name.now) 0 ≡ false = sym c.is_empty.ensures ∙ c.if-not-is_empty.true in
    let plain = plain_name c.in-Some-behind.name.now some bytes in
    let kept : is_bare c.in-Some.node.now ≡ false = sym c.is_bare.ensures ∙ c.if-not-is_bare.true in
    let child = child_found c.args.prefix.now c.in-Some-behind.name.now (c.in-Some.key.now, c.in-Some.node.now) is plain kept in
    let walked = walking_on c.args.prefix.now (string_bytes c.args.from.now) c.args.nodes.now.entries c.range-key-items.ensures.ordered c.args.children.now.items c.loop-key.children.items c.loop-key.key-iterator c.next.new.self (c.in-Some.key.now, c.in-Some.node.now) next c.loop-key.invariant
    (c.in_ok-copy.field-0, c.shown.result) (child ∙ (λ i. Some (sym c.in_ok-copy.ensures i, sym c.shown.ensures i))) in
    subst (λ (children : List (List ℕ × Local)). IsWalking c.args.prefix.now (string_bytes c.args.from.now) c.args.nodes.now.entries c.next.new.self c.args.children.now.items children) (sym c.in_ok-push.ensures.items) walked

pub loop-key-preserved : goal.loop-key-preserved
loop-key-preserved c =
    let next = rest_more deref_pair c.loop-key.key-iterator c.next.new.self c.next.result (c.in-Some.key, c.in-Some.node) c.in-Some.is c.next.ensures.steps in
    let is : string_bytes c.in-Some.key.now ≡ c.args.prefix.now ++ c.in-Some-behind.name.now = sym c.as_str.ensures.value ∙ c.in-Some-behind.ensures in
    walking_over c.args.prefix.now (string_bytes c.args.from.now) c.args.nodes.now.entries c.range-key-items.ensures.ordered c.args.children.now.items c.loop-key.children.items c.loop-key.key-iterator c.next.new.self (c.in-Some.key.now, c.in-Some.node.now) next c.loop-key.invariant
    (elim c.else-not-is_empty.branch [
      | else-not-is_empty-via-then-not-is_empty+else-not-is_bare w ↦ child_bare c.args.prefix.now c.in-Some-behind.name.now (c.in-Some.key.now, c.in-Some.node.now) is (sym w.is_bare.ensures ∙ w.if-not-is_bare.false)
      | else-not-is_empty-via-else-not-is_empty w ↦ child_empty c.args.prefix.now c.in-Some-behind.name.now (c.in-Some.key.now, c.in-Some.node.now) is (search rules)
    ])

pub returns : goal.returns
returns c =
    walked_all c.args.prefix.now (string_bytes c.args.from.now) c.args.nodes.now.entries c.range-key-items.ensures.ordered c.args.children.now.items c.loop-key.children.items c.loop-key.key-iterator
    (rest_all deref_pair c.loop-key.key-iterator c.next.new.self c.next.result c.in-None.is c.next.ensures.steps) c.loop-key.invariant
