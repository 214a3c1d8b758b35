use Rattle.std.proofs.Common.{◌≡◌, length, List, ℕ, ◌<◌, cond, false, Ok, Err, Result, OnOk, OnErr, ap, ◌∙◌, arith}
use Rattle.std.proofs.lemmas.Result.{on_ok_weaker, on_err_weaker}
use Rattle.std.specs.Str.{bytes_eq}
use Rattle.local_names.specs.declared.nodes.Node.{Node}
use Rattle.local_names.specs.Kept.{names_in}
use Rattle.local_names.specs.Names.{is_name, with_name}
use Rattle.local_names.specs.Nodes.{node_in, kind_in}
use Rattle.local_names.proofs.Names.{added_names, added_kept, same_names, same_kept, count_most}
use Rattle.local_names.proofs.locals.Locals.add.Goals as goal

by_result : {T E A B C D : Type 0} (r : Result T E) → OnOk r A → OnOk r B → OnErr r C → (A → B → D) → (C → D) → D
by_result (Ok x) a b c ok err = ok a b
by_result (Err x) a b c ok err = err c

pub add_name-requires-clause-room : goal.add_name-requires-clause-room
add_name-requires-clause-room c = λ q. omega (arith, count_most c.self.inside.nodes c.self.invariant q, c.len-len.ensures.len, c.len-len.ensures.small)

pub invariant_of-self : goal.invariant_of-self
invariant_of-self c =
    let free : is_name (names_in c.self.inside.nodes) c.as_str-key.result.now ≡ false = (λ i. is_name (c.self.view_is i) (c.as_str-key.ensures.text i)) ∙ c.requires.new in
    let some : 0 < length c.as_str-key.result.now = rw c.as_str-key.ensures.text c.as_str-key.ensures.key.0 in
    by_result c.add_name.result c.add_name.ensures.kinds c.add_name.ensures.counts c.add_name.ensures.err
    (λ kinds counts. added_kept c.self.inside.nodes c.add_name.new.nodes c.self.invariant c.as_str-key.result.now c.args.kind c.requires.kind free kinds some counts)
    (λ same. same_kept c.self.inside.nodes c.add_name.new.nodes c.self.invariant same)

pub returns-clause-ok : goal.returns-clause-ok
returns-clause-ok c =
    let free : is_name (names_in c.self.inside.nodes) c.as_str-key.result.now ≡ false = (λ i. is_name (c.self.view_is i) (c.as_str-key.ensures.text i)) ∙ c.requires.new in
    on_ok_weaker c.add_name.result (λ (kinds : (q : List ℕ) → kind_in c.add_name.new.nodes q ≡ cond (bytes_eq c.as_str-key.result.now q) c.args.kind (kind_in c.self.inside.nodes q)).
    added_names c.self.inside.nodes c.add_name.new.nodes c.self.invariant c.as_str-key.result.now c.args.kind c.requires.kind free kinds
    ∙ (λ i. with_name c.args.kind (c.as_str-key.ensures.text i) (c.self.view_is i))) c.add_name.ensures.kinds

pub returns-clause-err : goal.returns-clause-err
returns-clause-err c =
    on_err_weaker c.add_name.result (λ (same : (q : List ℕ) → node_in c.add_name.new.nodes q ≡ node_in c.self.inside.nodes q).
    same_names c.self.inside.nodes c.add_name.new.nodes (λ q. ap (λ (node : Node). node.kind) (same q)) ∙ c.self.view_is) c.add_name.ensures.err
