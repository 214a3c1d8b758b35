use Rattle.std.proofs.Common.{◌≡◌, string_bytes, sym, ◌∙◌}
use Rattle.std.proofs.lemmas.Result.{IfOk-at_ok}
use Rattle.local_names.proofs.Tables.{inserted_same, inserted_has}
use Rattle.local_names.proofs.nodes.keep_node.Goals as goal

pub returns-clause-same : goal.returns-clause-same
returns-clause-same c =
    let is = IfOk-at_ok (λ s. string_bytes s ≡ c.args.key.now) c.in_ok-text.was c.from_str.ensures.ok in
    let updates = rw c.bare.ensures at c.in_ok-insert.ensures.updates in
    inserted_same c.args.nodes.now c.insert.new.self c.args.key.now c.in_ok-text.text is updates (sym c.contains_key.ensures ∙ c.if-contains_key.false)

pub returns-clause-ok : goal.returns-clause-ok
returns-clause-ok c =
    let is = IfOk-at_ok (λ s. string_bytes s ≡ c.args.key.now) c.in_ok-text.was c.from_str.ensures.ok in
    let updates = rw c.bare.ensures at c.in_ok-insert.ensures.updates in
    inserted_has c.args.nodes.now c.insert.new.self c.args.key.now c.in_ok-text.text is updates
