use Rattle.std.proofs.Common.{◌≡◌, true, is_some, None, OnOk, sym, ap, ◌∙◌, subst}
use Rattle.std.specs.List.{list_any}
use Rattle.mp_rules.specs.Walk.{fact_in, is_question}
use Rattle.mp_rules.proofs.Answered.{answered-any, known-again, known-new, none-found}
use Rattle.mp_rules.proofs.facts.OwnFacts.add.Goals as goal

pub returns-then-is_answered-clause-ok : goal.returns-then-is_answered-clause-ok
returns-then-is_answered-clause-ok c =
    let facts = c.as_slice.ensures ∙ c.self.view_is in
    let some : is_some (fact_in c.args.self.now c.args.known.question) ≡ true = sym (answered-any c.args.self.now c.args.known.question) ∙ (ap (list_any (λ k. is_question c.args.known.question k.question)) (sym facts) ∙ (sym c.is_answered.ensures ∙ c.if-is_answered.true)) in
    known-again c.args.self.now c.args.known some

pub add_new-requires : goal.add_new-requires
add_new-requires c =
    let facts = c.as_slice.ensures ∙ c.self.view_is in
    none-found (fact_in c.args.self.now c.args.known.question) (sym (answered-any c.args.self.now c.args.known.question) ∙ (ap (list_any (λ k. is_question c.args.known.question k.question)) (sym facts) ∙ (sym c.is_answered.ensures ∙ c.if-is_answered.false)))

pub returns-clause-ok : goal.returns-clause-ok
returns-clause-ok c =
    let facts = c.as_slice.ensures ∙ c.self.view_is in
    let none : fact_in c.args.self.now c.args.known.question ≡ None = none-found (fact_in c.args.self.now c.args.known.question) (sym (answered-any c.args.self.now c.args.known.question) ∙ (ap (list_any (λ k. is_question c.args.known.question k.question)) (sym facts) ∙ (sym c.is_answered.ensures ∙ c.if-is_answered.false))) in
    subst (λ now. OnOk c.add_new.result (c.add_new.new.self ≡ now)) (known-new c.args.self.now c.args.known none) c.add_new.ensures.ok
