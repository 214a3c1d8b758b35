use Rattle.std.proofs.Common.{◌≡◌, None, sym, subst, is_ok, ap, ◌∙◌}
use Rattle.mp_rules.specs.Walk.{AreDistinct, fact_in}
use Rattle.mp_rules.proofs.Answered.{distinct-either}
use Rattle.mp_rules.proofs.facts.OwnFacts.add_new.Goals as goal

pub invariant_of-self : goal.invariant_of-self
invariant_of-self c =
    let none : fact_in c.self.inside.known c.args.known.question ≡ None = ap (λ facts. fact_in facts c.args.known.question) c.self.view_is ∙ c.requires in
    subst AreDistinct (sym c.push.ensures.items) (distinct-either (is_ok c.push.result) c.self.inside.known c.args.known none c.self.invariant)
