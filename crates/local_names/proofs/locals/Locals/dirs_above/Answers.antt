use Rattle.std.proofs.Common.{◌≡◌, List, ℕ, [], false, rules, arith, refl, sym, ap, ◌∙◌, subst}
use Rattle.std.specs.FinSet as set
use Rattle.mp_rules.specs.Local.{LocalNames}
use Rattle.mp_rules.specs.Keys.{is_under}
use Rattle.local_names.proofs.GivenUp.{IsGivingUp, given_first, given_next, given_last, given_none}
use Rattle.local_names.proofs.Names.{empty_dirs, kept_root}
use Rattle.local_names.proofs.locals.Locals.dirs_above.Goals as goal

pub returns-then-is_empty : goal.returns-then-is_empty
returns-then-is_empty c =
    given_none c.args.self.now c.args.key.now (ap (λ (names : LocalNames). names.dirs) (sym c.self.view_is) ∙ empty_dirs c.self.inside.nodes (c.if-is_empty.ensures.0 refl))

pub loop-above-init : goal.loop-above-init
loop-above-init c =
    (search rules, given_first c.args.self.now c.args.key.now (ap (λ (names : LocalNames). set.contains names.dirs []) (sym c.self.view_is) ∙ kept_root c.self.inside.nodes c.self.invariant))

pub loop-above-preserved : goal.loop-above-preserved
loop-above-preserved c = (
  search rules,
  subst (λ (names : LocalNames). IsGivingUp c.args.self.now names c.args.key.now c.in-Some.above.now) (sym c.remove_dir.ensures)
      (given_next c.args.self.now c.loop-above.self c.args.key.now c.loop-above.rest.now c.in-Some.above.now c.loop-above.invariant.1
      c.in-Some.ensures),
)

pub returns : goal.returns
returns c =
    let none : (q : List ℕ) → is_under c.loop-above.rest.now q ≡ false = λ q. grind arith in
    given_last c.args.self.now c.loop-above.self c.args.key.now c.loop-above.rest.now c.loop-above.invariant.1 none
