use Rattle.mp_rules.specs.QuestionRef.{as_question}
use Rattle.superblock.proofs.Facts.{found_behind, found_nowhere_behind}
use Rattle.superblock.proofs.fact.place_from.Goals as goal

pub returns-in_err-behind : goal.returns-in_err-behind
returns-in_err-behind c =
    rw c.from_residual-in_err-behind.ensures
    (found_nowhere_behind (as_question c.args.asked) c.args.own.now c.in_ok-get.field-0.now c.args.start c.in_ok-get.ensures.lookup.0.2 c.in_err-behind.ensures)

pub returns : goal.returns
returns c =
    found_behind (as_question c.args.asked) c.args.own.now c.in_ok-get.field-0.now c.args.start c.in_ok-behind.behind c.requires c.in_ok-get.ensures.lookup.0.2 c.in_ok-behind.ensures
