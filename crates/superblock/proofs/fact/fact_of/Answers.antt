use Rattle.std.proofs.Common.{None, Some, option_copied, option_to_list, sym, ap, ◌∙◌}
use Rattle.mp_rules.specs.QuestionRef.{as_question}
use Rattle.mp_rules.proofs.Answered.{fact_in-last}
use Rattle.superblock.proofs.Facts.{fact_is}
use Rattle.superblock.proofs.fact.fact_of.Goals as goal

pub returns-in_err-known : goal.returns-in_err-known
returns-in_err-known c =
    ap option_copied c.from_residual.ensures
    ∙ fact_is (as_question c.args.asked) c.args.own.now (option_to_list (option_copied c.args.last)) c.known_among.result c.known_last.result None c.known_among.ensures c.known_last.ensures (sym c.in_err-known.was ∙ c.or.ensures)
    ∙ sym (fact_in-last c.args.own.now (option_copied c.args.last) (as_question c.args.asked))

pub returns : goal.returns
returns c =
    fact_is (as_question c.args.asked) c.args.own.now (option_to_list (option_copied c.args.last)) c.known_among.result c.known_last.result (Some c.in_ok-known.known) c.known_among.ensures c.known_last.ensures (sym c.in_ok-known.was ∙ c.or.ensures)
    ∙ sym (fact_in-last c.args.own.now (option_copied c.args.last) (as_question c.args.asked))
