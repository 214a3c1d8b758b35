use Rattle.std.proofs.Common.{[], sym, ◌∙◌}
use Rattle.std.proofs.lemmas.Result.{err_from_is_err_and}
use Rattle.mp_script.specs.ScriptText.{words_of}
use Rattle.mp_script.proofs.Asking.{verb_reads}
use Rattle.mp_script.proofs.Pieces.{split_one, split_parts}
use Rattle.mp_script.proofs.request.words_request.Goals as goal

pub returns-in_err-verb_of-in-None : goal.returns-in_err-verb_of-in-None
returns-in_err-verb_of-in-None c =
    let p = err_from_is_err_and c.from_residual.result c.from_residual.ensures.1 in
    rw (p.1, p.2) (verb_reads c.args.actor (words_of c.args.text.now) c.args.text.now [] _ (split_one 32 c.args.text.now c.in-None.ensures) (c.in_err-verb_of-in-None.ensures []))

pub returns-in_err-bare_request-in-None : goal.returns-in_err-bare_request-in-None
returns-in_err-bare_request-in-None c =
    let p = err_from_is_err_and c.from_residual-in_err-bare_request-in-None.result c.from_residual-in_err-bare_request-in-None.ensures.1 in
    rw (p.1, p.2) (verb_reads c.args.actor (words_of c.args.text.now) c.args.text.now [] _ (split_one 32 c.args.text.now c.in-None.ensures) (c.in_ok-verb_of-in-None.ensures [] ∙ sym c.in_err-bare_request-in-None.ensures))

pub returns-in_ok-bare_request-in-None : goal.returns-in_ok-bare_request-in-None
returns-in_ok-bare_request-in-None c =
    verb_reads c.args.actor (words_of c.args.text.now) c.args.text.now [] _ (split_one 32 c.args.text.now c.in-None.ensures) (c.in_ok-verb_of-in-None.ensures [] ∙ sym c.in_ok-bare_request-in-None.ensures)

pub returns-in_err-verb_of-in-Some : goal.returns-in_err-verb_of-in-Some
returns-in_err-verb_of-in-Some c =
    let p = err_from_is_err_and c.from_residual-in_err-verb_of-in-Some.result c.from_residual-in_err-verb_of-in-Some.ensures.1 in
    let words = words_of c.in-Some.parted.after.now in
    let parts = split_parts 32 c.args.text.now c.in-Some.parted.before.now c.in-Some.parted.after.now c.in-Some.ensures.0 c.in-Some.ensures.1 in
    rw (p.1, p.2) (verb_reads c.args.actor (words_of c.args.text.now) c.in-Some.parted.before.now words _ parts (c.in_err-verb_of-in-Some.ensures words))

pub returns-in_ok-verb_of-in-Some : goal.returns-in_ok-verb_of-in-Some
returns-in_ok-verb_of-in-Some c =
    let words = words_of c.in-Some.parted.after.now in
    let parts = split_parts 32 c.args.text.now c.in-Some.parted.before.now c.in-Some.parted.after.now c.in-Some.ensures.0 c.in-Some.ensures.1 in
    rw (verb_reads c.args.actor (words_of c.args.text.now) c.in-Some.parted.before.now words _ parts (c.in_ok-verb_of-in-Some.ensures words)) c.request.ensures
