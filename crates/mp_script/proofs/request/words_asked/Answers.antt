use Rattle.std.proofs.Common.{[]}
use Rattle.std.proofs.lemmas.Result.{err_from_is_err_and}
use Rattle.mp_script.specs.ScriptText.{words_of}
use Rattle.mp_script.proofs.Asking.{actor_fails, no_verb, request_fails, is_asked}
use Rattle.mp_script.proofs.Pieces.{split_one, split_parts}
use Rattle.mp_script.proofs.request.words_asked.Goals as goal

pub returns-in_err-actor-in-None : goal.returns-in_err-actor-in-None
returns-in_err-actor-in-None c =
    let p = err_from_is_err_and c.from_residual.result c.from_residual.ensures.1 in
    rw (p.1, p.2) (actor_fails (words_of c.args.line.now) c.args.line.now [] _ (split_one 32 c.args.line.now c.in-None.ensures) c.in_err-actor-in-None.ensures)

pub returns-in_ok-actor-in-None : goal.returns-in_ok-actor-in-None
returns-in_ok-actor-in-None c = no_verb (words_of c.args.line.now) c.args.line.now _ (split_one 32 c.args.line.now c.in-None.ensures) c.in_ok-actor-in-None.ensures

pub returns-in_err-actor-in-Some : goal.returns-in_err-actor-in-Some
returns-in_err-actor-in-Some c =
    let p = err_from_is_err_and c.from_residual-in_err-actor-in-Some.result c.from_residual-in_err-actor-in-Some.ensures.1 in
    let parts = split_parts 32 c.args.line.now c.in-Some.parted.before.now c.in-Some.parted.after.now c.in-Some.ensures.0 c.in-Some.ensures.1 in
    rw (p.1, p.2) (actor_fails (words_of c.args.line.now) c.in-Some.parted.before.now (words_of c.in-Some.parted.after.now) _ parts c.in_err-actor-in-Some.ensures)

pub returns-in_err-request-in-Some : goal.returns-in_err-request-in-Some
returns-in_err-request-in-Some c =
    let p = err_from_is_err_and c.from_residual-in_err-request-in-Some.result c.from_residual-in_err-request-in-Some.ensures.1 in
    let parts = split_parts 32 c.args.line.now c.in-Some.parted.before.now c.in-Some.parted.after.now c.in-Some.ensures.0 c.in-Some.ensures.1 in
    rw (p.1, p.2) (request_fails c.in_err-request-in-Some.field-0.0 (words_of c.args.line.now) c.in-Some.parted.before.now (words_of c.in-Some.parted.after.now) c.in_ok-actor-in-Some.actor parts c.in_ok-actor-in-Some.ensures c.in_err-request-in-Some.ensures)

pub returns-in_ok-request-in-Some : goal.returns-in_ok-request-in-Some
returns-in_ok-request-in-Some c =
    let parts = split_parts 32 c.args.line.now c.in-Some.parted.before.now c.in-Some.parted.after.now c.in-Some.ensures.0 c.in-Some.ensures.1 in
    is_asked c.in_ok-request-in-Some.request (words_of c.args.line.now) c.in-Some.parted.before.now (words_of c.in-Some.parted.after.now) c.in_ok-actor-in-Some.actor parts c.in_ok-actor-in-Some.ensures c.in_ok-request-in-Some.ensures
