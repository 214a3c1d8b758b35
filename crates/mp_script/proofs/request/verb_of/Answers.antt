use Rattle.std.proofs.Common.{rules, ◌≡◌, ◌<◌, false, codes, arith}
use Rattle.mp_script.specs.ScriptText.{is_word}
use Rattle.mp_script.proofs.Asking.{others_ask, process_asks}
use Rattle.mp_script.proofs.request.verb_of.Goals as goal

pub returns-then-actor-eq0 : goal.returns-then-actor-eq0
returns-then-actor-eq0 c =
    let other : is_word c.args.word.now (codes "await") ≡ false = search rules in
    let none : c.args.actor ≡ 0 = grind arith in
    λ words. rw (others_ask c.args.actor c.args.word.now words other none) (c.change_verb.ensures words)

pub returns : goal.returns
returns c =
    let other : is_word c.args.word.now (codes "await") ≡ false = search rules in
    let some : 0 < c.args.actor = grind arith in
    λ words. rw (process_asks c.args.actor c.args.word.now words other some) (c.process_verb.ensures words)
