use Rattle.mp_record.proofs.Appends.{AppendsFront-nothing}
use Rattle.mp_record.proofs.Replies.{reply_front, reply_rest}
use Rattle.mp_record.proofs.print.print_reply.Goals as goal

pub returns-in_err-push_reply_start-clause-front : goal.returns-in_err-push_reply_start-clause-front
returns-in_err-push_reply_start-clause-front g c = AppendsFront-nothing _ _

pub returns-in_err-print_digits-clause-front : goal.returns-in_err-print_digits-clause-front
returns-in_err-print_digits-clause-front g c =
    reply_front _ _ c.args.gathered.now.items c.args.answered.now _ _ c.in_ok-push_reply_start.ensures c.data_of.ensures c.in_err-print_digits.ensures.front

pub returns-clause-rest : goal.returns-clause-rest
returns-clause-rest g c =
    reply_rest _ _ c.args.gathered.now.items c.args.answered.now _ _ _ _ c.in_ok-push_reply_start.ensures c.data_of.ensures c.in_ok-print_digits.ensures.rest c.in_ok-extend_from_slice.ensures.items

pub returns-clause-front : goal.returns-clause-front
returns-clause-front g c =
    reply_front _ _ c.args.gathered.now.items c.args.answered.now _ _ c.in_ok-push_reply_start.ensures c.data_of.ensures c.in_ok-print_digits.ensures.front

pub returns-in_err-extend_from_slice-clause-front : goal.returns-in_err-extend_from_slice-clause-front
returns-in_err-extend_from_slice-clause-front g c =
    reply_front _ _ c.args.gathered.now.items c.args.answered.now _ _ c.in_ok-push_reply_start.ensures c.data_of.ensures c.in_ok-print_digits.ensures.front
