use Rattle.mp_record.proofs.Appends.{AppendsFront-nothing}
use Rattle.mp_record.proofs.print.print_item.Goals as goal

pub returns-in_err-push_event-in-Event-Event-clause-front : goal.returns-in_err-push_event-in-Event-Event-clause-front
returns-in_err-push_event-in-Event-Event-clause-front g c = AppendsFront-nothing _ _

pub returns-in_err-push_drop-in-Drop-Drop-clause-front : goal.returns-in_err-push_drop-in-Drop-Drop-clause-front
returns-in_err-push_drop-in-Drop-Drop-clause-front g c = AppendsFront-nothing _ _

pub returns-in_err-push_ask-in-Ask-Ask-clause-front : goal.returns-in_err-push_ask-in-Ask-Ask-clause-front
returns-in_err-push_ask-in-Ask-Ask-clause-front g c = AppendsFront-nothing _ _

pub returns-in_ok-push_ask-in-Ask-Ask-clause-front : goal.returns-in_ok-push_ask-in-Ask-Ask-clause-front
returns-in_ok-push_ask-in-Ask-Ask-clause-front g c = AppendsFront-nothing _ _
