use Rattle.std.proofs.Common.{refl}
use Rattle.run_laws.proofs.Conversation.{calls_left_fall, path_calls, walk_calls, list_calls}
use Rattle.run_laws.proofs.Calls.{calls_bound}
use Rattle.run_laws.proofs.calls_are_few.Goals as goal

pub returns-clause-run : goal.returns-clause-run
returns-clause-run c = calls_bound

pub returns-clause-falls : goal.returns-clause-falls
returns-clause-falls c = calls_left_fall

pub returns-clause-stat : goal.returns-clause-stat
returns-clause-stat c = walk_calls

pub returns-clause-open : goal.returns-clause-open
returns-clause-open c = λ name. walk_calls

pub returns-clause-open_write : goal.returns-clause-open_write
returns-clause-open_write c = λ name. walk_calls

pub returns-clause-open_truncate : goal.returns-clause-open_truncate
returns-clause-open_truncate c = λ name. walk_calls

pub returns-clause-make : goal.returns-clause-make
returns-clause-make c = walk_calls

pub returns-clause-remove : goal.returns-clause-remove
returns-clause-remove c = walk_calls

pub returns-clause-unlink : goal.returns-clause-unlink
returns-clause-unlink c = path_calls 1

pub returns-clause-list : goal.returns-clause-list
returns-clause-list c = list_calls

pub returns-clause-faulty : goal.returns-clause-faulty
returns-clause-faulty c = λ why. refl

pub returns-clause-faulty_open : goal.returns-clause-faulty_open
returns-clause-faulty_open c = λ name why. refl

pub returns-clause-faulty_open_write : goal.returns-clause-faulty_open_write
returns-clause-faulty_open_write c = λ name why. refl

pub returns-clause-faulty_open_truncate : goal.returns-clause-faulty_open_truncate
returns-clause-faulty_open_truncate c = λ name why. refl

pub returns-clause-faulty_make : goal.returns-clause-faulty_make
returns-clause-faulty_make c = λ why. refl

pub returns-clause-faulty_remove : goal.returns-clause-faulty_remove
returns-clause-faulty_remove c = λ why. refl

pub returns-clause-faulty_unlink : goal.returns-clause-faulty_unlink
returns-clause-faulty_unlink c = λ why. refl

pub returns-clause-faulty_list : goal.returns-clause-faulty_list
returns-clause-faulty_list c = λ why. refl
