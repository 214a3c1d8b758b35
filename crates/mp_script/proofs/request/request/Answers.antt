use Rattle.mp_script.proofs.Asking.{awaits_none}
use Rattle.mp_script.proofs.request.request.Goals as goal

pub returns-in-Await : goal.returns-in-Await
returns-in-Await c = rw c.in-Await.is (awaits_none c.args.text.now)
