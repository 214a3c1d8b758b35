use Rattle.std.proofs.Common.{sym}
use Rattle.std.specs.Prelude.{option_copied}
use Rattle.mount_plan.specs.Seen.{view_of}
use Rattle.mount_core.proofs.Dues.{due_stands, due_whose, due_tells}
use Rattle.mount_core.proofs.work.Work.due.Goals as goal

pub returns-clause-means : goal.returns-clause-means
returns-clause-means c =
    due_stands c.due_of.result c.args.line (option_copied c.args.last) c.args.self.now c.in-Some.standing.now c.in-Begun.heard (view_of c.view.result) (sym c.in-Some.ensures.value) c.in-Begun.is c.view.ensures c.due_of.ensures.means

pub returns-clause-whose : goal.returns-clause-whose
returns-clause-whose c =
    due_whose c.due_of.result c.args.line c.args.self.now c.in-Some.standing.now (view_of c.view.result) (sym c.in-Some.ensures.value) c.view.ensures c.due_of.ensures.whose

pub returns-clause-tells : goal.returns-clause-tells
returns-clause-tells c =
    due_tells c.due_of.result c.args.line c.args.self.now c.in-Some.standing.now (view_of c.view.result) (sym c.in-Some.ensures.value) c.view.ensures c.due_of.ensures.tells
