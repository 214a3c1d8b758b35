use Rattle.std.proofs.Common.{ap, ◌∙◌}
use Rattle.mp_rules.specs.Local.{LocalNames, without_name}
use Rattle.mount_model.specs.declared.request.Request.TheVariants.{RemoveDir}
use Rattle.mount_model.specs.State.{Shared}
use Rattle.mount_core.proofs.Turns.{key_removed}
use Rattle.mount_core.proofs.work.Work.remove_name.Goals as goal

pub returns-clause-shared : goal.returns-clause-shared
returns-clause-shared c = λ key s dir.
    let w = c.args.self.now in
    let asks = c.in-RemoveDir.is ∙ ap RemoveDir c.in-Ok.is in
    let is = c.as_key.ensures.text ∙ key_removed c.args.line w.lines c.in-Some.standing.now c.in-Ok.path key c.in-Some.ensures.value asks dir in
    ap (λ (names : LocalNames). let seen : Shared = record { options = w.options; handles = w.handles; names = names } in seen) (c.remove.ensures.names ∙ ap (λ k. without_name k w.names) is)
