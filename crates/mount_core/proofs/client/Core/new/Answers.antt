use Rattle.std.proofs.Common.{ap, ◌∙◌}
use Rattle.std.specs.Prelude.{map}
use Rattle.run_laws.proofs.Lines.{lines-opening}
use Rattle.mount_core.proofs.Events.{core_new}
use Rattle.mount_core.proofs.client.Core.new.Goals as goal

pub invariant_of-result : goal.invariant_of-result
invariant_of-result c =
    let started = c.in_ok-start.ensures in
    core_new c.args.options c.args.script c.in_ok-start.field-0 c.requires.within c.requires.rising started.lines started.steps started.time started.jobs.1 started.jobs.0 started.shared

pub returns-clause-script : goal.returns-clause-script
returns-clause-script c = ap (map (λ s. s.line)) c.in_ok-start.ensures.lines ∙ lines-opening c.args.options c.args.script
