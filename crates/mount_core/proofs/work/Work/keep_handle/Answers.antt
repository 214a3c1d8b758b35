use Rattle.std.proofs.Common.{sym, ◌∙◌}
use Rattle.mount_core.proofs.Turns.{named_free}
use Rattle.mount_core.proofs.work.Work.keep_handle.Goals as goal

pub unreachable-requires-in_default-name_in : goal.unreachable-requires-in_default-name_in
unreachable-requires-in_default-name_in c =
    let place = c.requires.may c.in-Some.standing.now (sym c.in-Some.ensures.value) in
    c.in_default-name_in.not-Some place.name (c.name_in.ensures ∙ place.names)

pub open-requires-clause-free : goal.open-requires-clause-free
open-requires-clause-free c =
    named_free c.in-Some.standing.now.line c.in-Some-name_in.name c.args.self.now (c.requires.may c.in-Some.standing.now (sym c.in-Some.ensures.value)) (sym c.name_in.ensures ∙ c.in-Some-name_in.is)

pub open-requires-clause-place : goal.open-requires-clause-place
open-requires-clause-place c = (c.requires.may c.in-Some.standing.now (sym c.in-Some.ensures.value)).place
