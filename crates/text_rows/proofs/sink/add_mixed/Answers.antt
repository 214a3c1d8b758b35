use Rattle.std.specs.Prelude.{◌≡◌, List, [], ◌∷◌, ◌++◌}
use Rattle.std.proofs.Common.{refl, subst, sym}
use Rattle.mount_model.specs.Step.{HasStep, Step, change_last}
use Rattle.mount_model.proofs.Steps.{HasStep-change_last}
use Rattle.text_rows.proofs.sink.add_mixed.Goals as goal

-- behind a change of its last step a record still has one
changed : (f : Step → Step) (old new : List Step) → new ≡ change_last f old → HasStep old → HasStep new
changed f old new is has = subst HasStep (sym is) (HasStep-change_last f old has)

begun : (before new : List Step) (last : Step) → new ≡ before ++ last ∷ [] → HasStep new
begun before new last is = record { before = before; last = last; are = is }

-- a step that begins and is answered is one
answered : (before events replied : List Step) (last : Step) (f : Step → Step) → events ≡ before ++ last ∷ [] → replied ≡ change_last f events → HasStep replied
answered before events replied last f event reply = changed f events replied reply (begun before events last event)

pub ask-requires-clause-may : goal.ask-requires-clause-may
ask-requires-clause-may c = answered _ _ _ _ _ c.event.ensures.steps c.reply.ensures.steps

pub drop_job-requires-clause-may : goal.drop_job-requires-clause-may
drop_job-requires-clause-may c = changed _ _ _ c.ask.ensures.steps (answered _ _ _ _ _ c.event.ensures.steps c.reply.ensures.steps)

pub drop_job-requires-2-clause-may : goal.drop_job-requires-2-clause-may
drop_job-requires-2-clause-may c =
    changed _ _ _ c.drop_job.ensures.steps (changed _ _ _ c.ask.ensures.steps (answered _ _ _ _ _ c.event.ensures.steps c.reply.ensures.steps))
