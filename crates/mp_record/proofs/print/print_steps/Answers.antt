use Rattle.std.proofs.Common.{◌++◌, refl, arith}
use Rattle.mount_model.specs.Step.{steps_of}
use Rattle.mp_record.specs.RecordText.{record_text}
use Rattle.mp_record.specs.ItemText.{items_text}
use Rattle.mp_record.proofs.Appends.{AppendsBut-then, AppendsFront-then}
use Rattle.mp_record.proofs.RecordText.{row_more, step_more}
use Rattle.mp_record.proofs.print.print_steps.Goals as goal

pub returns-in_err-print_step-clause-front : goal.returns-in_err-print_step-clause-front
returns-in_err-print_step-clause-front g c =
    AppendsFront-then _ _ _ c.loop-step.invariant.text c.loop-step.gathered.items (items_text c.in-Some.step.now) _ (record_text (steps_of c.in-Some.behind.now)) _ c.loop-step.invariant.appended refl c.in_err-print_step.ensures.front
    (step_more c.loop-step.invariant.text _ c.loop-step.rest.now c.in-Some.step.now c.in-Some.behind.now c.in-Some.ensures c.loop-step.invariant.row c.loop-step.invariant.is)

pub loop-step-preserved : goal.loop-step-preserved
loop-step-preserved g c = record {
  row = row_more c.loop-step.rest.now c.in-Some.step.now c.in-Some.behind.now c.in-Some.ensures;
  text = c.loop-step.invariant.text ++ items_text c.in-Some.step.now;
  is = step_more c.loop-step.invariant.text _ c.loop-step.rest.now c.in-Some.step.now c.in-Some.behind.now c.in-Some.ensures c.loop-step.invariant.row c.loop-step.invariant.is;
  appended = AppendsBut-then _ _ _ c.loop-step.invariant.text c.loop-step.gathered.items (items_text c.in-Some.step.now) _ _ c.loop-step.invariant.appended refl c.in_ok-print_step.ensures.rest;
  faults = omega (arith, c.print_step.ensures.faults_grow);
}
