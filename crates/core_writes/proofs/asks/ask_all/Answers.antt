use Rattle.std.proofs.Common.{◌≡◌, suc, [], ◌∷◌, refl, ap, ◌∙◌, subst, sym}
use Rattle.mp_types.specs.declared.errno.Errno.TheVariants.{Enomem}
use Rattle.upload_rules.specs.Upload.{with_ask, fails_with}
use Rattle.mount_model.specs.Handles.{Writer}
use Rattle.mount_model.specs.Writers.{asking_for}
use Rattle.mount_model.specs.Conversation.{with_upload}
use Rattle.core_writes.specs.Asked.{HasAsked, HasJobs}
use Rattle.core_writes.proofs.Asked.{IsCallDue, call-due, asked-none, asked-same, asked-more, at_work-more, settled-lack}
use Rattle.core_writes.proofs.Paid.{paid-same, paid-then}
use Rattle.core_writes.proofs.asks.ask_all.Goals as goal

pub loop-ask-init : goal.loop-ask-init
loop-ask-init c = record {
  writer = refl;
  paid = paid-same c.args.jobs.now c.args.journal.now c.args.owed.now c.requires.step c.requires.enough;
  at_work = c.requires.at_work;
  count = 0;
  asked = asked-none c.args.writer.now c.args.jobs.now c.args.journal.now;
}

pub loop-ask-preserved : goal.loop-ask-preserved
loop-ask-preserved c =
    let w : Writer = c.args.writer.now in
    let so_far : Writer = c.loop-ask.writer in
    let ask = c.in-Some.ask in
    let call_due : IsCallDue so_far.upload ask = call-due so_far.upload ask (sym c.next_call.ensures.call ∙ c.in-Some.is) in
    let has : HasJobs w.line (asking_for w.key so_far.upload ask ∷ []) c.loop-ask.jobs c.ask_one.new.jobs c.loop-ask.journal c.ask_one.new.journal =
    subst (λ (t : Writer). HasJobs t.line (asking_for t.key so_far.upload ask ∷ []) c.loop-ask.jobs c.ask_one.new.jobs c.loop-ask.journal c.ask_one.new.journal) c.loop-ask.invariant.writer c.in-Ok.ensures.asked in
    let left : with_ask ask so_far.upload ≡ c.ask_one.new.writer.upload = sym c.in-Ok.ensures.left in
    let asked = asked-more c.loop-ask.invariant.count w so_far.upload ask c.args.jobs.now c.loop-ask.jobs c.ask_one.new.jobs c.args.journal.now c.loop-ask.journal c.ask_one.new.journal c.loop-ask.invariant.asked call_due has in
    let at_work = at_work-more w.line (asking_for w.key so_far.upload ask) ask so_far.upload c.loop-ask.jobs c.ask_one.new.jobs c.loop-ask.journal c.ask_one.new.journal c.loop-ask.invariant.at_work has in
    record {
      writer = c.in-Ok.ensures.writer ∙ ap (with_upload c.ask_one.new.writer.upload) c.loop-ask.invariant.writer;
      paid = paid-then c.args.jobs.now c.loop-ask.jobs c.ask_one.new.jobs c.args.journal.now c.loop-ask.journal c.ask_one.new.journal c.args.owed.now c.loop-ask.owed c.ask_one.new.owed c.loop-ask.invariant.paid c.in-Ok.ensures.paid;
      at_work = rw c.in-Ok.ensures.left at_work;
      count = suc c.loop-ask.invariant.count;
      asked = subst (λ u. HasAsked (suc c.loop-ask.invariant.count) w u c.args.jobs.now c.ask_one.new.jobs c.args.journal.now c.ask_one.new.journal) left asked;
    }

pub returns-in-Err-clause-asks : goal.returns-in-Err-clause-asks
returns-in-Err-clause-asks c =
    let w : Writer = c.args.writer.now in
    let so_far : Writer = c.loop-ask.writer in
    let ask = c.in-Some.ask in
    let call_due : IsCallDue so_far.upload ask = call-due so_far.upload ask (sym c.next_call.ensures.call ∙ c.in-Some.is) in
    let has : HasJobs w.line [] c.loop-ask.jobs c.ask_one.new.jobs c.loop-ask.journal c.ask_one.new.journal =
    subst (λ (t : Writer). HasJobs t.line [] c.loop-ask.jobs c.ask_one.new.jobs c.loop-ask.journal c.ask_one.new.journal) c.loop-ask.invariant.writer c.in-Err.ensures.unasked in
    record {
      count = c.loop-ask.invariant.count;
      behind = so_far.upload;
      asked = asked-same c.loop-ask.invariant.count w so_far.upload c.args.jobs.now c.loop-ask.jobs c.ask_one.new.jobs c.args.journal.now c.loop-ask.journal c.ask_one.new.journal c.loop-ask.invariant.asked has;
      left = c.lack.ensures ∙ ap (fails_with Enomem) c.in-Err.ensures.stays ∙ settled-lack so_far.upload ask call_due;
    }
