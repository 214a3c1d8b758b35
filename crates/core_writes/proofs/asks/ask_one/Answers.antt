use Rattle.std.proofs.Common.{◌+◌, Some, Result, Ok, Err, refl, ap}
use Rattle.std.specs.Result.{OnErr}
use Rattle.mount_model.proofs.Steps.{HasStep-change_last}
use Rattle.job_table.specs.LiveJobs.{Held, LiveJobs}
use Rattle.core_writes.proofs.Asked.{has-none}
use Rattle.core_writes.proofs.Paid.{paid-ask}
use Rattle.core_writes.proofs.asks.ask_one.Goals as goal

-- what holds anyway
anyway : {T E P : Type 0} (r : Result T E) → P → OnErr r P
anyway (Ok x) holds = tt
anyway (Err e) holds = holds

pub returns-in_err-job-clause-unasked : goal.returns-in_err-job-clause-unasked
returns-in_err-job-clause-unasked c = anyway c.from_residual.result (has-none c.args.writer.now.line c.args.jobs.now c.args.jobs.now c.args.journal.now c.args.journal.now refl refl)

pub returns-in_err-ask-clause-unasked : goal.returns-in_err-ask-clause-unasked
returns-in_err-ask-clause-unasked c =
    anyway c.from_residual-in_err-ask.result (has-none c.args.writer.now.line c.args.jobs.now c.ask.new.self c.args.journal.now c.ask.new.journal c.in_err-ask.ensures.err c.in_err-ask.ensures.unasked)

pub returns-clause-paid : goal.returns-clause-paid
returns-clause-paid c =
    let job = c.in_ok-job.job in
    let h : Held = record { number = c.args.jobs.now.count + 1; owner = job.owner; line = job.line; call = Some job.call; purpose = job.purpose } in
    let step = HasStep-change_last _ _ c.requires.step in
    paid-ask c.args.jobs.now c.ask.new.self c.args.journal.now c.ask.new.journal c.args.owed.now h (rw c.in_ok-ask.ensures.steps step) c.in_ok-ask.ensures.known c.in_ok-ask.ensures.room (ap (λ (j : LiveJobs). j.held) c.in_ok-ask.ensures.ok) refl
