-- A step's drops, asks and replies stand in order.
use Rattle.std.proofs.Common.{◌≡◌, ◌≢◌, ℕ, ◌<◌, List, [], ◌∷◌, ◌++◌, length, Bool, true, false, ◌==◌, if◌then◌else◌, Some, refl, sym, ◌∙◌, subst, arith, eqb-true}
use Rattle.std.specs.List.{AllByRecursion}
use Rattle.mp_types.specs.declared.options.Opts.{Opts}
use Rattle.mp_types.specs.Options.{AreWithin}
use Rattle.bucket_model.specs.Along.{Along}
use Rattle.mount_model.specs.declared.request.Line.{Line}
use Rattle.mount_model.specs.declared.event.Answered.{Answered}
use Rattle.mount_model.specs.declared.standing.Phase.TheVariants.{Begun, Replied}
use Rattle.mount_model.specs.declared.standing.Standing.{Standing}
use Rattle.mount_model.specs.Step.{Step}
use Rattle.mount_model.specs.State.{ClientState, view_of, line_at, change_line, lines_at, with_replies, opening, after}
use Rattle.mount_model.specs.Run.{AreRising, due_awaits, IsLegalStep, IsRunSoFar}
use Rattle.run_laws.specs.Alive.{IsAlive}
use Rattle.run_laws.specs.Order.{Rises, asked_job, reply_line, IsInOrder}
use Rattle.run_laws.proofs.Keyed.{item_at-above, change_at-none}
use Rattle.run_laws.proofs.Lines.{number_of, changed, Rises-lines, line_at-same}
use Rattle.run_laws.proofs.Settled.{First, Stops, Answers, Passes, first, due-rise, due-replied, answered-due}
use Rattle.run_laws.proofs.WriterTurn.{writer-asks-rise}
use Rattle.run_laws.proofs.Conversation.{writes-so, ends-so}
use Rattle.run_laws.proofs.Turn.{Ending, AsksOne, RepliesOne, WritesOn, EndsIt, Rests}
use Rattle.run_laws.proofs.Opened.{IsOpened}
use Rattle.run_laws.proofs.Steps.{next_now, heard_now, StepIs, LineStep, WriterStep, TakeStep, step-is, heard-ready, ends-ready, writes-ready}
use Rattle.run_laws.proofs.Alive.{turned, stepped, alive-step, opening-alive}
use Rattle.run_laws.proofs.Own.{OwnIs, NoOwn, OneOwn, own-is}

-- where nothing was due, what becomes due by a reply stands below it
due-past : (above n : ℕ) (lines : List Standing) → Rises number_of above lines → due_awaits lines ≡ [] → Rises reply_line n (due_awaits (change_line n (λ phase. Replied) lines))
due-past above n [] r e = tt
due-past above n (s ∷ lines) r e = go (s.line.number == n) refl (first s lines) (due-past s.line.number n lines r.1)
  where
    rest : List Standing
    rest = change_line n (λ phase. Replied) lines

    past : (t : Standing) → First t rest → (t.phase ≡ Replied → Rises reply_line n (due_awaits rest)) → First t lines → due_awaits (t ∷ lines) ≡ [] → Rises reply_line n (due_awaits (t ∷ rest))
    past t (Stops due same) ih now none = rw due tt
    past t (Passes replied due same) ih now none = rw due (ih replied)
    past t (Answers heard begun awaits due same) ih (Stops now_due now_same) none = absurd (let answers : due_awaits (t ∷ lines) ≢ [] = answered-due t lines heard begun awaits in answers none)
    past t (Answers heard begun awaits due same) ih (Answers heard' begun' awaits' now_due now_same) none = absurd (let clash = sym now_due ∙ none in cc)
    past t (Answers heard begun awaits due same) ih (Passes replied now_due now_same) none = absurd (let clash : Begun heard ≡ Replied = sym begun ∙ replied in cc)

    go : (b : Bool) → (s.line.number == n) ≡ b → First s lines → (due_awaits lines ≡ [] → Rises reply_line n (due_awaits rest)) → Rises reply_line n (due_awaits ((if b then changed (λ phase. Replied) s else s) ∷ rest))
    go true is now ih =
        let number : s.line.number ≡ n = eqb-true s.line.number n is in
        let below : rest ≡ lines = change_at-none number_of (changed (λ phase. Replied)) s.line.number n lines (omega arith) r.1 in
        rw below (subst (λ (k : ℕ). Rises reply_line k (due_awaits lines)) number (due-rise s.line.number lines r.1))
    go false is now ih = past s (first s rest) (λ replied. ih (sym (due-replied s lines replied) ∙ e)) now e

-- the asks and the drops of a turn

pub record IsOrdered (step : Step) : Type 0 where
  pub drops : Rises (λ job. job) 0 step.drops
  pub asks : Rises asked_job 0 step.asks

ordered-line : (state : ClientState) (step : Step) (own : List Answered) (opened : IsOpened state step.event) → IsAlive state → Ending state step opened.line opened.who (next_now state step.event opened) own → IsOrdered step
ordered-line state step own opened alive ended = go ended
  where
    none : step.drops ≡ [] → Rises (λ job. job) 0 step.drops
    none no_drops = subst (Rises (λ job. job) 0) (sym no_drops) tt

    go : Ending state step opened.line opened.who (next_now state step.event opened) own → IsOrdered step
    go (AsksOne called is asks no_own no_drops) = record { drops = none no_drops; asks = subst (Rises asked_job 0) (sym asks) (omega arith, tt) }
    go (RepliesOne said says no_asks one no_drops) = record { drops = none no_drops; asks = subst (Rises asked_job 0) (sym no_asks) tt }
    go (WritesOn count w answers is takes one) =
        let so = writes-so (view_of state.shared opened.line) opened.line.request opened.heard count w is in
        record { drops = (turned state step _ w (length so.bytes) answers (writes-ready state step.event opened count w alive so) takes).in_order; asks = writer-asks-rise state step w answers takes }
    go (EndsIt w is takes) =
        let so = ends-so (view_of state.shared opened.line) opened.line.request opened.heard w is in
        record { drops = (turned state step _ w 0 own (ends-ready state step.event opened w alive so) takes).in_order; asks = writer-asks-rise state step w own takes }
    go (Rests is no_asks no_own no_drops) = record { drops = none no_drops; asks = subst (Rises asked_job 0) (sym no_asks) tt }

ordered : (state : ClientState) (step : Step) (own : List Answered) → IsAlive state → StepIs state step own → IsOrdered step
ordered state step own alive (LineStep opened ended) = ordered-line state step own opened alive ended
ordered state step own alive (WriterStep heard takes) = record { drops = (turned state step heard.name (heard_now state step.event heard) 0 own (heard-ready state step.event alive heard) takes).in_order; asks = writer-asks-rise state step (heard_now state step.event heard) own takes }
ordered state step own alive (TakeStep number time from is found no_asks no_own no_drops) = record { drops = subst (Rises (λ job. job) 0) (sym no_drops) tt; asks = subst (Rises asked_job 0) (sym no_asks) tt }

-- and its replies

replies-rise : (state : ClientState) (step : Step) (own : List Answered) → IsAlive state → Rises number_of 0 (with_replies (lines_at state.lines state.jobs step.event) own) → OwnIs state step.event own → Rises reply_line 0 (own ++ due_awaits (with_replies (lines_at state.lines state.jobs step.event) own))
replies-rise state step own alive rises (NoOwn none) = subst (λ (t : List Answered). Rises reply_line 0 (t ++ due_awaits (with_replies (lines_at state.lines state.jobs step.event) own))) (sym none) (due-rise 0 (with_replies (lines_at state.lines state.jobs step.event) own) rises)
replies-rise state step own alive rises (OneOwn n line heard said one stands no_await same is_said whose) =
    let lines : List Standing = lines_at state.lines state.jobs step.event in
    let here : 0 < n = item_at-above number_of 0 n (with_replies lines own) (record { line = line; phase = Replied }) rises (subst (λ (t : List Answered). line_at n (with_replies lines t) ≡ Some (record { line = line; phase = Replied })) (sym one) (line_at-same n (λ phase. Replied) lines (record { line = line; phase = Begun heard }) stands)) in
    let below = due-past 0 n state.lines (Rises-lines 0 state.lines alive.rising) alive.no_due in
    subst (λ (t : List Answered). Rises reply_line 0 (t ++ due_awaits (with_replies lines t))) (sym one) (here, subst (λ (t : List Standing). Rises reply_line n (due_awaits t)) (sym same) below)

pub in_order : (state : ClientState) (step : Step) → IsAlive state → IsLegalStep state step → IsInOrder step
in_order state step alive legal =
    let order = ordered state step legal.own alive (step-is state step alive legal) in
    let closed = (stepped state step alive legal).closed in
    record {
      drops = order.drops;
      asks = order.asks;
      replies = subst (Rises reply_line 0) (sym legal.replies) (replies-rise state step legal.own alive (Rises-lines 0 (with_replies (lines_at state.lines state.jobs step.event) legal.own) closed.rising) (own-is state step alive legal));
    }

in_order-steps : (state : ClientState) (steps : List Step) → IsAlive state → Along IsLegalStep after state steps → AllByRecursion IsInOrder steps
in_order-steps state [] alive run = tt
in_order-steps state (step ∷ steps) alive run = (in_order state step alive run.0, in_order-steps (after state step) steps (alive-step state step alive run.0) run.1)

pub run_in_order : (options : Opts) (script : List Line) (steps : List Step) → AreWithin options → AreRising 0 script → IsRunSoFar options script steps → AllByRecursion IsInOrder steps
run_in_order options script steps within rising run = in_order-steps (opening options script) steps (opening-alive options script within rising) run
