-- Each line begins at most once, and is answered at most once, behind its beginning.
use Rattle.std.proofs.Common.{◌≡◌, ℕ, ◌+◌, ◌<◌, ◌≤◌, List, [], ◌∷◌, map, fold, cond, Bool, true, false, ◌==◌, Option, Some, None, ◌⊎◌, inl, inr, refl, sym, ap, ◌∙◌, subst, arith, eqb-true, eq-eqb, ne_eqb}
use Rattle.std.specs.List.{AllByRecursion}
use Rattle.mp_types.specs.declared.options.Opts.{Opts}
use Rattle.mp_types.specs.Options.{AreWithin}
use Rattle.bucket_model.specs.Along.{Along}
use Rattle.mount_model.specs.declared.request.Reply.{Reply}
use Rattle.mount_model.specs.declared.request.Reply.TheVariants as reply
use Rattle.mount_model.specs.declared.request.Line.{Line}
use Rattle.mount_model.specs.declared.event.Event.{Event}
use Rattle.mount_model.specs.declared.event.Answered.{Answered}
use Rattle.mount_model.specs.declared.standing.Heard.{Heard}
use Rattle.mount_model.specs.declared.standing.Phase.{Phase}
use Rattle.mount_model.specs.declared.standing.Phase.TheVariants.{Waiting, Begun, Replied}
use Rattle.mount_model.specs.declared.standing.Standing.{Standing}
use Rattle.mount_model.specs.Step.{Step}
use Rattle.mount_model.specs.State.{ClientState, line_at, change_line, lines_at, with_replies, opening, after, state_after}
use Rattle.mount_model.specs.Run.{AreRising, due_awaits, IsLegalStep, IsRunSoFar, IsRun}
use Rattle.run_laws.specs.Counts.{total}
use Rattle.run_laws.specs.Alive.{IsAlive}
use Rattle.run_laws.specs.Order.{Rises, reply_line}
use Rattle.run_laws.specs.Once.{begins, replies_to, begins_in, replies_in, begun_in, replied_in, for_phase}
use Rattle.run_laws.proofs.Keyed.{item_at-key, total-append, all-found}
use Rattle.run_laws.proofs.Lines.{line_in, number_of, Rises-lines, line_at-same, line_at-other, with_replies-append, lines_of_run, each-line, each-map}
use Rattle.run_laws.proofs.Settled.{settled, settled-is, due-rise, First, Stops, Answers, Passes, first}
use Rattle.run_laws.proofs.Writers.{stands_as}
use Rattle.run_laws.proofs.Turn.{by_number}
use Rattle.run_laws.proofs.Opened.{IsOpened, IsHeard}
use Rattle.run_laws.proofs.Steps.{StepIs, LineStep, WriterStep, TakeStep, step-is}
use Rattle.run_laws.proofs.Alive.{lines_behind, stepped, alive-step, opening-alive, alive}
use Rattle.run_laws.proofs.Own.{OwnIs, NoOwn, OneOwn, own-is}

-- how a line stands after a change, and which begins and replies the change counts
record Moves (m : ℕ) (begun replied : ℕ) (before behind : List Standing) : Type 0 where
  begun_is : for_phase begun_in (line_at m before) + begun ≡ for_phase begun_in (line_at m behind)
  replied_is : for_phase replied_in (line_at m before) + replied ≡ for_phase replied_in (line_at m behind)

no-move : (m : ℕ) (lines : List Standing) → Moves m 0 0 lines lines
no-move m lines = record { begun_is = omega arith; replied_is = omega arith }

-- what is answered further down is no reply to this line
no-replies : (m above : ℕ) (replies : List Answered) → m ≤ above → Rises reply_line above replies → total (replies_to m) replies ≡ 0
no-replies m above [] h r = refl
no-replies m above (reply ∷ replies) h r =
    let first : above < reply.line = r.0 in
    let other : (reply.line == m) ≡ false = ne_eqb reply.line m (omega arith) in
    let none : replies_to m reply ≡ 0 = rw other refl in
    let more = no-replies m reply.line replies (omega arith) r.1 in
    omega arith

-- the awaits that are due

moves-past : (m : ℕ) (s : Standing) (replied : ℕ) (before behind : List Standing) → (total_is : s.line.number ≡ m → replied ≡ 0) → Moves m 0 replied before behind → Moves m 0 replied (s ∷ before) (s ∷ behind)
moves-past m s replied before behind none moves = go (s.line.number == m) refl
  where
    go : (b : Bool) → (s.line.number == m) ≡ b → Moves m 0 replied (s ∷ before) (s ∷ behind)
    go true is = let zero_is : replied ≡ 0 = none (eqb-true s.line.number m is) in record { begun_is = rw is (omega arith); replied_is = rw is (omega arith) }
    go false is = record { begun_is = rw is moves.begun_is; replied_is = rw is moves.replied_is }

settled-moves : (m above : ℕ) (lines : List Standing) → Rises number_of above lines → Moves m 0 (total (replies_to m) (due_awaits lines)) lines (settled lines)
settled-moves m above [] r = record { begun_is = refl; replied_is = refl }
settled-moves m above (s ∷ lines) r = go (first s lines) (settled-moves m s.line.number lines r.1)
  where
    dues : List Answered
    dues = due_awaits lines

    rise : Rises reply_line s.line.number dues
    rise = due-rise s.line.number lines r.1

    by : (replies : List Answered) (behind : List Standing) → due_awaits (s ∷ lines) ≡ replies → settled (s ∷ lines) ≡ behind → Moves m 0 (total (replies_to m) replies) (s ∷ lines) behind → Moves m 0 (total (replies_to m) (due_awaits (s ∷ lines))) (s ∷ lines) (settled (s ∷ lines))
    by replies behind due same moves = subst (λ (t : List Answered). Moves m 0 (total (replies_to m) t) (s ∷ lines) (settled (s ∷ lines))) (sym due) (subst (λ (t : List Standing). Moves m 0 (total (replies_to m) replies) (s ∷ lines) t) (sym same) moves)

    go : First s lines → Moves m 0 (total (replies_to m) dues) lines (settled lines) → Moves m 0 (total (replies_to m) (due_awaits (s ∷ lines))) (s ∷ lines) (settled (s ∷ lines))
    go (Stops due same) moves = by [] (s ∷ lines) due same (no-move m (s ∷ lines))
    go (Answers heard begun awaits due same) moves = by _ _ due same (here (s.line.number == m) refl)
      where
        here : (b : Bool) → (s.line.number == m) ≡ b → Moves m 0 (total (replies_to m) (record { line = s.line.number; reply = reply.Success } ∷ dues)) (s ∷ lines) (record { line = s.line; phase = Replied } ∷ settled lines)
        here true is =
            let same_number : s.line.number ≡ m = eqb-true s.line.number m is in
            let none = no-replies m s.line.number dues (omega arith) rise in
            let old_begun : begun_in s.phase ≡ 1 = ap begun_in begun in
            let old_replied : replied_in s.phase ≡ 0 = ap replied_in begun in
            record { begun_is = rw is (omega arith); replied_is = rw is (omega arith) }
        here false is = record { begun_is = rw is moves.begun_is; replied_is = rw is (let more = moves.replied_is in omega arith) }
    go (Passes replied due same) moves = by dues (s ∷ settled lines) due same (moves-past m s (total (replies_to m) dues) lines (settled lines) (λ same_number. no-replies m s.line.number dues (omega arith) rise) moves)

due-moves : (m : ℕ) (lines : List Standing) → AreRising 0 (map line_in lines) → Moves m 0 (total (replies_to m) (due_awaits lines)) lines (with_replies lines (due_awaits lines))
due-moves m lines rising =
    let rises = Rises-lines 0 lines rising in
    subst (λ (t : List Standing). Moves m 0 (total (replies_to m) (due_awaits lines)) lines t) (sym (settled-is 0 lines rises)) (settled-moves m 0 lines rises)

-- the event

old-replied : (old : Phase) → (old ≡ Waiting) ⊎ ((before : Heard) × (old ≡ Begun before)) → replied_in old ≡ 0
old-replied old unanswered = elim unanswered [ inl waits ↦ ap replied_in waits | inr begun ↦ ap replied_in begun.1 ]

begun-moves : (state : ClientState) (event : Event) → (opened : IsOpened state event) → (m : ℕ) → Moves m (begins m event) 0 state.lines (lines_at state.lines state.jobs event)
begun-moves state event opened = by_number opened.n (λ m. Moves m (begins m event) 0 state.lines (lines_at state.lines state.jobs event))
    (let old_begun : for_phase begun_in (line_at opened.n state.lines) ≡ begun_in opened.old = ap (for_phase begun_in) opened.found in
    let old_replied : for_phase replied_in (line_at opened.n state.lines) ≡ replied_in opened.old = ap (for_phase replied_in) opened.found in
    let new_begun : for_phase begun_in (line_at opened.n (lines_at state.lines state.jobs event)) ≡ 1 = ap (for_phase begun_in) opened.now.stands in
    let new_replied : for_phase replied_in (line_at opened.n (lines_at state.lines state.jobs event)) ≡ 0 = ap (for_phase replied_in) opened.now.stands in
    let own = opened.begins_own in
    let none = old-replied opened.old opened.unanswered in
    record { begun_is = omega arith; replied_is = omega arith })
    (λ m apart.
    let same : line_at m (lines_at state.lines state.jobs event) ≡ line_at m state.lines = ap (line_at m) opened.lines_are ∙ line_at-other opened.n m opened.goes state.lines apart in
    let none = opened.begins_other m apart in
    let same_begun : for_phase begun_in (line_at m (lines_at state.lines state.jobs event)) ≡ for_phase begun_in (line_at m state.lines) = ap (for_phase begun_in) same in
    let same_replied : for_phase replied_in (line_at m (lines_at state.lines state.jobs event)) ≡ for_phase replied_in (line_at m state.lines) = ap (for_phase replied_in) same in
    record { begun_is = omega arith; replied_is = omega arith })

heard-moves : (state : ClientState) (event : Event) → IsHeard state event → (m : ℕ) → Moves m (begins m event) 0 state.lines (lines_at state.lines state.jobs event)
heard-moves state event heard m = let none = heard.begins_none m in subst (λ (t : List Standing). Moves m (begins m event) 0 state.lines t) (sym heard.lines_are) (record { begun_is = omega arith; replied_is = omega arith })

event-moves : (state : ClientState) (step : Step) (own : List Answered) (m : ℕ) → StepIs state step own → Moves m (begins m step.event) 0 state.lines (lines_at state.lines state.jobs step.event)
event-moves state step own m (LineStep opened ended) = begun-moves state step.event opened m
event-moves state step own m (WriterStep heard takes) = heard-moves state step.event heard m
event-moves state step own m (TakeStep number time from is found no_asks no_own no_drops) = subst (λ (e : Event). Moves m (begins m e) 0 state.lines (lines_at state.lines state.jobs e)) (sym is) (no-move m state.lines)

-- the own reply

own-moves : (n : ℕ) (line : Line) (heard : Heard) (lines : List Standing) (said : Reply) → line_at n lines ≡ stands_as line (Begun heard) → (m : ℕ) → Moves m 0 (total (replies_to m) (record { line = n; reply = said } ∷ [])) lines (change_line n (λ phase. Replied) lines)
own-moves n line heard lines said stands = by_number n (λ m. Moves m 0 (total (replies_to m) (record { line = n; reply = said } ∷ [])) lines (change_line n (λ phase. Replied) lines))
    (let new = line_at-same n (λ phase. Replied) lines (record { line = line; phase = Begun heard }) stands in
    let old_begun : for_phase begun_in (line_at n lines) ≡ 1 = ap (for_phase begun_in) stands in
    let old_replied : for_phase replied_in (line_at n lines) ≡ 0 = ap (for_phase replied_in) stands in
    let new_begun : for_phase begun_in (line_at n (change_line n (λ phase. Replied) lines)) ≡ 1 = ap (for_phase begun_in) new in
    let new_replied : for_phase replied_in (line_at n (change_line n (λ phase. Replied) lines)) ≡ 1 = ap (for_phase replied_in) new in
    let same : (n == n) ≡ true = eq-eqb n n refl in
    let one : replies_to n (record { line = n; reply = said }) ≡ 1 = rw same refl in
    record { begun_is = omega arith; replied_is = omega arith })
    (λ m apart.
    let same = line_at-other n m (λ phase. Replied) lines apart in
    let same_begun : for_phase begun_in (line_at m (change_line n (λ phase. Replied) lines)) ≡ for_phase begun_in (line_at m lines) = ap (for_phase begun_in) same in
    let same_replied : for_phase replied_in (line_at m (change_line n (λ phase. Replied) lines)) ≡ for_phase replied_in (line_at m lines) = ap (for_phase replied_in) same in
    let other : (n == m) ≡ false = ne_eqb n m (λ e. apart (sym e)) in
    let none : replies_to m (record { line = n; reply = said }) ≡ 0 = rw other refl in
    record { begun_is = omega arith; replied_is = omega arith })

turn-moves : (state : ClientState) (event : Event) (own : List Answered) (m : ℕ) → OwnIs state event own → Moves m 0 (total (replies_to m) own) (lines_at state.lines state.jobs event) (with_replies (lines_at state.lines state.jobs event) own)
turn-moves state event own m (NoOwn none) = subst (λ (t : List Answered). Moves m 0 (total (replies_to m) t) (lines_at state.lines state.jobs event) (with_replies (lines_at state.lines state.jobs event) t)) (sym none) (no-move m (lines_at state.lines state.jobs event))
turn-moves state event own m (OneOwn n line heard said one stands no_await same is_said whose) = subst (λ (t : List Answered). Moves m 0 (total (replies_to m) t) (lines_at state.lines state.jobs event) (with_replies (lines_at state.lines state.jobs event) t)) (sym one) (own-moves n line heard (lines_at state.lines state.jobs event) said stands m)

-- a step

moves-then : (m begun first second : ℕ) (before between behind : List Standing) → Moves m begun first before between → Moves m 0 second between behind → Moves m begun (first + second) before behind
moves-then m begun first second before between behind f s = let f1 = f.begun_is in let f2 = f.replied_is in let s1 = s.begun_is in let s2 = s.replied_is in record { begun_is = omega arith; replied_is = omega arith }

step-moves : (state : ClientState) (step : Step) (m : ℕ) → IsAlive state → IsLegalStep state step → Moves m (begins m step.event) (total (replies_to m) step.replies) state.lines (after state step).lines
step-moves state step m alive legal =
    let event_lines : List Standing = lines_at state.lines state.jobs step.event in
    let lines : List Standing = lines_behind state step legal.own in
    let closed = (stepped state step alive legal).closed in
    let first = moves-then m (begins m step.event) 0 (total (replies_to m) legal.own) state.lines event_lines lines (event-moves state step legal.own m (step-is state step alive legal)) (turn-moves state step.event legal.own m (own-is state step alive legal)) in
    let both = moves-then m (begins m step.event) (0 + total (replies_to m) legal.own) (total (replies_to m) (due_awaits lines)) state.lines lines (with_replies lines (due_awaits lines)) first (due-moves m lines closed.rising) in
    let same : with_replies event_lines step.replies ≡ with_replies lines (due_awaits lines) = ap (with_replies event_lines) legal.replies ∙ with_replies-append event_lines legal.own (due_awaits lines) in
    let count : total (replies_to m) step.replies ≡ total (replies_to m) legal.own + total (replies_to m) (due_awaits lines) = ap (total (replies_to m)) legal.replies ∙ total-append (replies_to m) legal.own (due_awaits lines) in
    let same_begun : for_phase begun_in (line_at m (with_replies event_lines step.replies)) ≡ for_phase begun_in (line_at m (with_replies lines (due_awaits lines))) = ap (λ (t : List Standing). for_phase begun_in (line_at m t)) same in
    let same_replied : for_phase replied_in (line_at m (with_replies event_lines step.replies)) ≡ for_phase replied_in (line_at m (with_replies lines (due_awaits lines))) = ap (λ (t : List Standing). for_phase replied_in (line_at m t)) same in
    let b = both.begun_is in
    let r = both.replied_is in
    record { begun_is = omega arith; replied_is = omega arith }

-- a run

steps-move : (state : ClientState) (steps : List Step) (m : ℕ) → IsAlive state → Along IsLegalStep after state steps → Moves m (begins_in m steps) (replies_in m steps) state.lines (fold after state steps).lines
steps-move state [] m alive run = no-move m state.lines
steps-move state (step ∷ steps) m alive run =
    let first = step-moves state step m alive run.0 in
    let more = steps-move (after state step) steps m (alive-step state step alive run.0) run.1 in
    let f1 = first.begun_is in
    let f2 = first.replied_is in
    let m1 = more.begun_is in
    let m2 = more.replied_is in
    record { begun_is = omega arith; replied_is = omega arith }

opening-none : (count : Phase → ℕ) → count Waiting ≡ 0 → (m : ℕ) (options : Opts) (script : List Line) → for_phase count (line_at m (opening options script).lines) ≡ 0
opening-none count none m options [] = refl
opening-none count none m options (line ∷ script) = go (line.number == m) (opening-none count none m options script)
  where
    go : (b : Bool) → for_phase count (line_at m (opening options script).lines) ≡ 0 → for_phase count (cond b (Some (record { line = line; phase = Waiting })) (line_at m (opening options script).lines)) ≡ 0
    go true e = none
    go false e = e

pub begun_once : (options : Opts) (script : List Line) (steps : List Step) (m : ℕ) → AreWithin options → AreRising 0 script → IsRunSoFar options script steps → begins_in m steps ≡ for_phase begun_in (line_at m (state_after options script steps).lines)
begun_once options script steps m within rising run =
    let moves = steps-move (opening options script) steps m (opening-alive options script within rising) run in
    let none = opening-none begun_in refl m options script in
    let is = moves.begun_is in
    omega arith

pub replied_once : (options : Opts) (script : List Line) (steps : List Step) (m : ℕ) → AreWithin options → AreRising 0 script → IsRunSoFar options script steps → replies_in m steps ≡ for_phase replied_in (line_at m (state_after options script steps).lines)
replied_once options script steps m within rising run =
    let moves = steps-move (opening options script) steps m (opening-alive options script within rising) run in
    let none = opening-none replied_in refl m options script in
    let is = moves.replied_is in
    omega arith

-- at most once, and no reply before the beginning

phase-most : (phase : Phase) → (replied_in phase ≤ begun_in phase) × (begun_in phase ≤ 1)
phase-most Waiting = (omega arith, omega arith)
phase-most other = (omega arith, omega arith)

most : (o : Option Standing) → (for_phase replied_in o ≤ for_phase begun_in o) × (for_phase begun_in o ≤ 1)
most None = (omega arith, omega arith)
most (Some s) = phase-most s.phase

pub begins_once : (options : Opts) (script : List Line) (steps : List Step) (m : ℕ) → AreWithin options → AreRising 0 script → IsRunSoFar options script steps → begins_in m steps ≤ 1
begins_once options script steps m within rising run = let is = begun_once options script steps m within rising run in let bound = most (line_at m (state_after options script steps).lines) in omega arith

pub replies_behind : (options : Opts) (script : List Line) (steps : List Step) (m : ℕ) → AreWithin options → AreRising 0 script → IsRunSoFar options script steps → replies_in m steps ≤ begins_in m steps
replies_behind options script steps m within rising run =
    let is = begun_once options script steps m within rising run in
    let said = replied_once options script steps m within rising run in
    let bound = most (line_at m (state_after options script steps).lines) in
    omega arith

-- in a whole run each line has one reply

pub each_replied : (options : Opts) (script : List Line) (steps : List Step) → AreWithin options → AreRising 0 script → IsRun options script steps → AllByRecursion (λ line. replies_in line.number steps ≡ 1) script
each_replied options script steps within rising run =
    let lines : List Standing = (state_after options script steps).lines in
    let is_alive = alive options script steps within rising run.so_far in
    let one : (n : ℕ) (s : Standing) → line_at n lines ≡ Some s → replies_in s.line.number steps ≡ 1 = λ n s e.
    let number : s.line.number ≡ n = item_at-key number_of n lines s e in
    let replied : s.phase ≡ Replied = all-found number_of (λ s. s.phase ≡ Replied) n lines s run.quiet.answered e in
    ap (λ (k : ℕ). replies_in k steps) number ∙ replied_once options script steps n within rising run.so_far ∙ ap (for_phase replied_in) e ∙ ap replied_in replied in
    subst (λ (t : List Line). AllByRecursion (λ line. replies_in line.number steps ≡ 1) t) (lines_of_run options script steps)
    (each-map (λ line. replies_in line.number steps ≡ 1) lines (each-line (λ s. replies_in s.line.number steps ≡ 1) 0 lines (Rises-lines 0 lines is_alive.rising) one))
