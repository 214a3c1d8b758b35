-- Each legal step keeps the files and their writers together.
use Rattle.std.proofs.Common.{◌≡◌, ℕ, List, [], ◌∷◌, ◌++◌, fold, true, Option, Some, None, refl, sym, ap, ◌∙◌, subst}
use Rattle.std.specs.FinMap as table
use Rattle.std.specs.Ordering.{nat_cmp}
use Rattle.std.specs.Cmp.Lexicographic.{slice_cmp}
use Rattle.mp_types.specs.HandleName.{HandleName}
use Rattle.mp_types.specs.declared.options.Opts.{Opts}
use Rattle.mp_types.specs.Options.{AreWithin}
use Rattle.bucket_model.specs.Along.{Along}
use Rattle.mp_rules.specs.Local.{with_file}
use Rattle.upload_rules.specs.Upload.{written}
use Rattle.mount_model.specs.declared.handle.Handle.TheVariants.{Writing}
use Rattle.mount_model.specs.declared.request.Reply.{Reply}
use Rattle.mount_model.specs.declared.request.Reply.TheVariants as reply
use Rattle.mount_model.specs.declared.request.Line.{Line}
use Rattle.mount_model.specs.declared.event.Event.{Event}
use Rattle.mount_model.specs.declared.event.Answered.{Answered}
use Rattle.mount_model.specs.Step.{Step}
use Rattle.mount_model.specs.Handles.{Handle, Writer}
use Rattle.mount_model.specs.Writers.{is_under_way}
use Rattle.mount_model.specs.Conversation.{Next, Asks, Writes, Ends, Waits}
use Rattle.mount_model.specs.State.{Shared, ClientState, view_of, handle_name, Turn, was_under_way, with_names, writer_left, by_reply, reply_in, shared_after, turn_at, shared_at_first, opening, after, state_after}
use Rattle.mount_model.specs.Run.{AreRising, due_awaits, IsLegalStep, IsRunSoFar}
use Rattle.run_laws.specs.Alive.{IsAlive}
use Rattle.run_laws.proofs.Handles.{Look, with_at, handle-at}
use Rattle.run_laws.proofs.Conversation.{WritesSo, EndsSo, writes-so, ends-so}
use Rattle.run_laws.proofs.Turn.{Ending, AsksOne, RepliesOne, WritesOn, EndsIt, Rests}
use Rattle.run_laws.proofs.Opened.{IsOpened, IsHeard}
use Rattle.run_laws.proofs.Steps.{next_now, heard_now, StepIs, LineStep, WriterStep, TakeStep, step-is}
use Rattle.run_laws.proofs.Effects.{asks-shared, waits-shared}
use Rattle.run_laws.proofs.Alive.{shared_behind, lines_behind, own-reply, alive-step, opening-alive, no-handle}
use Rattle.name_laws.proofs.Bytes.{GoesOn, goes-same, goes-hears, goes-ends}
use Rattle.name_laws.proofs.Files.{files-look, at-itself, files-grown}
use Rattle.name_laws.proofs.Turns.{SharedFiles, turn-files, reply-files}

-- the turn of a writer, once it has heard an answer or has to end

goes-files : (name : HandleName) (old w : Writer) (step : Step) (shared : Shared) → table.get shared.handles name ≡ Some (Writing old) → w.key ≡ old.key → GoesOn old.upload w.upload → SharedFiles shared → SharedFiles (writer_left name w step shared)
goes-files name old w step shared stands key_is goes has =
    let look : Look = table.get shared.handles in
    let o : Option Handle = Some (Writing old) in
    turn-files name old w step shared (ap was_under_way stands) key_is goes (files-look look (with_at name o look) shared.names (at-itself name o look stands) has)

heard-files : (state : ClientState) (step : Step) → (heard : IsHeard state step.event) → SharedFiles state.shared → SharedFiles (writer_left heard.name (heard_now state step.event heard) step state.shared)
heard-files state step heard has = goes-files heard.name heard.before (heard_now state step.event heard) step state.shared heard.stands refl (goes-hears heard.called heard.said heard.before.upload) has

ends-files : (shared : Shared) (line : Line) (step : Step) (w : Writer) → EndsSo (view_of shared line) line.request w → SharedFiles shared → SharedFiles (writer_left (handle_name line) w step shared)
ends-files shared line step w so has =
    goes-files (handle_name line) so.before w step shared (sym (handle-at line so.name shared.handles so.names) ∙ so.live)
    (ap (λ (x : Writer). x.key) so.now_is)
    (subst (λ (x : Writer). GoesOn so.before.upload x.upload) (sym so.now_is) (goes-ends so.who so.before.upload)) has

-- and once it has taken bytes
writes-files : (shared : Shared) (line : Line) (step : Step) (count : ℕ) (w : Writer) → WritesSo (view_of shared line) line.request count w → SharedFiles shared → SharedFiles (writer_left (handle_name line) w step (with_names (with_file w.key (written w.upload) shared.names) shared))
writes-files shared line step count w so has =
    let name : HandleName = handle_name line in
    let look : Look = table.get shared.handles in
    let stands : look name ≡ Some (Writing so.before) = sym (handle-at line so.name shared.handles so.names) ∙ so.live in
    let old_way : is_under_way so.before.upload.state ≡ true = ap is_under_way so.opened in
    let way : is_under_way w.upload.state ≡ true = ap (λ (x : Writer). is_under_way x.upload.state) so.now_is ∙ old_way in
    turn-files name w w step (with_names (with_file w.key (written w.upload) shared.names) shared) (ap was_under_way stands ∙ old_way ∙ sym way) refl (goes-same w.upload)
    (files-grown look shared.names name so.before w stands old_way (ap (λ (x : Writer). x.key) so.now_is) way has)

-- each turn

line-files : (state : ClientState) (step : Step) (own more : List Answered) → (opened : IsOpened state step.event) → step.replies ≡ own ++ more → Ending state step opened.line opened.who (next_now state step.event opened) own → SharedFiles state.shared → SharedFiles (shared_behind state step)
line-files state step own more opened replies ended has = go ended
  where
    line : Line
    line = opened.line

    shared : Shared
    shared = state.shared

    said_to : Option Reply
    said_to = reply_in line.number step.replies

    -- by what the line does next, and the reply that it gets
    by : (next : Next) (said : Option Reply) → next_now state step.event opened ≡ next → said_to ≡ said → SharedFiles (by_reply next line step shared said) → SharedFiles (shared_behind state step)
    by next said next_is said_is files = subst SharedFiles (sym (ap (λ (t : Turn). shared_after t step shared) opened.turn ∙ ap (λ (x : Next). by_reply x line step shared said_to) next_is ∙ ap (by_reply next line step shared) said_is)) files

    go : Ending state step line opened.who (next_now state step.event opened) own → SharedFiles (shared_behind state step)
    go (AsksOne called is asks none no_drops) = by (Asks called) said_to is refl (subst SharedFiles (sym (asks-shared called line step shared said_to)) has)
    go (RepliesOne said says no_asks one no_drops) =
        let next : Next = next_now state step.event opened in
        by next (Some said) refl (own-reply line.number step said own more [] replies one) (reply-files state step.event opened step next said refl has says)
    go (WritesOn count w answers is takes one) = by (Writes count w) (Some (reply.Wrote count)) is (own-reply line.number step (reply.Wrote count) own more answers replies one) (writes-files shared line step count w (writes-so (view_of shared line) line.request opened.heard count w is) has)
    go (EndsIt w is takes) = by (Ends w) said_to is refl (ends-files shared line step w (ends-so (view_of shared line) line.request opened.heard w is) has)
    go (Rests is no_asks none no_drops) = by Waits said_to is refl (subst SharedFiles (sym (waits-shared line step shared said_to)) has)

pub files-step : (state : ClientState) (step : Step) → IsAlive state → SharedFiles state.shared → IsLegalStep state step → SharedFiles (after state step).shared
files-step state step alive has legal = go (step-is state step alive legal)
  where
    go : StepIs state step legal.own → SharedFiles (shared_behind state step)
    go (LineStep opened ended) = line-files state step legal.own (due_awaits (lines_behind state step legal.own)) opened legal.replies ended has
    go (WriterStep heard takes) = subst SharedFiles (sym (ap (λ (t : Turn). shared_after t step state.shared) heard.turn)) (heard-files state step heard has)
    go (TakeStep number time from is found no_asks no_own no_drops) = subst SharedFiles (sym (ap (λ (e : Event). shared_after (turn_at state e) step state.shared) is)) has

files-steps : (state : ClientState) (steps : List Step) → IsAlive state → SharedFiles state.shared → Along IsLegalStep after state steps → SharedFiles (fold after state steps).shared
files-steps state [] alive has run = has
files-steps state (step ∷ steps) alive has run = files-steps (after state step) steps (alive-step state step alive run.0) (files-step state step alive has run.0) run.1

-- before the first step

no-file : (key : List ℕ) → table.get (table.empty {X = ℕ} {R = slice_cmp nat_cmp}) key ≡ None
no-file key = table.get-empty (slice_cmp nat_cmp) key

opening-files : (options : Opts) → SharedFiles (shared_at_first options)
opening-files options = record {
  each = λ q w stands way. absurd (let none = no-handle q in cc);
  alone = λ q p v w first second v_way w_way one. absurd (let none = no-handle q in cc);
  owned = λ key size is. absurd (let none = no-file key in cc);
  apart = λ key is. no-file key;
}

pub run-files : (options : Opts) (script : List Line) (steps : List Step) → AreWithin options → AreRising 0 script → IsRunSoFar options script steps → SharedFiles (state_after options script steps).shared
run-files options script steps within rising run = files-steps (opening options script) steps (opening-alive options script within rising) (opening-files options) run
