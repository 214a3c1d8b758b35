-- What a line's reply does to the handles, and that all writers are then as they have to be.
use Rattle.std.proofs.Common.{◌≡◌, ◌≢◌, ℕ, ◌≤◌, List, ◌∷◌, true, ◌==◌, Option, Some, None, ◌⊎◌, inl, inr, refl, sym, ap, ◌∙◌, subst, arith, eq-eqb}
use Rattle.std.specs.FinMap as table
use Rattle.mp_types.specs.HandleName.{HandleName}
use Rattle.mp_types.specs.declared.errno.Errno.TheVariants.{Enomem}
use Rattle.bucket_model.specs.declared.call.Call.{Call}
use Rattle.bucket_model.specs.declared.call.Call.TheVariants as call
use Rattle.upload_rules.specs.Upload.{new_upload}
use Rattle.mount_model.specs.declared.handle.Handle.TheVariants.{Reading, Writing}
use Rattle.mount_model.specs.declared.handle.Version.{Version}
use Rattle.mount_model.specs.declared.request.Request.{Request}
use Rattle.mount_model.specs.declared.request.Request.TheVariants as request
use Rattle.mount_model.specs.declared.request.Reply.{Reply}
use Rattle.mount_model.specs.declared.request.Reply.TheVariants as reply
use Rattle.mount_model.specs.declared.request.Line.{Line}
use Rattle.mount_model.specs.declared.event.Event.{Event}
use Rattle.mount_model.specs.declared.event.Answered.{Answered}
use Rattle.mount_model.specs.declared.standing.Heard.{Heard}
use Rattle.mount_model.specs.declared.standing.Phase.TheVariants.{Waiting, Begun, Replied}
use Rattle.mount_model.specs.declared.standing.Standing.{Standing}
use Rattle.mount_model.specs.Step.{Step}
use Rattle.mount_model.specs.Handles.{Handle, Writer}
use Rattle.mount_model.specs.Conversation.{Next, Asks, Replies, Makes, Opens, Creates, Lists, Writes, Waits}
use Rattle.mount_model.specs.State.{Shared, ClientState, Job, line_at, change_line, lines_at, jobs_at, view_of, handle_name, writes_first, closes, by_reply, reply_in}
use Rattle.run_laws.specs.Alive.{IsAlive}
use Rattle.run_laws.specs.Counts.{any_call, is_create, is_part, is_complete, is_abort, calls_made, calls_out}
use Rattle.run_laws.specs.Uploads.{IsTallied}
use Rattle.run_laws.specs.Writers.{tally, awaits_writer, IsWriter, HasWriters}
use Rattle.run_laws.proofs.Lines.{line_at-same, change-twice}
use Rattle.run_laws.proofs.Jobs.{out-made, kinds-made, kinds-out}
use Rattle.run_laws.proofs.Uploads.{new-tallied}
use Rattle.run_laws.proofs.Places.{new-upload}
use Rattle.run_laws.proofs.Handles.{Look, with_at, look-insert, look-remove, handle-at}
use Rattle.run_laws.proofs.Writers.{stands_as, AllKeep, LinesKeep, keep-same, keep-replied, same-jobs, one-changes, writers-keep, writers-look, phases-apart}
use Rattle.run_laws.proofs.Conversation.{IsFree, opens-free, creates-free, replies-unwritten, awaits-name}
use Rattle.run_laws.proofs.Turn.{SaysSo, ByItself, MakesDir, RemovesDir, OpensHandle, CreatesFile, ListsEntries, GivesData, HasNoMemory, MayLack}
use Rattle.run_laws.proofs.Opened.{IsOpened}
use Rattle.run_laws.proofs.Steps.{next_now}

-- the reply that a line gets in a step
pub reply-first : (n : ℕ) (said : Reply) (more : List Answered) → reply_in n (record { line = n; reply = said } ∷ more) ≡ Some said
reply-first n said more = let same : (n == n) ≡ true = eq-eqb n n refl in rw same refl

-- no effect

pub asks-shared : (called : Call) (line : Line) (step : Step) (shared : Shared) (o : Option Reply) → by_reply (Asks called) line step shared o ≡ shared
asks-shared called line step shared None = refl
asks-shared called line step shared (Some reply.Success) = refl
asks-shared called line step shared (Some (reply.Open size)) = refl
asks-shared called line step shared (Some other) = refl

pub waits-shared : (line : Line) (step : Step) (shared : Shared) (o : Option Reply) → by_reply Waits line step shared o ≡ shared
waits-shared line step shared None = refl
waits-shared line step shared (Some reply.Success) = refl
waits-shared line step shared (Some (reply.Open size)) = refl
waits-shared line step shared (Some other) = refl

-- what a reply does to the handles, by what the line does next

pub data Effect (shared : Shared) (line : Line) (next : Next) (now : Shared) : Type 0 where
  Keeps : ((q : HandleName) → table.get shared.handles q ≡ table.get now.handles q) → Effect shared line next now
  OpensOne : (version : Version) → next ≡ Opens version → ((q : HandleName) → table.get now.handles q ≡ with_at (handle_name line) (Some (Reading line.number version)) (table.get shared.handles) q) → Effect shared line next now
  CreatesOne : (key : List ℕ) → next ≡ Creates key → ((q : HandleName) → table.get now.handles q ≡ with_at (handle_name line) (Some (Writing (writes_first line key shared))) (table.get shared.handles) q) → Effect shared line next now
  ClosesOne : (said : Reply) → next ≡ Replies said → awaits_writer line.request ≡ true → ((q : HandleName) → table.get now.handles q ≡ with_at (handle_name line) None (table.get shared.handles) q) → Effect shared line next now

closes-effect : (number actor : ℕ) (asked : Request) (shared : Shared) → Effect shared (record { number = number; actor = actor; request = asked }) (Replies reply.Success) (closes (record { number = number; actor = actor; request = asked }) shared)
closes-effect number actor (request.Close name) shared = ClosesOne reply.Success refl refl (λ q. look-remove shared.handles (actor, name) q)
closes-effect number actor other shared = Keeps (λ q. refl)

itself-effect : (line : Line) (step : Step) (shared : Shared) (said : Reply) → Effect shared line (Replies said) (by_reply (Replies said) line step shared (Some said))
itself-effect line step shared reply.Success = closes-effect line.number line.actor line.request shared
itself-effect line step shared (reply.Open size) = Keeps (λ q. refl)
itself-effect line step shared other = Keeps (λ q. refl)

lacks-effect : (next : Next) (line : Line) (step : Step) (shared : Shared) → MayLack next → Effect shared line next (by_reply next line step shared (Some (reply.Failed Enomem)))
lacks-effect (Asks called) line step shared may = Keeps (λ q. refl)
lacks-effect (Makes key) line step shared may = Keeps (λ q. refl)
lacks-effect (Opens version) line step shared may = Keeps (λ q. refl)
lacks-effect (Creates key) line step shared may = Keeps (λ q. refl)
lacks-effect (Lists entries) line step shared may = Keeps (λ q. refl)
lacks-effect (Writes count writer) line step shared may = Keeps (λ q. refl)
lacks-effect other line step shared may = absurd may

pub reply-effect : (next : Next) (said : Reply) (line : Line) (step : Step) (shared : Shared) → SaysSo next said → Effect shared line next (by_reply next line step shared (Some said))
reply-effect next said line step shared (ByItself own) = itself-effect line step shared own
reply-effect next said line step shared (MakesDir key) = Keeps (λ q. refl)
reply-effect next said line step shared (RemovesDir key) = Keeps (λ q. refl)
reply-effect next said line step shared (OpensHandle version) = OpensOne version refl (λ q. look-insert shared.handles (handle_name line) (Reading line.number version) q)
reply-effect next said line step shared (CreatesFile key) = CreatesOne key refl (λ q. look-insert shared.handles (handle_name line) (Writing (writes_first line key shared)) q)
reply-effect next said line step shared (ListsEntries entries) = Keeps (λ q. refl)
reply-effect next said line step shared (GivesData count bytes) = Keeps (λ q. refl)
reply-effect next said line step shared (HasNoMemory lacked may) = lacks-effect lacked line step shared may

-- the options stay

itself-options : (line : Line) (step : Step) (shared : Shared) (said : Reply) → (by_reply (Replies said) line step shared (Some said)).options ≡ shared.options
itself-options line step shared reply.Success = go line.request
  where
    go : (asked : Request) → (closes (record { number = line.number; actor = line.actor; request = asked }) shared).options ≡ shared.options
    go (request.Close name) = refl
    go other = refl
itself-options line step shared (reply.Open size) = refl
itself-options line step shared other = refl

lacks-options : (next : Next) (line : Line) (step : Step) (shared : Shared) → MayLack next → (by_reply next line step shared (Some (reply.Failed Enomem))).options ≡ shared.options
lacks-options (Asks called) line step shared may = refl
lacks-options (Makes key) line step shared may = refl
lacks-options (Opens version) line step shared may = refl
lacks-options (Creates key) line step shared may = refl
lacks-options (Lists entries) line step shared may = refl
lacks-options (Writes count writer) line step shared may = refl
lacks-options other line step shared may = absurd may

pub reply-options : (next : Next) (said : Reply) (line : Line) (step : Step) (shared : Shared) → SaysSo next said → (by_reply next line step shared (Some said)).options ≡ shared.options
reply-options next said line step shared (ByItself own) = itself-options line step shared own
reply-options next said line step shared (MakesDir key) = refl
reply-options next said line step shared (RemovesDir key) = refl
reply-options next said line step shared (OpensHandle version) = refl
reply-options next said line step shared (CreatesFile key) = refl
reply-options next said line step shared (ListsEntries entries) = refl
reply-options next said line step shared (GivesData count bytes) = refl
reply-options next said line step shared (HasNoMemory lacked may) = lacks-options lacked line step shared may

-- the lines once the line whose turn it was has its reply

pub replied-lines : (state : ClientState) (event : Event) → (opened : IsOpened state event) → change_line opened.n (λ phase. Replied) (lines_at state.lines state.jobs event) ≡ change_line opened.n (λ phase. Replied) state.lines
replied-lines state event opened = ap (change_line opened.n (λ phase. Replied)) opened.lines_are ∙ change-twice opened.n opened.goes state.lines

-- the line had no reply
pub not-replied : (state : ClientState) (event : Event) → (opened : IsOpened state event) → (line : Line) → line_at opened.n state.lines ≡ stands_as line Replied → ⊥
not-replied state event opened line replied = elim opened.unanswered [
  | inl waits ↦ (let both = phases-apart (line_at opened.n state.lines) opened.line line opened.old Replied opened.found replied in let clash : Waiting ≡ Replied = sym waits ∙ both.1 in cc)
  | inr begun ↦ (let both = phases-apart (line_at opened.n state.lines) opened.line line opened.old Replied opened.found replied in let clash : Begun begun.0 ≡ Replied = sym begun.1 ∙ both.1 in cc)
]

-- and if it had begun, it awaits no writer
not-awaiting : (state : ClientState) (event : Event) → (opened : IsOpened state event) → (line : Line) (heard : Heard) → line_at opened.n state.lines ≡ stands_as line (Begun heard) → awaits_writer line.request ≡ true → ⊥
not-awaiting state event opened line heard begun awaits =
    let both = phases-apart (line_at opened.n state.lines) opened.line line opened.old (Begun heard) opened.found begun in
    let waits = opened.beginning (ap (λ (l : Line). awaits_writer l.request) both.0 ∙ awaits) in
    let clash : Waiting ≡ Begun heard = sym waits ∙ both.1 in
    cc

pub keep-own : (state : ClientState) (event : Event) → (opened : IsOpened state event) → AllKeep state.lines (change_line opened.n (λ phase. Replied) (lines_at state.lines state.jobs event))
keep-own state event opened name = subst (LinesKeep name state.lines) (sym (replied-lines state event opened)) (keep-replied name opened.n state.lines (λ line heard stands awaits. absurd (not-awaiting state event opened line heard stands awaits)))

-- no writer is of this line before
pub line-apart : (state : ClientState) (event : Event) → IsAlive state → (opened : IsOpened state event) → (q : HandleName) (v : Writer) → table.get state.shared.handles q ≡ Some (Writing v) → v.line ≢ opened.n
line-apart state event alive opened q v stands same =
    let is = alive.writers.each q v stands in
    not-replied state event opened is.opener (ap (λ (k : ℕ). line_at k state.lines) (sym same) ∙ is.stands)

-- and no job is of its writer
pub line-unmade : (state : ClientState) (event : Event) → IsAlive state → (opened : IsOpened state event) → calls_made any_call opened.n (jobs_at state.jobs event) ≡ 0
line-unmade state event alive opened = elim (none_or (calls_made any_call opened.n (jobs_at state.jobs event))) [
  | inl none ↦ none
  | inr some ↦ absurd (let count = (opened.same opened.n).made any_call in let replied = alive.writers.opened opened.n (omega arith) in not-replied state event opened replied.line replied.stands)
]
  where
    none_or : (k : ℕ) → (k ≡ 0) ⊎ (1 ≤ k)
    none_or k = grind arith

-- a line that opens a file has a new writer

unmade-of : (kind : Call → ℕ) → ((called : Call) → kind called ≤ 1) → (opened : ℕ) (jobs : List Job) → calls_made any_call opened jobs ≡ 0 → (calls_made kind opened jobs ≡ 0) × (calls_out kind opened jobs ≡ 0)
unmade-of kind most opened jobs none = let made = kinds-made kind most opened jobs in let out = kinds-out kind most opened jobs in (omega arith, omega arith)

create-most : (called : Call) → is_create called ≤ 1
create-most (call.Create key) = omega arith
create-most other = omega arith

part-most : (called : Call) → is_part called ≤ 1
part-most (call.Part id number bytes) = omega arith
part-most other = omega arith

complete-most : (called : Call) → is_complete called ≤ 1
complete-most (call.Complete id parts) = omega arith
complete-most other = omega arith

abort-most : (called : Call) → is_abort called ≤ 1
abort-most (call.Abort id) = omega arith
abort-most other = omega arith

new-writer : (part opened : ℕ) (jobs : List Job) → calls_made any_call opened jobs ≡ 0 → IsTallied (new_upload part) (tally opened jobs)
new-writer part opened jobs none =
    let creates = unmade-of is_create create-most opened jobs none in
    let parts = unmade-of is_part part-most opened jobs none in
    let completes = unmade-of is_complete complete-most opened jobs none in
    let aborts = unmade-of is_abort abort-most opened jobs none in
    new-tallied part (tally opened jobs) creates.0 parts.0 completes.0 aborts.0 creates.1 parts.1 completes.1 aborts.1

-- all writers behind a line's reply

-- the handle under the line's name changes, and is no writer's before
name-changes : (state : ClientState) (event : Event) (opened : IsOpened state event) (o : Option Handle) → IsAlive state → ((v : Writer) → table.get state.shared.handles (handle_name opened.line) ≡ Some (Writing v) → ⊥) → ((v : Writer) → o ≡ Some (Writing v) → IsWriter (change_line opened.n (λ phase. Replied) (lines_at state.lines state.jobs event)) (jobs_at state.jobs event) (handle_name opened.line) v) → HasWriters (change_line opened.n (λ phase. Replied) (lines_at state.lines state.jobs event)) (jobs_at state.jobs event) (with_at (handle_name opened.line) o (table.get state.shared.handles))
name-changes state event opened o alive unwritten writer =
    let lines : List Standing = change_line opened.n (λ phase. Replied) (lines_at state.lines state.jobs event) in
    let jobs : List Job = jobs_at state.jobs event in
    let look : Look = table.get state.shared.handles in
    let name : HandleName = handle_name opened.line in
    let has = writers-keep state.lines lines state.jobs jobs look (keep-own state event opened) opened.same alive.writers in
    let none = line-unmade state event alive opened in
    one-changes lines lines jobs jobs look opened.n name o (record {
      lines_keep = keep-same lines name;
      jobs_keep = λ m apart. same-jobs m jobs;
      before = λ v stands. absurd (unwritten v stands);
      others = λ q v stands apart. line-apart state event alive opened q v stands;
      writer = writer;
      owned = λ some. absurd (let most = out-made any_call opened.n jobs in omega arith);
      opened_by = λ some. absurd (omega arith);
      once = has.once opened.n;
      waited = λ number line heard begun awaits named. absurd (let old = has.waited number line heard begun awaits in unwritten old.writer (ap look (sym named) ∙ old.stands));
    }) has

-- where the line names a handle that isn't live
pub free-unwritten : (state : ClientState) (event : Event) (opened : IsOpened state event) → IsFree (view_of state.shared opened.line) opened.line.request → (v : Writer) → table.get state.shared.handles (handle_name opened.line) ≡ Some (Writing v) → ⊥
free-unwritten state event opened free v stands =
    let none : table.get state.shared.handles (handle_name opened.line) ≡ None = sym (handle-at opened.line free.name state.shared.handles free.names) ∙ free.free in
    cc

pub replied-writers : (state : ClientState) (event : Event) (opened : IsOpened state event) (now : Shared) → IsAlive state → Effect state.shared opened.line (next_now state event opened) now → HasWriters (change_line opened.n (λ phase. Replied) (lines_at state.lines state.jobs event)) (jobs_at state.jobs event) (table.get now.handles)
replied-writers state event opened now alive effect = go effect
  where
    lines : List Standing
    lines = change_line opened.n (λ phase. Replied) (lines_at state.lines state.jobs event)

    jobs : List Job
    jobs = jobs_at state.jobs event

    look : Look
    look = table.get state.shared.handles

    name : HandleName
    name = handle_name opened.line

    replied : line_at opened.n lines ≡ stands_as opened.line Replied
    replied = line_at-same opened.n (λ phase. Replied) (lines_at state.lines state.jobs event) (record { line = opened.line; phase = Begun opened.heard }) opened.now.stands

    by : (o : Option Handle) → ((q : HandleName) → table.get now.handles q ≡ with_at name o look q) → ((v : Writer) → look name ≡ Some (Writing v) → ⊥) → ((v : Writer) → o ≡ Some (Writing v) → IsWriter lines jobs name v) → HasWriters lines jobs (table.get now.handles)
    by o same unwritten writer = writers-look lines jobs (with_at name o look) (table.get now.handles) (λ q. sym (same q)) (name-changes state event opened o alive unwritten writer)

    go : Effect state.shared opened.line (next_now state event opened) now → HasWriters lines jobs (table.get now.handles)
    go (Keeps same) = writers-look lines jobs look (table.get now.handles) same (writers-keep state.lines lines state.jobs jobs look (keep-own state event opened) opened.same alive.writers)
    go (OpensOne version next same) = by (Some (Reading opened.line.number version)) same (free-unwritten state event opened (opens-free (view_of state.shared opened.line) opened.line.request opened.heard version next)) (λ v stands. absurd (cc))
    go (ClosesOne said next awaits same) =
        let named = awaits-name opened.line.request awaits in
        by None same (λ v stands. replies-unwritten (view_of state.shared opened.line) opened.line.request opened.heard said v awaits next (handle-at opened.line named.0 state.shared.handles named.1 ∙ stands)) (λ v stands. absurd (cc))
    go (CreatesOne key next same) =
        let free = creates-free (view_of state.shared opened.line) opened.line.request opened.heard key next in
        let w : Writer = writes_first opened.line key state.shared in
        let none : calls_made any_call w.line jobs ≡ 0 = ap (λ (k : ℕ). calls_made any_call k jobs) opened.number_is ∙ line-unmade state event alive opened in
        by (Some (Writing w)) same (free-unwritten state event opened free.0) (λ v stands. subst (IsWriter lines jobs name) (let is : w ≡ v = cc in is) (record {
          opener = opened.line;
          stands = ap (λ (k : ℕ). line_at k lines) opened.number_is ∙ replied;
          opens = free.1;
          named = refl;
          waits = λ number waits. absurd (cc);
          ended = λ number waits. absurd (cc);
          closing = refl;
          pending = (let most = out-made any_call w.line jobs in omega arith);
          upload = new-upload state.shared.options.part alive.part_low;
          tallied = new-writer state.shared.options.part w.line jobs none;
        }))
