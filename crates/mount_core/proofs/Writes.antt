-- How a line's write ends.
use Rattle.std.proofs.Common.{◌≡◌, ℕ, true, List, [], ◌∷◌, Option, Some, refl, sym, ap, ◌∙◌, subst, inl, inr}
use Rattle.std.specs.FinMap.{get, insert}
use Rattle.std.specs.Prelude.{IsSome}
use Rattle.mp_types.specs.declared.octets.Data.{Data}
use Rattle.mp_types.specs.Content.{bytes_of}
use Rattle.mp_types.specs.HandleName.{HandleName}
use Rattle.mp_types.specs.declared.errno.Errno.{Errno}
use Rattle.mp_types.specs.declared.errno.Errno.TheVariants.{Enomem}
use Rattle.mp_rules.specs.Local.{with_file}
use Rattle.upload_rules.specs.declared.upload.UpState.TheVariants.{Open}
use Rattle.upload_rules.specs.Upload.{with_bytes, written}
use Rattle.mount_model.specs.declared.handle.Handle.TheVariants.{Writing}
use Rattle.mount_model.specs.declared.request.Line.{Line}
use Rattle.mount_model.specs.declared.request.Request.{Request}
use Rattle.mount_model.specs.declared.request.Request.TheVariants.{Write}
use Rattle.mount_model.specs.declared.request.Reply.TheVariants as reply
use Rattle.mount_model.specs.declared.event.Answered.{Answered}
use Rattle.mount_model.specs.declared.event.Owner.{Owner}
use Rattle.mount_model.specs.declared.standing.Heard.{Heard}
use Rattle.mount_model.specs.declared.standing.Phase.TheVariants.{Replied}
use Rattle.mount_model.specs.declared.standing.Standing.{Standing}
use Rattle.mount_model.specs.declared.standing.Told.{Told}
use Rattle.mount_model.specs.Heard.{nothing_heard}
use Rattle.mount_model.specs.Step.{Step, change_last, HasStep}
use Rattle.mount_model.specs.Handles.{Handle, Handles, Writer, handle_of, name_in}
use Rattle.mount_model.specs.Writers.{is_under_way}
use Rattle.mount_model.specs.Conversation.{Next, View, Writes, fails, next_of, with_upload, write_next, write_to}
use Rattle.mount_model.specs.State.{ClientState, Shared, Turn, TurnOf, by_reply, change_line, handle_name, holds, line_at, reply_in, view_of, with_handles, with_names, writer_left}
use Rattle.mount_model.specs.Run.{TakesTurnOfLine}
use Rattle.run_laws.specs.Writers.{waiting_line}
use Rattle.run_laws.proofs.Conversation.{WritesSo, writes-so}
use Rattle.run_laws.proofs.Effects.{reply-first}
use Rattle.run_laws.proofs.Handles.{some-writer}
use Rattle.mount_plan.specs.Meant.{with_last}
use Rattle.line_table.specs.Table.{HasBegun}
use Rattle.file_handles.specs.Writing.{IsRefused, LacksMemory, Wrote}
use Rattle.file_handles.proofs.Tables.{get_put}
use Rattle.mount_core.specs.declared.work.Work.{Work}
use Rattle.mount_core.specs.Shared.{shared_in}
use Rattle.mount_core.specs.Turn.{Answers, HasWriter, MayTurn, SharedAlone, Takes, WriterTurned, heard_last, lines_behind, next_behind, owner_behind, turn_behind, with_part}
use Rattle.mount_core.specs.Writing.{HasRefused, HasWritten, WritesTo}
use Rattle.mount_core.proofs.Changes.{change_line-twice, line_at-change}
use Rattle.mount_core.proofs.Dues.{next-seen, number-is, turn-is}
use Rattle.mount_core.proofs.Turns.{takes_replying}
use Rattle.mount_core.proofs.Writers.{has_writer, named-holds, named-pair}
use Rattle.mount_core.proofs.WriterTurns.{begun-standing, takes_turned}

-- what the line does next goes by its writer
next-writes : (n : ℕ) (work : Work) (to : WritesTo n work) (heard : Heard) → next_of (view_of (shared_in work) to.standing.line) to.standing.line.request heard ≡ write_to to.write.writer to.write.offset (bytes_of to.write.content)
next-writes n work to heard =
    let view : View = view_of (shared_in work) to.standing.line in
    ap (λ (r : Request). next_of view r heard) to.write.is ∙ ap (λ (h : Option Handle). write_next h to.write.offset (bytes_of to.write.content)) to.write.holds

pub behind-writes : (n : ℕ) (last : Option Told) (work : Work) → HasBegun n work.lines → (to : WritesTo n work) → next_behind n last work ≡ write_to to.write.writer to.write.offset (bytes_of to.write.content)
behind-writes n last work begun to =
    next-seen n last work begun
    ∙ ap (λ (s : Standing). next_of (view_of (shared_in work) s.line) s.line.request (with_last last begun.heard)) (sym (begun-standing n work.lines to.standing begun to.stands))
    ∙ next-writes n work to (with_last last begun.heard)

-- a writer that takes bytes takes more, and is else as it was
pub record TakesBytes (w next : Writer) : Type 0 where
  pub opened : w.upload.state ≡ Open
  pub bytes : List ℕ
  pub next_is : next ≡ with_upload (with_bytes bytes w.upload) w

pub takes_bytes : (n count : ℕ) (work : Work) (to : WritesTo n work) (next : Writer) → write_to to.write.writer to.write.offset (bytes_of to.write.content) ≡ Writes count next → TakesBytes to.write.writer next
takes_bytes n count work to next writes =
    let so : WritesSo (view_of (shared_in work) to.standing.line) to.standing.line.request count next = writes-so (view_of (shared_in work) to.standing.line) to.standing.line.request nothing_heard count next (next-writes n work to nothing_heard ∙ writes) in
    let same : so.before ≡ to.write.writer = some-writer so.before to.write.writer (sym so.live ∙ to.write.holds) in
    subst (λ (w : Writer). TakesBytes w next) same (record { opened = so.opened; bytes = so.bytes; next_is = so.now_is })

-- the line that is found names the writer
pub names_writer : (n : ℕ) (work : Work) (to : WritesTo n work) (s : Standing) → line_at n work.lines ≡ Some s → handle_of s.line work.handles ≡ Some (Writing to.write.writer)
names_writer n work to s stands =
    let found : Some to.standing ≡ Some s = sym to.stands ∙ stands in
    let same : to.standing ≡ s = cc in
    subst (λ (t : Standing). handle_of t.line work.handles ≡ Some (Writing to.write.writer)) same to.write.holds

-- and writes as its request says
abbrev pub write_of : (n : ℕ) (work : Work) (to : WritesTo n work) (s : Standing) (name offset : ℕ) (content : Data) → line_at n work.lines ≡ Some s → s.line.request ≡ Write name offset content → WritesTo n work
write_of n work to s name offset content stands is = record {
  standing = s;
  stands = stands;
  write = record { name = name; offset = offset; content = content; writer = to.write.writer; is = is; holds = names_writer n work to s stands };
}

-- its writer stands under the name that it gives
write-pair : (n : ℕ) (work : Work) (to : WritesTo n work) → (to.standing.line.actor, to.write.name) ≡ handle_name to.standing.line
write-pair n work to = named-pair to.standing.line to.write.name (ap name_in to.write.is)

pub write-stands : (n : ℕ) (work : Work) (to : WritesTo n work) → get work.handles (to.standing.line.actor, to.write.name) ≡ Some (Writing to.write.writer)
write-stands n work to = ap (get work.handles) (write-pair n work to) ∙ named-holds to.standing.line work.handles (Writing to.write.writer) to.write.holds

abbrev pub IsWrote : (n count : ℕ) (work : Work) → WritesTo n work → Handles → Type 0
IsWrote n count work to handles = Wrote (to.standing.line.actor, to.write.name) to.write.writer to.write.offset (bytes_of to.write.content) count work.handles handles

pub wrote_handle : (n count : ℕ) (work : Work) (to : WritesTo n work) (handles : Handles) → (wrote : IsWrote n count work to handles) → get handles (to.standing.line.actor, to.write.name) ≡ Some (Writing wrote.next)
wrote_handle n count work to handles wrote =
    let name : HandleName = (to.standing.line.actor, to.write.name) in
    ap (λ (h : Handles). get h name) wrote.handle ∙ get_put work.handles name (Writing wrote.next)

-- its file stands among the names
pub wrote_named : (n count : ℕ) (work : Work) (to : WritesTo n work) (handles : Handles) (w : Writer) → IsWrote n count work to handles → MayTurn to.write.writer work → get handles (to.standing.line.actor, to.write.name) ≡ Some (Writing w) → IsSome (get work.names.files w.key)
wrote_named n count work to handles w wrote may stands =
    let takes = takes_bytes n count work to wrote.next wrote.writes in
    let same : wrote.next ≡ w = some-writer wrote.next w (sym (wrote_handle n count work to handles wrote) ∙ stands) in
    let key : to.write.writer.key ≡ w.key = sym (ap (λ (v : Writer). v.key) takes.next_is) ∙ ap (λ (v : Writer). v.key) same in
    subst (λ (k : List ℕ). IsSome (get work.names.files k)) key (may.named takes.opened)

-- the bytes are written, and counted in the file's size
pub has_written : (n count : ℕ) (old new : Work) (to : WritesTo n old) (handles : Handles) → (wrote : IsWrote n count old to handles) → shared_in new ≡ with_names (with_file wrote.next.key (written wrote.next.upload) old.names) (with_handles handles (shared_in old)) → SharedAlone old new → HasWritten n count old new
has_written n count old new to handles wrote shared alone =
    let seen : Handles → Shared = λ (now : Handles). with_names (with_file wrote.next.key (written wrote.next.upload) old.names) (with_handles now (shared_in old)) in
    record {
      to = to;
      next = wrote.next;
      writes = wrote.writes;
      shared = shared ∙ ap seen wrote.handle ∙ ap (λ (q : HandleName). seen (insert old.handles q (Writing wrote.next))) (write-pair n old to);
      alone = alone;
    }

-- the line stands replied then
pub wrote-stands : (n count : ℕ) (old mid kept : Work) → (wrote : HasWritten n count old mid) → Answers (record { line = n; reply = reply.Wrote count } ∷ []) mid kept → line_at n kept.lines ≡ Some (record { line = wrote.to.standing.line; phase = Replied })
wrote-stands n count old mid kept wrote answers =
    ap (line_at n) answers.lines
    ∙ ap (λ (l : List Standing). line_at n (change_line n (λ phase. Replied) l)) wrote.alone.lines
    ∙ line_at-change n (λ phase. Replied) old.lines wrote.to.standing wrote.to.stands

-- what lines see with the bytes counted, before the writer has them
abbrev pub seen_with : Writer → Shared → Shared
seen_with next shared = with_names (with_file next.key (written next.upload) shared.names) shared

-- so its writer has been put under its name
pub wrote-put : (n count : ℕ) (name : HandleName) (old mid kept : Work) → (wrote : HasWritten n count old mid) → shared_in kept ≡ shared_in mid → name ≡ handle_name wrote.to.standing.line → shared_in kept ≡ holds name (Writing wrote.next) (seen_with wrote.next (shared_in old))
wrote-put n count name old mid kept wrote seen named = seen ∙ wrote.shared ∙ ap (λ (q : HandleName). holds q (Writing wrote.next) (seen_with wrote.next (shared_in old))) (sym named)

pub may_write : (n count : ℕ) (name : HandleName) (old mid kept : Work) → (wrote : HasWritten n count old mid) → Answers (record { line = n; reply = reply.Wrote count } ∷ []) mid kept → shared_in kept ≡ shared_in mid → name ≡ handle_name wrote.to.standing.line → MayTurn wrote.to.write.writer old → HasWriter name kept
may_write n count name old mid kept wrote answers seen named may =
    let takes = takes_bytes n count old wrote.to wrote.next wrote.writes in
    has_writer name wrote.next old kept (seen_with wrote.next (shared_in old)) (wrote-put n count name old mid kept wrote seen named) (answers.jobs ∙ wrote.alone.jobs) (rw takes.next_is may.at_work) (λ number waits. absurd (may.unwaited number (sym (ap (λ (w : Writer). waiting_line w.waiter) takes.next_is) ∙ waits)))

pub takes_written : (n count : ℕ) (last : Option Told) (bytes : List ℕ) (name : HandleName) (old mid kept new : Work) → HasBegun n old.lines → HasStep old.record.steps →
    (wrote : HasWritten n count old mid) →
    Answers (record { line = n; reply = reply.Wrote count } ∷ []) mid kept →
    shared_in kept ≡ shared_in mid →
    name ≡ handle_name wrote.to.standing.line →
    WriterTurned name true wrote.next kept new →
    Takes (turn_behind n last old) (lines_behind n last old) bytes old new
takes_written n count last bytes name old mid kept new begun has wrote answers seen named turned =
    let w : Writer = wrote.next in
    let to : WritesTo n old = wrote.to in
    let line : Line = begun.standing.line in
    let who : Owner = owner_behind n last old in
    let first : List Answered = record { line = n; reply = reply.Wrote count } ∷ [] in
    let shared : Shared = seen_with w (shared_in old) in
    let number : line.number ≡ n = number-is n old.lines begun.standing begun.stands in
    let turn : turn_behind n last old ≡ TurnOf line who (Writes count w) = turn-is n last old begun (Writes count w) (behind-writes n last old begun to ∙ wrote.writes) in
    let name_is : name ≡ handle_name line = named ∙ ap (λ (s : Standing). handle_name s.line) (begun-standing n old.lines to.standing begun to.stands) in
    subst (λ (t : Turn). Takes t (lines_behind n last old) bytes old new) (sym turn) (takes_turned (TurnOf line who (Writes count w)) name true w first bytes (lines_behind n last old) shared old kept new has (record {
      before = to.write.writer;
      stands = ap (get old.handles) named ∙ named-holds to.standing.line old.handles (Writing to.write.writer) to.write.holds;
      way_is = sym (ap is_under_way (takes_bytes n count old to w wrote.writes).opened);
      seen = wrote-put n count name old mid kept wrote seen named;
      options = refl;
      steps = answers.steps ∙ ap (change_last (with_part [] [] first)) wrote.alone.steps;
      replied = answers.lines ∙ ap (change_line n (λ phase. Replied)) wrote.alone.lines ∙ sym (change_line-twice n (λ phase. Replied) (heard_last last) old.lines);
      jobs = answers.jobs ∙ wrote.alone.jobs;
      time = answers.time ∙ wrote.alone.time;
    }) (record {
      takes = λ state step own takes. inl (own, takes, ap (λ (k : ℕ). record { line = k; reply = reply.Wrote count } ∷ own) (sym number));
      jobs = λ step. refl;
      leaves = λ step more replies.
          let said : reply_in line.number step.replies ≡ Some (reply.Wrote count) = ap (λ k. reply_in k step.replies) number ∙ ap (reply_in n) replies ∙ reply-first n (reply.Wrote count) more in
          ap (λ (q : HandleName). writer_left q w step shared) name_is ∙ ap (by_reply (Writes count w) line step (shared_in old)) (sym said);
    }) (tt, tt) turned)

-- a write that fails, or finds no memory
pub takes_refused : (n : ℕ) (errno : Errno) (last : Option Told) (bytes : List ℕ) (old mid new : Work) → HasBegun n old.lines →
    HasRefused n errno old mid →
    Answers (record { line = n; reply = reply.Failed errno } ∷ []) mid new →
    shared_in new ≡ shared_in mid →
    Takes (turn_behind n last old) (lines_behind n last old) bytes old new
takes_refused n errno last bytes old mid new begun refused answers seen = elim refused.why [
  | inl says ↦ by (fails errno) says (λ state step line who number asks drops. (asks, ap (λ (k : ℕ). record { line = k; reply = reply.Failed errno } ∷ []) (sym number), drops)) (λ step. refl)
  | inr lacks ↦ by (Writes lacks.count lacks.next) lacks.would (λ state step line who number asks drops. inr (asks, own_is line lacks number, drops)) (λ step. refl)
]
  where
    told : ℕ → Errno → List Answered
    told line why = record { line = line; reply = reply.Failed why } ∷ []

    to : WritesTo n old
    to = refused.to

    own_is : (line : Line) → LacksMemory to.write.writer to.write.offset (bytes_of to.write.content) errno → line.number ≡ n → told n errno ≡ told line.number Enomem
    own_is line lacks number = rw (number, lacks.is_memory) refl

    same : shared_in new ≡ shared_in old
    same = seen ∙ refused.shared

    by : (next : Next) → write_to to.write.writer to.write.offset (bytes_of to.write.content) ≡ next →
        ((state : ClientState) (step : Step) (line : Line) (who : Owner) → line.number ≡ n → step.asks ≡ [] → step.drops ≡ [] → TakesTurnOfLine state step line who next (record { line = n; reply = reply.Failed errno } ∷ [])) →
        ((step : Step) → shared_in old ≡ by_reply next begun.standing.line step (shared_in old) (Some (reply.Failed errno))) →
        Takes (turn_behind n last old) (lines_behind n last old) bytes old new
    by next is may does = takes_replying n last bytes (reply.Failed errno) next old mid new begun (behind-writes n last old begun to ∙ is) refused.alone.steps (ap (change_line n (λ phase. Replied)) refused.alone.lines) refused.alone.jobs refused.alone.time answers may (ap (λ (s : Shared). s.options) same) (λ step. same ∙ does step) tt

-- a write that its writer refuses leaves all as it was
pub has_refused : (n : ℕ) (errno : Errno) (old new : Work) (to : WritesTo n old) → IsRefused to.write.writer to.write.offset (bytes_of to.write.content) errno → shared_in new ≡ shared_in old → SharedAlone old new → HasRefused n errno old new
has_refused n errno old new to why same alone = record { to = to; why = why; shared = same; alone = alone }
