-- What the turn of a writer does to its handle, to the names, and to who waits for it.
use Rattle.std.proofs.Common.{◌≡◌, ℕ, ◌≤◌, List, [], ◌∷◌, length, Bool, true, false, if◌then◌else◌, Option, Some, None, IfSome, refl, sym, ap, ◌∙◌, subst}
use Rattle.std.specs.Prelude.{option_to_list}
use Rattle.std.specs.FinMap.{get, insert, remove}
use Rattle.mp_types.specs.HandleName.{HandleName}
use Rattle.mp_rules.specs.Local.{LocalNames, with_file}
use Rattle.upload_rules.specs.Upload.{Upload, new_upload}
use Rattle.mount_model.specs.declared.handle.Handle.TheVariants.{Writing}
use Rattle.mount_model.specs.declared.handle.Waiter.{Waiter}
use Rattle.mount_model.specs.declared.handle.Waiter.TheVariants as waiter
use Rattle.mount_model.specs.declared.request.Line.{Line}
use Rattle.mount_model.specs.declared.event.Answered.{Answered}
use Rattle.mount_model.specs.declared.standing.Standing.{Standing}
use Rattle.mount_model.specs.Step.{change_last, HasStep}
use Rattle.mount_model.specs.Handles.{Handle, Handles, Writer, name_in, handle_of}
use Rattle.mount_model.specs.Writers.{answer_to, is_under_way}
use Rattle.mount_model.specs.Conversation.{Creates, with_upload}
use Rattle.mount_model.specs.State.{Shared, handle_name, handle_behind, has_effect, holds, is_answered, names_behind, was_under_way, with_handles, with_names, with_replies, writer_behind}
use Rattle.run_laws.specs.Writers.{waiting_line}
use Rattle.run_laws.proofs.Handles.{handle-at}
use Rattle.run_laws.proofs.Left.{AnswerIs, NoAnswer, OneAnswer, answer-is}
use Rattle.line_table.specs.Table.{HasBegun}
use Rattle.job_table.specs.LiveJobs.{ready_of_writer}
use Rattle.file_handles.proofs.Tables.{get_put, put_again, put_over, remove_new, remove_put}
use Rattle.core_writes.specs.Turn.{IsTurn, with_turn}
use Rattle.mount_core.specs.declared.work.Work.{Work}
use Rattle.mount_core.specs.Shared.{shared_in}
use Rattle.mount_core.specs.Turn.{Answers, HasWriter, SharedAlone, WriterTurned, with_part}
use Rattle.mount_core.specs.Writing.{AsksWriter}
use Rattle.mount_core.proofs.Steps.{steps-turned, still_steps}

-- a handle that is live stands under the name that the line gives
pub named-holds : (line : Line) (handles : Handles) (handle : Handle) → handle_of line handles ≡ Some handle → get handles (handle_name line) ≡ Some handle
named-holds line handles handle is = go (name_in line.request) refl
  where
    go : (o : Option ℕ) → name_in line.request ≡ o → get handles (handle_name line) ≡ Some handle
    go None none = absurd (let free : handle_of line handles ≡ None = rw none refl in cc)
    go (Some name) named = sym (handle-at line name handles named) ∙ is

-- What a turn leaves under the writer's name goes before what stood there, whatever its upload was.
held_at : (name : HandleName) (line : ℕ) (key : List ℕ) (before other u : Upload) (answered : Bool) (who : Waiter) (first : Handle) (shared : Shared) →
    handle_behind name (record { line = line; key = key; upload = before; waiter = who }) u answered (holds name first shared) ≡ handle_behind name (record { line = line; key = key; upload = other; waiter = who }) u answered shared
held_at name line key before other u true (waiter.Close closer) first shared = ap (λ (handles : Handles). with_handles handles shared) (remove_put shared.handles name first)
held_at name line key before other u true waiter.Nobody first shared = ap (λ (handles : Handles). with_handles handles shared) (put_over shared.handles name first (Writing (record { line = line; key = key; upload = u; waiter = waiter.Nobody })))
held_at name line key before other u true (waiter.Sync syncer) first shared = ap (λ (handles : Handles). with_handles handles shared) (put_over shared.handles name first (Writing (record { line = line; key = key; upload = u; waiter = waiter.Nobody })))
held_at name line key before other u false who first shared = ap (λ (handles : Handles). with_handles handles shared) (put_over shared.handles name first (Writing (record { line = line; key = key; upload = u; waiter = who })))

pub behind_held : (name : HandleName) (w : Writer) (before u : Upload) (answered : Bool) (first : Handle) (shared : Shared) → handle_behind name (with_upload before w) u answered (holds name first shared) ≡ handle_behind name w u answered shared
behind_held name w before u answered first shared = held_at name w.line w.key before w.upload u answered w.waiter first shared

-- where nobody is answered, what is left stands there already
none_left : (name : HandleName) (line : ℕ) (key : List ℕ) (u : Upload) (who : Waiter) (shared : Shared) → get shared.handles name ≡ Some (Writing (record { line = line; key = key; upload = u; waiter = who })) → shared ≡ handle_behind name (record { line = line; key = key; upload = u; waiter = who }) u false shared
none_left name line key u who shared stands = ap (λ (handles : Handles). with_handles handles shared) (sym (put_again shared.handles name (Writing (record { line = line; key = key; upload = u; waiter = who })) stands))

pub behind_none : (name : HandleName) (w : Writer) (said : Option Answered) (shared : Shared) → said ≡ None → get shared.handles name ≡ Some (Writing w) → shared ≡ handle_behind name w w.upload (is_answered (option_to_list said)) shared
behind_none name w said shared none stands = none_left name w.line w.key w.upload w.waiter shared stands ∙ ap (λ (o : Option Answered). handle_behind name w w.upload (is_answered (option_to_list o)) shared) (sym none)

-- the names as the writer's end says, where it was under way
abbrev pub names_settled : Bool → Writer → Upload → LocalNames → Shared → Shared
names_settled way w u names shared = if way then with_names (names_behind u.state w.key names) shared else shared

-- the writer's turn, from its asks on
pub turned-shared : (name : HandleName) (w : Writer) (u : Upload) (way answered : Bool) (first : Handle) (old mid new : Shared) →
    mid ≡ names_settled way w u old.names (holds name first old) →
    new ≡ handle_behind name (with_upload u w) u answered mid →
    new ≡ handle_behind name w u answered (names_settled way w u old.names old)
turned-shared name w u true answered first old mid new one two = two ∙ ap (handle_behind name (with_upload u w) u answered) one ∙ behind_held name w u u answered first (with_names (names_behind u.state w.key old.names) old)
turned-shared name w u false answered first old mid new one two = two ∙ ap (handle_behind name (with_upload u w) u answered) one ∙ behind_held name w u u answered first old

-- and from before the writer was put under its name
pub left-shared : (name : HandleName) (w before : Writer) (u : Upload) (way : Bool) (own : List Answered) (old kept new : Shared) →
    kept ≡ holds name (Writing w) old →
    get old.handles name ≡ Some (Writing before) →
    way ≡ is_under_way before.upload.state →
    own ≡ answer_to w.waiter u →
    new ≡ handle_behind name w u (is_answered own) (names_settled way w u kept.names kept) →
    new ≡ writer_behind name w u old
left-shared name w before u way own old kept new put stands under_way told is =
    let way_is : was_under_way (get old.handles name) ≡ way = ap was_under_way stands ∙ sym under_way in
    let told_is : is_answered own ≡ is_answered (answer_to w.waiter u) = ap is_answered told in
    is
    ∙ ap (λ (s : Shared). handle_behind name w u (is_answered own) (names_settled way w u s.names s)) put
    ∙ over way
    ∙ ap (λ (b : Bool). handle_behind name w u b (names_settled way w u old.names old)) told_is
    ∙ ap (λ (b : Bool). handle_behind name w u (is_answered (answer_to w.waiter u)) (names_settled b w u old.names old)) (sym way_is)
  where
    over : (way : Bool) → handle_behind name w u (is_answered own) (names_settled way w u old.names (holds name (Writing w) old)) ≡ handle_behind name w u (is_answered own) (names_settled way w u old.names old)
    over true = behind_held name w w.upload u (is_answered own) (Writing w) (with_names (names_behind u.state w.key old.names) old)
    over false = behind_held name w w.upload u (is_answered own) (Writing w) old

-- the options stay
options_at : (name : HandleName) (line : ℕ) (key : List ℕ) (before u : Upload) (answered : Bool) (who : Waiter) (shared : Shared) → (handle_behind name (record { line = line; key = key; upload = before; waiter = who }) u answered shared).options ≡ shared.options
options_at name line key before u true (waiter.Close closer) shared = refl
options_at name line key before u true waiter.Nobody shared = refl
options_at name line key before u true (waiter.Sync syncer) shared = refl
options_at name line key before u false who shared = refl

settled-options : (way : Bool) (w : Writer) (u : Upload) (names : LocalNames) (shared : Shared) → (names_settled way w u names shared).options ≡ shared.options
settled-options true w u names shared = refl
settled-options false w u names shared = refl

pub behind-options : (name : HandleName) (w : Writer) (u : Upload) (shared : Shared) → (writer_behind name w u shared).options ≡ shared.options
behind-options name w u shared =
    let way : Bool = was_under_way (get shared.handles name) in
    options_at name w.line w.key w.upload u (is_answered (answer_to w.waiter u)) w.waiter (names_settled way w u shared.names shared) ∙ settled-options way w u shared.names shared

-- who is answered has begun
pub answer_begun : (who : Waiter) (u : Upload) (said : Option Answered) (lines : List Standing) → option_to_list said ≡ answer_to who u → ((number : ℕ) → waiting_line who ≡ Some number → HasBegun number lines) → IfSome said (λ a. HasBegun a.line lines)
answer_begun who u None lines told waited = tt
answer_begun who u (Some a) lines told waited = go (answer-is who u)
  where
    go : AnswerIs who u → HasBegun a.line lines
    go (NoAnswer none) = absurd (let clash : a ∷ [] ≡ [] = told ∙ none in cc)
    go (OneAnswer line reply waits one plain) =
        let same : a ∷ [] ≡ record { line = line; reply = reply } ∷ [] = told ∙ one in
        let is : record { line = line; reply = reply } ≡ a = cc in
        subst (λ (x : Answered). HasBegun x.line lines) is (waited line waits)

-- the writer stands there still once it has asked
pub asked-stands : (name : HandleName) (w : Writer) (said : Option Answered) (old asked : Work) → (asks : AsksWriter name w said old asked) → get asked.handles name ≡ Some (Writing (with_upload asks.upload w))
asked-stands name w said old asked asks = ap (λ (s : Shared). get s.handles name) asks.shared ∙ get_put old.handles name (Writing (with_upload asks.upload w))

-- the writer has asked, and its name has been settled
pub record IsSettled (name : HandleName) (writer : Writer) (u : Upload) (way : Bool) (asked mid : Work) : Type 0 where
  pub shared : shared_in mid ≡ names_settled way writer u asked.names (shared_in asked)
  pub alone : SharedAlone asked mid

pub stays_alone : (work : Work) → SharedAlone work work
stays_alone work = record { steps = refl; lines = refl; jobs = refl; time = refl; options = refl }

-- where the writer was under way, by its end, and else not at all
pub settled_then : (name : HandleName) (w : Writer) (said : Option Answered) (way : Bool) (old asked settled mid : Work) → (asks : AsksWriter name w said old asked) → way ≡ true →
    ((v : Writer) → get asked.handles name ≡ Some (Writing v) → shared_in settled ≡ with_names (names_behind v.upload.state v.key asked.names) (shared_in asked)) →
    SharedAlone asked settled →
    mid ≡ settled →
    IsSettled name w asks.upload way asked mid
settled_then name w said way old asked settled mid asks is names alone same =
    rw (same, is) (record { shared = names (with_upload asks.upload w) (asked-stands name w said old asked asks); alone = alone })

pub settled_else : (name : HandleName) (w : Writer) (u : Upload) (way : Bool) (asked mid : Work) → way ≡ false → mid ≡ asked → IsSettled name w u way asked mid
settled_else name w u way asked mid is same = rw same (record { shared = rw is refl; alone = stays_alone asked })

-- replies behind a change of handles and names
pub answers_alone : (own : List Answered) (old mid new : Work) → SharedAlone old mid → Answers own mid new → Answers own old new
answers_alone own old mid new alone answers = record {
  steps = answers.steps ∙ ap (change_last (with_part [] [] own)) alone.steps;
  lines = answers.lines ∙ ap (λ (l : List Standing). with_replies l own) alone.lines;
  jobs = answers.jobs ∙ alone.jobs;
  time = answers.time ∙ alone.time;
}

-- the names are all that is settled
settled-handles : (way : Bool) (w : Writer) (u : Upload) (names : LocalNames) (shared : Shared) → (names_settled way w u names shared).handles ≡ shared.handles
settled-handles true w u names shared = refl
settled-handles false w u names shared = refl

-- and once the names are settled
pub settled-stands : (name : HandleName) (w : Writer) (way : Bool) (said : Option Answered) (old asked mid : Work) → (asks : AsksWriter name w said old asked) → IsSettled name w asks.upload way asked mid → get mid.handles name ≡ Some (Writing (with_upload asks.upload w))
settled-stands name w way said old asked mid asks settled =
    ap (λ (s : Shared). get s.handles name) settled.shared
    ∙ ap (λ (handles : Handles). get handles name) (settled-handles way w asks.upload asked.names (shared_in asked))
    ∙ asked-stands name w said old asked asks

-- there is a step still
pub asked-steps : (name : HandleName) (w : Writer) (said : Option Answered) (old asked : Work) → HasStep old.record.steps → AsksWriter name w said old asked → HasStep asked.record.steps
asked-steps name w said old asked has asks = still_steps (with_turn asks.turns.drops asks.turns.asks) old.record.steps asked.record.steps asks.turns.steps has

-- the whole turn
pub writer_turned : (name : HandleName) (way : Bool) (w : Writer) (said : Option Answered) (old asked mid new : Work) → HasStep old.record.steps →
    (asks : AsksWriter name w said old asked) →
    IsSettled name w asks.upload way asked mid →
    Answers (option_to_list said) mid new →
    shared_in new ≡ handle_behind name (with_upload asks.upload w) asks.upload (is_answered (option_to_list said)) (shared_in mid) →
    WriterTurned name way w old new
writer_turned name way w said old asked mid new has asks settled answers shared =
    let u : Upload = asks.upload in
    let own : List Answered = option_to_list said in
    let held : shared_in mid ≡ names_settled way w u old.names (holds name (Writing (with_upload u w)) (shared_in old)) = settled.shared ∙ ap (λ (s : Shared). names_settled way w u s.names s) asks.shared in
    record {
      drops = asks.turns.drops;
      asks = asks.turns.asks;
      own = own;
      steps = steps-turned asks.turns.drops asks.turns.asks own old.record.steps asked.record.steps new.record.steps has asks.turns.steps (answers.steps ∙ ap (change_last (with_part [] [] own)) settled.alone.steps);
      lines = answers.lines ∙ ap (λ (l : List Standing). with_replies l own) (settled.alone.lines ∙ asks.lines);
      upload = u;
      told = asks.turns.told;
      turn = λ step all drops asked_for are. subst (λ jobs. IsTurn w all step u jobs own) (sym (answers.jobs ∙ settled.alone.jobs)) (asks.turns.is step all asked_for drops are.numbered are.held are.count);
      shared = turned-shared name w u way (is_answered own) (Writing (with_upload u w)) (shared_in old) (shared_in mid) (shared_in new) held shared;
      time = answers.time ∙ settled.alone.time ∙ asks.time;
    }

-- The writer that has been put under a name may have a turn there: no more calls of it wait to be made than aren't back, and
-- who waits for it has begun.
pub has_writer : (name : HandleName) (w : Writer) (old kept : Work) (shared : Shared) → shared_in kept ≡ holds name (Writing w) shared → kept.jobs ≡ old.jobs → length (ready_of_writer w.line old.jobs.held) ≤ w.upload.pending → ((number : ℕ) → waiting_line w.waiter ≡ Some number → HasBegun number kept.lines) → HasWriter name kept
has_writer name w old kept shared put jobs at_work waited = record {
  writer = w;
  stands = ap (λ (s : Shared). get s.handles name) put ∙ get_put shared.handles name (Writing w);
  at_work = rw jobs at_work;
  waited = waited;
}

-- the name that a line gives
pub named-pair : (line : Line) (name : ℕ) → name_in line.request ≡ Some name → (line.actor, name) ≡ handle_name line
named-pair line name named = rw named refl

-- a line has its first writer, and the file's name
pub kept_writer : (line : Line) (name : ℕ) (key : List ℕ) (u : Upload) (handles : Handles) (old new : Shared) → name_in line.request ≡ Some name →
    u ≡ new_upload old.options.part →
    handles ≡ insert old.handles (line.actor, name) (Writing (record { line = line.number; key = key; upload = u; waiter = waiter.Nobody })) →
    new ≡ with_names (with_file key 0 old.names) (with_handles handles old) →
    new ≡ has_effect (Creates key) line old
kept_writer line name key u handles old new named first put is =
    let seen : Handles → Shared = λ (now : Handles). with_names (with_file key 0 old.names) (with_handles now old) in
    is
    ∙ ap seen put
    ∙ ap (λ (q : HandleName). seen (insert old.handles q (Writing (record { line = line.number; key = key; upload = u; waiter = waiter.Nobody })))) (named-pair line name named)
    ∙ ap (λ (v : Upload). seen (insert old.handles (handle_name line) (Writing (record { line = line.number; key = key; upload = v; waiter = waiter.Nobody })))) first

-- and where there was no memory for the file's name, its handle goes again
pub unkept_writer : (name : HandleName) (handle : Handle) (handles closed : Handles) (old seen : Shared) → get old.handles name ≡ None → handles ≡ insert old.handles name handle → seen ≡ with_handles handles old → closed ≡ remove seen.handles name → with_handles closed seen ≡ old
unkept_writer name handle handles closed old seen free put is removed =
    let gone : closed ≡ old.handles = removed ∙ ap (λ (s : Shared). remove s.handles name) is ∙ ap (λ (h : Handles). remove h name) put ∙ remove_new old.handles name handle free in
    ap (λ (h : Handles). with_handles h seen) gone ∙ ap (with_handles old.handles) is
