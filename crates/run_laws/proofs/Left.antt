-- What a writer's turn leaves: its handle, and all writers as they have to be.
use Rattle.std.proofs.Common.{◌≡◌, ℕ, ◌≤◌, List, [], ◌∷◌, Bool, true, false, ◌==◌, if◌then◌else◌, Option, Some, None, inl, inr, refl, sym, ap, ◌∙◌, subst, arith}
use Rattle.std.proofs.lemmas.Bool.{cases_eq}
use Rattle.std.specs.FinMap as table
use Rattle.mp_types.specs.HandleName.{HandleName}
use Rattle.mp_rules.specs.Local.{LocalNames}
use Rattle.upload_rules.specs.declared.upload.UpState.{UpState}
use Rattle.upload_rules.specs.declared.upload.UpState.TheVariants.{Open, Finished, Done, Failed}
use Rattle.upload_rules.specs.Upload.{Upload}
use Rattle.mount_model.specs.declared.handle.Handle.TheVariants.{Writing}
use Rattle.mount_model.specs.declared.handle.Waiter.{Waiter}
use Rattle.mount_model.specs.declared.handle.Waiter.TheVariants as waiter
use Rattle.mount_model.specs.declared.request.Reply.{Reply}
use Rattle.mount_model.specs.declared.request.Reply.TheVariants as reply
use Rattle.mount_model.specs.declared.event.Answered.{Answered}
use Rattle.mount_model.specs.declared.standing.Phase.TheVariants.{Begun, Replied}
use Rattle.mount_model.specs.declared.standing.Standing.{Standing}
use Rattle.mount_model.specs.Step.{Step}
use Rattle.mount_model.specs.Handles.{Handle, Handles, Writer}
use Rattle.mount_model.specs.Writers.{sync_answer, close_answer, answer_to}
use Rattle.mount_model.specs.State.{Shared, Job, line_at, change_line, with_replies, handle_name, with_names, names_behind, was_under_way, is_answered, handle_behind, writer_left, behind_step}
use Rattle.run_laws.specs.Counts.{any_call, calls_out}
use Rattle.run_laws.specs.Writers.{waiting_line, is_close, IsWaiting, IsWriter, HasWriters}
use Rattle.run_laws.proofs.Lines.{line_at-other, line_at-same}
use Rattle.run_laws.proofs.Handles.{Look, with_at, at-same, at-twice, look-insert, look-remove, some-writer}
use Rattle.run_laws.proofs.WriterTurn.{HasTurned}
use Rattle.run_laws.proofs.Writers.{stands_as, LinesKeep, keep-same, keep-replied, only-others, writers-apart, one-changes, writers-look, phases-apart, begun-replied}
use Rattle.run_laws.proofs.Conversation.{IsPlain}

-- a writer with this upload, for which this one waits
abbrev pub writer_with : Writer → Upload → Waiter → Writer
writer_with w u who = record { line = w.line; key = w.key; upload = u; waiter = who }

-- what stands under its name then: no handle, once a close is answered
abbrev pub left_under : Bool → Waiter → Writer → Upload → Option Handle
left_under true (waiter.Close line) w u = None
left_under true other w u = Some (Writing (writer_with w u waiter.Nobody))
left_under false who w u = Some (Writing (writer_with w u who))

behind-look : (name : HandleName) (line : ℕ) (key : List ℕ) (before u : Upload) (who : Waiter) (answered : Bool) (shared : Shared) (q : HandleName) → table.get (handle_behind name (record { line = line; key = key; upload = before; waiter = who }) u answered shared).handles q ≡ with_at name (left_under answered who (record { line = line; key = key; upload = before; waiter = who }) u) (table.get shared.handles) q
behind-look name line key before u (waiter.Close closer) true shared q = look-remove shared.handles name q
behind-look name line key before u waiter.Nobody true shared q = look-insert shared.handles name (Writing (record { line = line; key = key; upload = u; waiter = waiter.Nobody })) q
behind-look name line key before u (waiter.Sync syncer) true shared q = look-insert shared.handles name (Writing (record { line = line; key = key; upload = u; waiter = waiter.Nobody })) q
behind-look name line key before u who false shared q = look-insert shared.handles name (Writing (record { line = line; key = key; upload = u; waiter = who })) q

-- names leave handles
names-look : (way : Bool) (names : LocalNames) (shared : Shared) → (if way then with_names names shared else shared).handles ≡ shared.handles
names-look true names shared = refl
names-look false names shared = refl

pub left-look : (name : HandleName) (w : Writer) (step : Step) (shared : Shared) (q : HandleName) → table.get (writer_left name w step shared).handles q ≡ with_at name (left_under (is_answered (answer_to w.waiter (behind_step step w.upload))) w.waiter w (behind_step step w.upload)) (table.get shared.handles) q
left-look name w step shared q =
    let u : Upload = behind_step step w.upload in
    let answered : Bool = is_answered (answer_to w.waiter u) in
    let way : Bool = was_under_way (table.get shared.handles name) in
    let names : LocalNames = names_behind u.state w.key shared.names in
    behind-look name w.line w.key w.upload u w.waiter answered (if way then with_names names shared else shared) q
    ∙ ap (λ (handles : Handles). with_at name (left_under answered w.waiter w u) (table.get handles) q) (names-look way names shared)

-- and the options
behind-options : (name : HandleName) (w : Writer) (u : Upload) (who : Waiter) (answered : Bool) (shared : Shared) → (handle_behind name (writer_with w w.upload who) u answered shared).options ≡ shared.options
behind-options name w u (waiter.Close line) true shared = refl
behind-options name w u waiter.Nobody true shared = refl
behind-options name w u (waiter.Sync line) true shared = refl
behind-options name w u who false shared = refl

names-options : (way : Bool) (names : LocalNames) (shared : Shared) → (if way then with_names names shared else shared).options ≡ shared.options
names-options true names shared = refl
names-options false names shared = refl

pub left-options : (name : HandleName) (w : Writer) (step : Step) (shared : Shared) → (writer_left name w step shared).options ≡ shared.options
left-options name w step shared =
    let u : Upload = behind_step step w.upload in
    let way : Bool = was_under_way (table.get shared.handles name) in
    let names : LocalNames = names_behind u.state w.key shared.names in
    behind-options name w u w.waiter (is_answered (answer_to w.waiter u)) (if way then with_names names shared else shared) ∙ names-options way names shared

-- who waits is answered, or not

pub data AnswerIs (who : Waiter) (u : Upload) : Type 0 where
  NoAnswer : answer_to who u ≡ [] → AnswerIs who u
  OneAnswer : (line : ℕ) (said : Reply) → waiting_line who ≡ Some line → answer_to who u ≡ record { line = line; reply = said } ∷ [] → IsPlain said → AnswerIs who u

answer-at : (who : Waiter) (state : UpState) (u : Upload) → u.state ≡ state → AnswerIs who u
answer-at waiter.Nobody state u at = NoAnswer refl
answer-at (waiter.Sync line) Open u at = NoAnswer (ap (sync_answer line) at)
answer-at (waiter.Sync line) Finished u at = NoAnswer (ap (sync_answer line) at)
answer-at (waiter.Sync line) Done u at = OneAnswer line reply.Success refl (ap (sync_answer line) at) tt
answer-at (waiter.Sync line) (Failed errno) u at = OneAnswer line (reply.Failed errno) refl (ap (sync_answer line) at) tt
answer-at (waiter.Close line) Open u at = NoAnswer (ap (close_answer line u.pending) at)
answer-at (waiter.Close line) Finished u at = NoAnswer (ap (close_answer line u.pending) at)
answer-at (waiter.Close line) Done u at = OneAnswer line reply.Success refl (ap (close_answer line u.pending) at) tt
answer-at (waiter.Close line) (Failed errno) u at = go (u.pending == 0) refl
  where
    go : (b : Bool) → (u.pending == 0) ≡ b → AnswerIs (waiter.Close line) u
    go true is = OneAnswer line (reply.Failed errno) refl (ap (close_answer line u.pending) at ∙ rw is refl) tt
    go false is = NoAnswer (ap (close_answer line u.pending) at ∙ rw is refl)

pub answer-is : (who : Waiter) (u : Upload) → AnswerIs who u
answer-is who u = answer-at who u.state u refl

-- writers behind a writer's turn

waits-one : (who : Waiter) (line other : ℕ) → waiting_line who ≡ Some line → waiting_line who ≡ Some other → line ≡ other
waits-one who line other one two = let both : Some line ≡ Some other = sym one ∙ two in cc

-- what holds of the writer that is left, and of its line's jobs
left-writer : (lines now : List Standing) (jobs behind : List Job) (name : HandleName) (w : Writer) (final : Upload) (who : Waiter) (drops : List ℕ) (own : List Answered) → IsWriter lines jobs name w → HasTurned w.line w.upload w.waiter jobs final behind drops own → LinesKeep name lines now → is_close who ≡ is_close w.waiter → ((number : ℕ) → waiting_line who ≡ Some number → (waiting_line w.waiter ≡ Some number) × IsWaiting now name number) → IsWriter now behind name (writer_with w final who)
left-writer lines now jobs behind name w final who drops own is turned keep closing waits = record {
  opener = is.opener;
  stands = keep.replied w.line is.opener is.stands;
  opens = is.opens;
  named = is.named;
  waits = λ number waiting. (waits number waiting).1;
  ended = λ number waiting. turned.turns.stays.not_open (is.ended number (waits number waiting).0);
  closing = turned.turns.stays.closing ∙ is.closing ∙ sym closing;
  pending = turned.turn.pending;
  upload = turned.turn.upload;
  tallied = turned.turn.tallied;
}

-- nobody was answered
unanswered : (lines : List Standing) (jobs behind : List Job) (look : Look) (name : HandleName) (w : Writer) (final : Upload) (drops : List ℕ) (own : List Answered) → HasWriters lines jobs look → look name ≡ Some (Writing w) → HasTurned w.line w.upload w.waiter jobs final behind drops own → HasWriters lines behind (with_at name (Some (Writing (writer_with w final w.waiter))) look)
unanswered lines jobs behind look name w final drops own has here turned =
    let is = has.each name w here in
    let left : Writer = writer_with w final w.waiter in
    let o : Option Handle = Some (Writing left) in
    one-changes lines lines jobs behind look w.line name o (record {
      lines_keep = keep-same lines name;
      jobs_keep = λ m apart. only-others w.line m jobs behind turned.turns.only apart;
      before = λ v stands. ap (λ (x : Writer). x.line) (sym (some-writer w v (sym here ∙ stands)));
      others = λ q v stands apart same. apart (writers-apart lines jobs q name v w (has.each q v stands) is same);
      writer = λ v stands. subst (IsWriter lines behind name) (some-writer left v stands) (left-writer lines lines jobs behind name w final w.waiter drops own is turned (keep-same lines name) refl (λ number waits. (waits, is.waits number waits)));
      owned = λ some. record { name = name; writer = left; stands = at-same name o look; opened_by = refl };
      opened_by = λ some. record { line = is.opener; stands = is.stands };
      once = turned.turn.once;
      waited = λ number line heard stands awaits named.
          let old = has.waited number line heard stands awaits in
          let same : w ≡ old.writer = some-writer w old.writer (sym here ∙ ap look (sym named) ∙ old.stands) in
          record { writer = left; stands = ap (with_at name o look) named ∙ at-same name o look; waits = ap (λ (x : Writer). waiting_line x.waiter) same ∙ old.waits };
    }) has

-- who waited is answered: the handle goes with a close, and any other writer is waited for by nobody then
answered : (lines : List Standing) (jobs behind : List Job) (look : Look) (name : HandleName) (w : Writer) (final : Upload) (drops : List ℕ) (own : List Answered) (line : ℕ) (o : Option Handle) → HasWriters lines jobs look → look name ≡ Some (Writing w) → HasTurned w.line w.upload w.waiter jobs final behind drops own → waiting_line w.waiter ≡ Some line → ((v : Writer) → o ≡ Some (Writing v) → (v ≡ writer_with w final waiter.Nobody) × (is_close w.waiter ≡ false)) → (1 ≤ calls_out any_call w.line behind → o ≡ Some (Writing (writer_with w final waiter.Nobody))) → HasWriters (change_line line (λ phase. Replied) lines) behind (with_at name o look)
answered lines jobs behind look name w final drops own line o has here turned waits is_left owned = one-changes lines now jobs behind look w.line name o (record {
  lines_keep = keep;
  jobs_keep = λ m apart. only-others w.line m jobs behind turned.turns.only apart;
  before = λ v stands. ap (λ (x : Writer). x.line) (sym (some-writer w v (sym here ∙ stands)));
  others = λ q v stands apart same. apart (writers-apart lines jobs q name v w (has.each q v stands) is same);
  writer = λ v stands.
      let found = is_left v stands in
      subst (IsWriter now behind name) (sym found.0) (left-writer lines now jobs behind name w final waiter.Nobody drops own is turned keep (sym found.1) (λ number none. absurd (cc)));
  owned = λ some. record { name = name; writer = writer_with w final waiter.Nobody; stands = at-same name o look ∙ owned some; opened_by = refl };
  opened_by = λ some. record { line = is.opener; stands = keep.replied w.line is.opener is.stands };
  once = turned.turn.once;
  waited = λ number other heard stands awaits named. absurd (elim (cases_eq number line) [
    | inl same ↦ begun-replied now line other waiting.line heard (ap (λ (k : ℕ). line_at k now) (sym same) ∙ stands) (line_at-same line (λ phase. Replied) lines (record { line = waiting.line; phase = Begun waiting.heard }) waiting.stands)
    | inr apart ↦ (let before : line_at number lines ≡ stands_as other (Begun heard) = sym (line_at-other line number (λ phase. Replied) lines apart) ∙ stands in
        let old = has.waited number other heard before awaits in
        let same : w ≡ old.writer = some-writer w old.writer (sym here ∙ ap look (sym named) ∙ old.stands) in
        apart (waits-one w.waiter number line (ap (λ (x : Writer). waiting_line x.waiter) same ∙ old.waits) waits))
  ]);
}) has
  where
    now : List Standing
    now = change_line line (λ phase. Replied) lines

    is : IsWriter lines jobs name w
    is = has.each name w here

    waiting : IsWaiting lines name line
    waiting = is.waits line waits

    keep : LinesKeep name lines now
    keep = keep-replied name line lines (λ other heard stands awaits. ap handle_name (phases-apart (line_at line lines) other waiting.line (Begun heard) (Begun waiting.heard) stands waiting.stands).0 ∙ waiting.named)

-- all writers behind the turn of one
pub writers-left : (lines : List Standing) (jobs behind : List Job) (look : Look) (name : HandleName) (w : Writer) (final : Upload) (drops : List ℕ) (own : List Answered) → HasWriters lines jobs (with_at name (Some (Writing w)) look) → HasTurned w.line w.upload w.waiter jobs final behind drops own → HasWriters (with_replies lines own) behind (with_at name (left_under (is_answered own) w.waiter w final) look)
writers-left lines jobs behind look name w final drops own has turned = go w.waiter refl (answer-is w.waiter final)
  where
    ready : Look
    ready = with_at name (Some (Writing w)) look

    here : ready name ≡ Some (Writing w)
    here = at-same name (Some (Writing w)) look

    behind-it : (o : Option Handle) (now : List Standing) → HasWriters now behind (with_at name o ready) → HasWriters now behind (with_at name o look)
    behind-it o now all = writers-look now behind (with_at name o ready) (with_at name o look) (at-twice name (Some (Writing w)) o look) all

    go : (who : Waiter) → w.waiter ≡ who → AnswerIs who final → HasWriters (with_replies lines own) behind (with_at name (left_under (is_answered own) who w final) look)
    go who at (NoAnswer none) =
        let own_is : own ≡ [] = turned.answers ∙ ap (λ (x : Waiter). answer_to x final) at ∙ none in
        subst (λ (t : List Answered). HasWriters (with_replies lines t) behind (with_at name (left_under (is_answered t) who w final) look)) (sym own_is)
        (subst (λ (x : Waiter). HasWriters lines behind (with_at name (left_under false x w final) look)) at (behind-it (Some (Writing (writer_with w final w.waiter))) lines (unanswered lines jobs behind ready name w final drops own has here turned)))
    go (waiter.Close closer) at (OneAnswer line said waits one plain) =
        let own_is : own ≡ record { line = line; reply = said } ∷ [] = turned.answers ∙ ap (λ (x : Waiter). answer_to x final) at ∙ one in
        let back = turned.back closer at (ap is_answered own_is) in
        let none : calls_out any_call w.line behind ≡ 0 = sym turned.turn.pending ∙ back in
        subst (λ (t : List Answered). HasWriters (with_replies lines t) behind (with_at name (left_under (is_answered t) (waiter.Close closer) w final) look)) (sym own_is)
        (behind-it None (change_line line (λ phase. Replied) lines) (answered lines jobs behind ready name w final drops own line None has here turned (ap waiting_line at ∙ waits) (λ v stands. absurd (cc)) (λ some. absurd (omega arith))))
    go (waiter.Sync syncer) at (OneAnswer line said waits one plain) =
        let own_is : own ≡ record { line = line; reply = said } ∷ [] = turned.answers ∙ ap (λ (x : Waiter). answer_to x final) at ∙ one in
        let left : Writer = writer_with w final waiter.Nobody in
        subst (λ (t : List Answered). HasWriters (with_replies lines t) behind (with_at name (left_under (is_answered t) (waiter.Sync syncer) w final) look)) (sym own_is)
        (behind-it (Some (Writing left)) (change_line line (λ phase. Replied) lines) (answered lines jobs behind ready name w final drops own line (Some (Writing left)) has here turned (ap waiting_line at ∙ waits) (λ v stands. (sym (some-writer left v stands), ap is_close at)) (λ some. refl)))
    go waiter.Nobody at (OneAnswer line said waits one plain) = absurd (cc)
