-- What a turn does to the files and their writers.
use Rattle.std.proofs.Common.{◌≡◌, ℕ, Bool, true, false, if◌then◌else◌, List, [], Option, Some, None, refl, sym, ap, ◌∙◌, subst}
use Rattle.std.specs.FinMap as table
use Rattle.mp_types.specs.HandleName.{HandleName}
use Rattle.mp_types.specs.declared.errno.Errno.TheVariants.{Enomem}
use Rattle.mp_rules.specs.Local.{LocalNames, with_file}
use Rattle.upload_rules.specs.declared.upload.UpState.{UpState}
use Rattle.upload_rules.specs.declared.upload.UpState.TheVariants.{Open, Finished, Done, Failed}
use Rattle.upload_rules.specs.Upload.{Upload}
use Rattle.mount_model.specs.declared.handle.Handle.TheVariants.{Reading, Writing}
use Rattle.mount_model.specs.declared.handle.Waiter.{Waiter}
use Rattle.mount_model.specs.declared.handle.Waiter.TheVariants as waiter
use Rattle.mount_model.specs.declared.request.Request.{Request}
use Rattle.mount_model.specs.declared.request.Request.TheVariants as request
use Rattle.mount_model.specs.declared.request.Reply.{Reply}
use Rattle.mount_model.specs.declared.request.Reply.TheVariants as reply
use Rattle.mount_model.specs.declared.request.Line.{Line}
use Rattle.mount_model.specs.declared.event.Event.{Event}
use Rattle.mount_model.specs.declared.event.Answered.{Answered}
use Rattle.mount_model.specs.Step.{Step}
use Rattle.mount_model.specs.Handles.{Handle, Writer}
use Rattle.mount_model.specs.Writers.{is_under_way, sync_answer, close_answer, answer_to}
use Rattle.mount_model.specs.Conversation.{Next, Asks, Replies, Makes, Opens, Creates, Lists, Writes}
use Rattle.mount_model.specs.State.{Shared, ClientState, view_of, handle_name, with_names, names_behind, was_under_way, is_answered, handle_behind, writer_left, behind_step, writes_first, closes, by_reply}
use Rattle.run_laws.proofs.Handles.{Look, with_at, at-same, at-twice, handle-at, look-insert}
use Rattle.run_laws.proofs.Left.{writer_with, left_under, left-look}
use Rattle.run_laws.proofs.Conversation.{opens-free, creates-free, replies-unwritten, awaits-name}
use Rattle.run_laws.proofs.Turn.{SaysSo, ByItself, MakesDir, RemovesDir, OpensHandle, CreatesFile, ListsEntries, GivesData, HasNoMemory, MayLack}
use Rattle.run_laws.proofs.Opened.{IsOpened}
use Rattle.run_laws.proofs.Steps.{next_now}
use Rattle.run_laws.proofs.Effects.{Effect, Keeps, OpensOne, CreatesOne, ClosesOne, reply-effect, free-unwritten}
use Rattle.name_laws.specs.Files.{HasFiles}
use Rattle.name_laws.proofs.Bytes.{GoesOn, goes-then, goes-step}
use Rattle.name_laws.proofs.Files.{files-look, files-unwritten, files-made, files-removed, files-created, IsLeft, files-left}
use Rattle.name_laws.proofs.Walks.{created, made, removed}

-- the files of what all lines see
abbrev pub SharedFiles : Shared → Type 0
SharedFiles shared = HasFiles (table.get shared.handles) shared.names

-- a writer's turn

-- who waits for a writer under way isn't answered
unanswered : (who : Waiter) (u : Upload) → is_under_way u.state ≡ true → answer_to who u ≡ []
unanswered who u way = go who u.state refl
  where
    go : (who : Waiter) (up : UpState) → u.state ≡ up → answer_to who u ≡ []
    go waiter.Nobody up is = refl
    go (waiter.Sync line) Open is = ap (sync_answer line) is
    go (waiter.Sync line) Finished is = ap (sync_answer line) is
    go (waiter.Sync line) Done is = absurd (let ended : is_under_way u.state ≡ false = ap is_under_way is in cc)
    go (waiter.Sync line) (Failed errno) is = absurd (let ended : is_under_way u.state ≡ false = ap is_under_way is in cc)
    go (waiter.Close line) Open is = ap (close_answer line u.pending) is
    go (waiter.Close line) Finished is = ap (close_answer line u.pending) is
    go (waiter.Close line) Done is = absurd (let ended : is_under_way u.state ≡ false = ap is_under_way is in cc)
    go (waiter.Close line) (Failed errno) is = absurd (let ended : is_under_way u.state ≡ false = ap is_under_way is in cc)

left-writer : (answered : Bool) (who : Waiter) (w v : Writer) (final : Upload) → left_under answered who w final ≡ Some (Writing v) → (v.key ≡ w.key) × (v.upload ≡ final)
left-writer true (waiter.Close line) w v final is = absurd (cc)
left-writer true waiter.Nobody w v final is = let same : writer_with w final waiter.Nobody ≡ v = cc in (ap (λ (x : Writer). x.key) (sym same), ap (λ (x : Writer). x.upload) (sym same))
left-writer true (waiter.Sync line) w v final is = let same : writer_with w final waiter.Nobody ≡ v = cc in (ap (λ (x : Writer). x.key) (sym same), ap (λ (x : Writer). x.upload) (sym same))
left-writer false who w v final is = let same : writer_with w final who ≡ v = cc in (ap (λ (x : Writer). x.key) (sym same), ap (λ (x : Writer). x.upload) (sym same))

is-left : (w : Writer) (final : Upload) → IsLeft (left_under (is_answered (answer_to w.waiter final)) w.waiter w final) w.key final
is-left w final = record {
  is = λ v stands. left-writer (is_answered (answer_to w.waiter final)) w.waiter w v final stands;
  stays = λ way. (writer_with w final w.waiter, ap (λ (t : List Answered). left_under (is_answered t) w.waiter w final) (unanswered w.waiter final way));
}

behind-names : (name : HandleName) (w : Writer) (final : Upload) (who : Waiter) (answered : Bool) (shared : Shared) → (handle_behind name (writer_with w w.upload who) final answered shared).names ≡ shared.names
behind-names name w final (waiter.Close line) true shared = refl
behind-names name w final waiter.Nobody true shared = refl
behind-names name w final (waiter.Sync line) true shared = refl
behind-names name w final who false shared = refl

left-names : (name : HandleName) (w : Writer) (step : Step) (shared : Shared) → (writer_left name w step shared).names ≡ (if was_under_way (table.get shared.handles name) then names_behind (behind_step step w.upload).state w.key shared.names else shared.names)
left-names name w step shared =
    let final : Upload = behind_step step w.upload in
    let names : LocalNames = names_behind final.state w.key shared.names in
    let way : Bool = was_under_way (table.get shared.handles name) in
    behind-names name w final w.waiter (is_answered (answer_to w.waiter final)) (if way then with_names names shared else shared) ∙ picked way names
  where
    picked : (way : Bool) (names : LocalNames) → (if way then with_names names shared else shared).names ≡ (if way then names else shared.names)
    picked true names = refl
    picked false names = refl

-- A writer that goes on from another of its key, which stands in its place with its file.
pub turn-files : (name : HandleName) (old w : Writer) (step : Step) (shared : Shared) → was_under_way (table.get shared.handles name) ≡ is_under_way old.upload.state → w.key ≡ old.key → GoesOn old.upload w.upload → HasFiles (with_at name (Some (Writing old)) (table.get shared.handles)) shared.names → SharedFiles (writer_left name w step shared)
turn-files name old w step shared was key_is goes has =
    subst (HasFiles (table.get (writer_left name w step shared).handles)) (sym names_are)
    (files-look (with_at name o ready) (table.get (writer_left name w step shared).handles) now handles_are
    (files-left ready shared.names name old o final (at-same name (Some (Writing old)) look) (goes-then old.upload w.upload final goes (goes-step step w.upload)) (subst (λ (key : List ℕ). IsLeft o key final) key_is (is-left w final)) has))
  where
    look : Look
    look = table.get shared.handles

    ready : Look
    ready = with_at name (Some (Writing old)) look

    final : Upload
    final = behind_step step w.upload

    o : Option Handle
    o = left_under (is_answered (answer_to w.waiter final)) w.waiter w final

    now : LocalNames
    now = if is_under_way old.upload.state then names_behind final.state old.key shared.names else shared.names

    handles_are : (q : HandleName) → with_at name o ready q ≡ table.get (writer_left name w step shared).handles q
    handles_are q = at-twice name (Some (Writing old)) o look q ∙ sym (left-look name w step shared q)

    names_are : (writer_left name w step shared).names ≡ now
    names_are =
        left-names name w step shared
        ∙ ap (λ (b : Bool). if b then names_behind final.state w.key shared.names else shared.names) was
        ∙ ap (λ (key : List ℕ). if is_under_way old.upload.state then names_behind final.state key shared.names else shared.names) key_is

-- a line's reply

-- a close that needs no writer keeps the names
closes-names : (line : Line) (shared : Shared) → (closes line shared).names ≡ shared.names
closes-names line shared = go line.request
  where
    go : (asked : Request) → (closes (record { number = line.number; actor = line.actor; request = asked }) shared).names ≡ shared.names
    go (request.Close name) = refl
    go other = refl

itself-names : (line : Line) (step : Step) (shared : Shared) (said : Reply) → (by_reply (Replies said) line step shared (Some said)).names ≡ shared.names
itself-names line step shared reply.Success = closes-names line shared
itself-names line step shared (reply.Open size) = refl
itself-names line step shared other = refl

lacks-shared : (next : Next) (line : Line) (step : Step) (shared : Shared) → MayLack next → by_reply next line step shared (Some (reply.Failed Enomem)) ≡ shared
lacks-shared (Asks called) line step shared may = refl
lacks-shared (Makes key) line step shared may = refl
lacks-shared (Opens version) line step shared may = refl
lacks-shared (Creates key) line step shared may = refl
lacks-shared (Lists entries) line step shared may = refl
lacks-shared (Writes count writer) line step shared may = refl
lacks-shared other line step shared may = absurd may

pub reply-files : (state : ClientState) (event : Event) (opened : IsOpened state event) (step : Step) (next : Next) (said : Reply) → next_now state event opened ≡ next → SharedFiles state.shared → SaysSo next said → SharedFiles (by_reply next opened.line step state.shared (Some said))
reply-files state event opened step next said is has says = go next said is says
  where
    shared : Shared
    shared = state.shared

    look : Look
    look = table.get shared.handles

    name : HandleName
    name = handle_name opened.line

    closed : (said : Reply) → next_now state event opened ≡ Replies said → Effect shared opened.line (Replies said) (by_reply (Replies said) opened.line step shared (Some said)) → HasFiles (table.get (by_reply (Replies said) opened.line step shared (Some said)).handles) shared.names
    closed said is (Keeps same) = files-look look (table.get (by_reply (Replies said) opened.line step shared (Some said)).handles) shared.names same has
    closed said is (OpensOne version next same) = absurd (cc)
    closed said is (CreatesOne key next same) = absurd (cc)
    closed said is (ClosesOne told next awaits same) =
        let named = awaits-name opened.line.request awaits in
        files-look (with_at name None look) (table.get (by_reply (Replies said) opened.line step shared (Some said)).handles) shared.names (λ q. sym (same q))
        (files-unwritten look shared.names name None (λ v stands. replies-unwritten (view_of shared opened.line) opened.line.request opened.heard said v awaits is (handle-at opened.line named.0 shared.handles named.1 ∙ stands)) (λ v stands. absurd (cc)) has)

    go : (next : Next) (said : Reply) → next_now state event opened ≡ next → SaysSo next said → SharedFiles (by_reply next opened.line step shared (Some said))
    go next said is (ByItself own) =
        subst (HasFiles (table.get (by_reply (Replies own) opened.line step shared (Some own)).handles)) (sym (itself-names opened.line step shared own))
        (closed own is (reply-effect (Replies own) own opened.line step shared (ByItself own)))
    go next said is (MakesDir key) = files-made look shared.names key (made (view_of shared opened.line) opened.line.request opened.heard key is) has
    go next said is (RemovesDir key) = files-removed look shared.names key (removed (view_of shared opened.line) opened.line.request opened.heard key is) has
    go next said is (OpensHandle version) =
        let o : Option Handle = Some (Reading opened.line.number version) in
        files-look (with_at name o look) (table.get (table.insert shared.handles name (Reading opened.line.number version))) shared.names (λ q. sym (look-insert shared.handles name (Reading opened.line.number version) q))
        (files-unwritten look shared.names name o (free-unwritten state event opened (opens-free (view_of shared opened.line) opened.line.request opened.heard version is)) (λ v stands. absurd (cc)) has)
    go next said is (CreatesFile key) =
        let w : Writer = writes_first opened.line key shared in
        let free = creates-free (view_of shared opened.line) opened.line.request opened.heard key is in
        files-look (with_at name (Some (Writing w)) look) (table.get (table.insert shared.handles name (Writing w))) (with_file key 0 shared.names) (λ q. sym (look-insert shared.handles name (Writing w) q))
        (files-created look shared.names name w (created (view_of shared opened.line) opened.line.request opened.heard key is) (free-unwritten state event opened free.0) refl has)
    go next said is (ListsEntries entries) = has
    go next said is (GivesData count bytes) = has
    go next said is (HasNoMemory lacked may) = subst SharedFiles (sym (lacks-shared lacked opened.line step shared may)) has
