-- What each request may say next, by its kind: only an await waits for other lines, only a read gives bytes, each call
-- may be made, a page is asked for only where a directory is listed, fewer calls are left with each answer to one, and
-- what a handle is opened under, written to or ended by.
use Rattle.std.proofs.Common.{◌≡◌, ◌≢◌, ℕ, ◌+◌, ◌*◌, ◌<◌, ◌≤◌, min, List, [], ◌∷◌, ◌++◌, length, Bool, true, false, not, ◌||◌, ◌==◌, nat_le, nat_lt, if◌then◌else◌, Option, Some, None, Result, Ok, Err, refl, sym, ap, ◌∙◌, subst, arith, length-append, ltb-true}
use Rattle.std.proofs.lemmas.Bool.{eqb-false, leb-false}
use Rattle.mp_types.specs.declared.errno.Errno.TheVariants.{Eperm, Eexist, Eisdir, Emfile, Enotempty, Eoverflow}
use Rattle.mp_types.specs.declared.path.PathFault.{PathFault}
use Rattle.mp_types.specs.Content.{bytes_of}
use Rattle.mp_types.specs.declared.octets.Data.{Data}
use Rattle.mp_types.specs.Path.{joined}
use Rattle.mp_types.specs.HandleName.{max_handles}
use Rattle.mp_types.specs.Options.{AreWithin}
use Rattle.listing_rules.specs.Names.{listing_of, prefix_of}
use Rattle.listing_rules.specs.Pages.{items_of, last_text}
use Rattle.mp_rules.specs.declared.entry.Entry.{Entry}
use Rattle.mp_rules.specs.declared.entry.Entry.TheVariants.{RemoteDir, LocalDir, LocalFile, File, Nothing}
use Rattle.mp_rules.specs.declared.entry.Local.{Local}
use Rattle.mp_rules.specs.declared.facts.Question.{Question}
use Rattle.mp_rules.specs.declared.facts.Question.TheVariants as question
use Rattle.mp_rules.specs.declared.facts.Fact.{Fact}
use Rattle.mp_rules.specs.declared.facts.Fact.TheVariants as fact
use Rattle.mp_rules.specs.declared.facts.Known.{Known}
use Rattle.mp_rules.specs.Walk.{fact_in, Decision, Need, Is, Refused, walk}
use Rattle.mp_rules.specs.Local.{LocalNames, local_at, has_name_below}
use Rattle.bucket_model.specs.declared.call.Call.{Call}
use Rattle.bucket_model.specs.Answers.{max_parts, MayBeMade}
use Rattle.bucket_model.specs.declared.page.Page.{Page}
use Rattle.bucket_model.specs.declared.answer.Brief.{Brief}
use Rattle.bucket_model.specs.declared.answer.Brief.TheVariants as answer
use Rattle.bucket_model.specs.declared.answer.Brief.TheVariants.{Missing, Bytes, Changed, Gone, Made, Fault}
use Rattle.upload_rules.specs.declared.upload.UpState.TheVariants as state
use Rattle.upload_rules.specs.Upload.{Upload, with_bytes, with_closing}
use Rattle.mount_model.specs.declared.request.Request.{Request}
use Rattle.mount_model.specs.declared.request.Request.TheVariants as request
use Rattle.mount_model.specs.declared.request.Request.TheVariants.{Put, Await, Stat, OpenRead, OpenWrite, OpenTruncate, Read, Write, Sync, Close, Delete, MakeDir, RemoveDir, Unlink}
use Rattle.mount_model.specs.declared.request.Reply.{Reply}
use Rattle.mount_model.specs.declared.request.Reply.TheVariants as reply
use Rattle.mount_model.specs.declared.handle.Handle.TheVariants.{Reading, Writing}
use Rattle.mount_model.specs.declared.handle.Version.{Version}
use Rattle.mount_model.specs.declared.handle.Waiter.{Waiter}
use Rattle.mount_model.specs.declared.handle.Waiter.TheVariants as waiter
use Rattle.mount_model.specs.declared.standing.Heard.{Heard}
use Rattle.mount_model.specs.Heard.{nothing_heard, with_told, call_of, question_of, fact_of, told_from, told_by}
use Rattle.mount_model.specs.Handles.{Handle, Writer, name_in}
use Rattle.upload_rules.specs.declared.upload.UpFault.{UpFault}
use Rattle.upload_rules.specs.Refusal.{refusal}
use Rattle.upload_rules.proofs.Taken.{Takes, taken}
use Rattle.mount_model.specs.Conversation.{Next, Asks, Replies, Makes, Removes, Opens, Creates, Lists, Gives, Writes, Ends, Waits, View, Range, range_in, fails, put_next, delete_next, at_path, along, stat_at, stat_next, opens_if, open_at, create_at, open_next, make_at, make_next, remove_at, remove_next, unlink_at, unlink_next, max_pages, pages_in, last_of, asks_page, behind_page, behind_answer, list_at, list_next, range_next, read_next, with_upload, waited_for, written_or, write_to, write_next, ended, sync_next, close_next, next_of}
use Rattle.run_laws.specs.Alive.{jobs_at_once}
use Rattle.run_laws.specs.Work.{one_left, path_left, list_left, calls_left, writer_calls}
use Rattle.run_laws.specs.Writers.{opens_file, awaits_writer, waiting_line}
pub use Rattle.run_laws.specs.Faithful.{IsRead}
use Rattle.run_laws.specs.Listings.{MayList}
use Rattle.run_laws.proofs.Questions.{path-falls, path-most}

-- a reply without data
abbrev pub IsPlain : Reply → Type 0
IsPlain (reply.Data bytes) = ⊥
IsPlain other = Unit {0}

-- each answer to this call leaves less
abbrev pub Falls : (Heard → ℕ) → Heard → Call → Type 0
Falls left heard called = (answer : Brief) → left (with_told (told_by (question_of called) answer) heard) < left heard

-- a call of a line's own: the line has one at once, each answer leaves fewer, it may be made, and it lists only where the
-- line does
pub record IsAsked (view : View) (request : Request) (left : Heard → ℕ) (heard : Heard) (called : Call) : Type 0 where
  pub one : jobs_at_once request ≡ 1
  pub falls : Falls left heard called
  pub may : AreWithin view.options → MayBeMade called
  pub lists : MayList called request

-- a handle that is opened has a free name
pub record IsFree (view : View) (request : Request) : Type 0 where
  pub name : ℕ
  pub names : name_in request ≡ Some name
  pub free : view.handle ≡ None

-- a write of bytes behind those of a writer that takes them
pub record WritesSo (view : View) (request : Request) (count : ℕ) (now : Writer) : Type 0 where
  pub name : ℕ
  pub names : name_in request ≡ Some name
  pub before : Writer
  pub live : view.handle ≡ Some (Writing before)
  pub opened : before.upload.state ≡ state.Open
  pub bytes : List ℕ
  pub now_is : now ≡ with_upload (with_bytes bytes before.upload) before
  pub count_is : count ≡ length bytes
  pub fits : before.upload.sent + length before.upload.rest + length bytes ≤ before.upload.part * max_parts
  pub calls : writer_calls request ≡ length bytes
  pub one : jobs_at_once request ≡ 1
  pub no_wait : awaits_writer request ≡ false

-- an fsync or a close has a writer go to its end
abbrev pub ends_as : Waiter → Upload → Upload
ends_as (waiter.Close line) u = with_closing (ended u)
ends_as other u = ended u

pub record EndsSo (view : View) (request : Request) (now : Writer) : Type 0 where
  pub name : ℕ
  pub names : name_in request ≡ Some name
  pub before : Writer
  pub live : view.handle ≡ Some (Writing before)
  pub who : Waiter
  pub now_is : now ≡ waited_for who (ends_as who before.upload) before
  pub waits : waiting_line who ≡ Some view.line
  pub awaits : awaits_writer request ≡ true

-- what it takes to say this next
abbrev pub SpeaksWith : View → Request → (Heard → ℕ) → Heard → Next → Type 0
SpeaksWith view request left heard (Asks called) = IsAsked view request left heard called
SpeaksWith view request left heard (Replies said) = IsPlain said
SpeaksWith view request left heard (Makes key) = Unit {0}
SpeaksWith view request left heard (Removes key) = Unit {0}
SpeaksWith view request left heard (Opens version) = IsFree view request
SpeaksWith view request left heard (Creates key) = IsFree view request × (opens_file request ≡ true)
SpeaksWith view request left heard (Lists entries) = Unit {0}
SpeaksWith view request left heard (Gives count) = IsRead request
SpeaksWith view request left heard (Writes count writer) = WritesSo view request count writer
SpeaksWith view request left heard (Ends writer) = EndsSo view request writer
SpeaksWith view request left heard Waits = ⊥

-- where one call is all
abbrev one_call : Heard → ℕ
one_call heard = one_left heard.answers

abbrev heard_of : List Known → List Brief → Heard
heard_of facts answers = record { facts = facts; answers = answers }

put-speaks : (view : View) (key : List ℕ) (content : Data) (facts : List Known) (answers : List Brief) → SpeaksWith view (Put key content) one_call (heard_of facts answers) (put_next key (bytes_of content) answers)
put-speaks view key content facts [] = record { one = refl; falls = λ answer. omega arith; may = λ within. tt; lists = tt }
put-speaks view key content facts (Made etag ∷ answers) = tt
put-speaks view key content facts (other ∷ answers) = tt

-- what stands at a path ends the request, or asks for a call that leaves fewer
abbrev EndsAt : View → Request → (Heard → ℕ) → (Entry → Next) → Type 0
EndsAt view request left at = (facts : List Known) (entry : Entry) → SpeaksWith view request left (heard_of facts []) (at entry)

stat-ends : (view : View) (request : Request) (left : Heard → ℕ) → EndsAt view request left stat_at
stat-ends view request left facts RemoteDir = tt
stat-ends view request left facts LocalDir = tt
stat-ends view request left facts (LocalFile size) = tt
stat-ends view request left facts (File etag size) = tt
stat-ends view request left facts Nothing = tt

-- opened, unless too many are
opens-speak : (view : View) (request : Request) (left : Heard → ℕ) (heard : Heard) (live : ℕ) (opened : Next) → SpeaksWith view request left heard opened → SpeaksWith view request left heard (opens_if live opened)
opens-speak view request left heard live opened speaks = go (live == max_handles)
  where
    go : (full : Bool) → SpeaksWith view request left heard (if full then fails Emfile else opened)
    go true = tt
    go false = speaks

open-ends : (view : View) (request : Request) (left : Heard → ℕ) (live : ℕ) (key : List ℕ) → IsFree view request → EndsAt view request left (open_at live key)
open-ends view request left live key free facts RemoteDir = tt
open-ends view request left live key free facts LocalDir = tt
open-ends view request left live key free facts (LocalFile size) = tt
open-ends view request left live key free facts (File etag size) = opens-speak view request left (heard_of facts []) live (Opens (record { key = key; etag = etag; size = size })) free
open-ends view request left live key free facts Nothing = tt

create-ends : (view : View) (request : Request) (left : Heard → ℕ) (may_overwrite : Bool) (live : ℕ) (key : List ℕ) → IsFree view request → opens_file request ≡ true → EndsAt view request left (create_at may_overwrite live key)
create-ends view request left may_overwrite live key free opens facts RemoteDir = tt
create-ends view request left may_overwrite live key free opens facts LocalDir = tt
create-ends view request left may_overwrite live key free opens facts (LocalFile size) = tt
create-ends view request left true live key free opens facts (File etag size) = opens-speak view request left (heard_of facts []) live (Creates key) (free, opens)
create-ends view request left false live key free opens facts (File etag size) = tt
create-ends view request left may_overwrite live key free opens facts Nothing = opens-speak view request left (heard_of facts []) live (Creates key) (free, opens)

make-ends : (view : View) (request : Request) (left : Heard → ℕ) (key : List ℕ) → EndsAt view request left (make_at key)
make-ends view request left key facts Nothing = tt
make-ends view request left key facts other = tt

remove-ends : (view : View) (request : Request) (left : Heard → ℕ) (names : LocalNames) (key : List ℕ) → EndsAt view request left (remove_at names key)
remove-ends view request left names key facts RemoteDir = tt
remove-ends view request left names key facts LocalDir = go (has_name_below names key)
  where
    go : (some : Bool) → SpeaksWith view request left (heard_of facts []) (if some then fails Enotempty else Removes key)
    go true = tt
    go false = tt
remove-ends view request left names key facts (LocalFile size) = tt
remove-ends view request left names key facts (File etag size) = tt
remove-ends view request left names key facts Nothing = tt

unlink-ends : (view : View) (request : Request) (may_delete : Bool) (key : List ℕ) (names : List (List ℕ)) → jobs_at_once request ≡ 1 → EndsAt view request (path_left 1 (Ok names)) (unlink_at may_delete key)
unlink-ends view request may_delete key names one facts RemoteDir = tt
unlink-ends view request may_delete key names one facts LocalDir = tt
unlink-ends view request may_delete key names one facts (LocalFile size) = tt
unlink-ends view request true key names one facts (File etag size) = record { one = one; falls = λ answer. omega arith; may = λ within. tt; lists = tt }
unlink-ends view request false key names one facts (File etag size) = tt
unlink-ends view request may_delete key names one facts Nothing = tt

-- the answer to a question on the way is one more fact, or the question failed: fewer calls are left
abbrev WalkFalls : (Heard → ℕ) → List (List ℕ) → Type 0
WalkFalls left [] = Unit {0}
WalkFalls left (name ∷ names) = (facts : List Known) (local : List ℕ → Local) (question : Question) (answer : Brief) → walk (fact_in facts) local name names ≡ Need question → left (with_told (told_by (Some question) answer) (heard_of facts [])) < left (heard_of facts [])

path-walk-falls : (behind : ℕ) (names : List (List ℕ)) → WalkFalls (path_left behind (Ok names)) names
path-walk-falls behind [] = tt
path-walk-falls behind (name ∷ names) = λ facts local question answer asks. go facts local question answer asks (fact_of answer)
  where
    go : (facts : List Known) (local : List ℕ → Local) (question : Question) (answer : Brief) → walk (fact_in facts) local name names ≡ Need question → (o : Option Fact) → path_left behind (Ok (name ∷ names)) (with_told (told_from (Some question) o answer) (heard_of facts [])) < path_left behind (Ok (name ∷ names)) (heard_of facts [])
    go facts local question answer asks None = let some = path-falls facts local name names question fact.No asks in omega arith
    go facts local question answer asks (Some told) = let some = path-falls facts local name names question told asks in omega arith

need-speaks : (view : View) (request : Request) (left : Heard → ℕ) (local : List ℕ → Local) (name : List ℕ) (names : List (List ℕ)) (facts : List Known) (question : Question) → jobs_at_once request ≡ 1 → WalkFalls left (name ∷ names) → walk (fact_in facts) local name names ≡ Need question → SpeaksWith view request left (heard_of facts []) (Asks (call_of question))
need-speaks view request left local name names facts (question.Head key) one falls asks = record { one = one; falls = λ answer. falls facts local (question.Head key) answer asks; may = λ within. tt; lists = tt }
need-speaks view request left local name names facts (question.Probe key) one falls asks = record { one = one; falls = λ answer. falls facts local (question.Probe key) answer asks; may = λ within. tt; lists = tt }

-- while no answer is there but facts
walk-speaks : (request : Request) (left : Heard → ℕ) (view : View) (root : Next) (at : Entry → Next) (names : List (List ℕ)) → jobs_at_once request ≡ 1 → ((facts : List Known) → SpeaksWith view request left (heard_of facts []) root) → EndsAt view request left at → WalkFalls left names → (facts : List Known) → SpeaksWith view request left (heard_of facts []) (along view root at names (heard_of facts []))
walk-speaks request left view root at [] one speaks ends falls facts = speaks facts
walk-speaks request left view root at (name ∷ names) one speaks ends falls facts = go (walk (fact_in facts) (local_at view.names) name names) refl
  where
    go : (decision : Decision) → walk (fact_in facts) (local_at view.names) name names ≡ decision → SpeaksWith view request left (heard_of facts []) (at_path at decision [])
    go (Need question) is = need-speaks view request left (local_at view.names) name names facts question one falls is
    go (Is entry) is = ends facts entry
    go (Refused errno) is = tt

names-speak : (request : Request) (behind : ℕ) (view : View) (root : Reply) (at : Entry → Next) (names : List (List ℕ)) → jobs_at_once request ≡ 1 → IsPlain root → EndsAt view request (path_left behind (Ok names)) at → (facts : List Known) (answers : List Brief) → SpeaksWith view request (path_left behind (Ok names)) (heard_of facts answers) (along view (Replies root) at names (heard_of facts answers))
names-speak request behind view root at names one plain ends facts [] = walk-speaks request (path_left behind (Ok names)) view (Replies root) at names one (λ known. plain) ends (path-walk-falls behind names) facts
names-speak request behind view root at [] one plain ends facts (answer ∷ answers) = plain
names-speak request behind view root at (name ∷ names) one plain ends facts (answer ∷ answers) = tt

stat-speaks : (request : Request) (view : View) (path : Result (List (List ℕ)) PathFault) (heard : Heard) → jobs_at_once request ≡ 1 → SpeaksWith view request (path_left 0 path) heard (stat_next view path heard)
stat-speaks request view (Err why) heard one = tt
stat-speaks request view (Ok names) heard one = names-speak request 0 view reply.Directory stat_at names one tt (stat-ends view request (path_left 0 (Ok names))) heard.facts heard.answers

open-speaks : (at : ℕ → List ℕ → Entry → Next) (request : Request) (view : View) (handle : Option Handle) (path : Result (List (List ℕ)) PathFault) (heard : Heard) → jobs_at_once request ≡ 1 → (handle ≡ None → (names : List (List ℕ)) → EndsAt view request (path_left 0 (Ok names)) (at view.live (joined names))) → SpeaksWith view request (path_left 0 path) heard (open_next at view handle path heard)
open-speaks at request view handle (Err why) heard one ends = tt
open-speaks at request view (Some handle) (Ok names) heard one ends = tt
open-speaks at request view None (Ok names) heard one ends = names-speak request 0 view (reply.Failed Eisdir) (at view.live (joined names)) names one tt (ends refl names) heard.facts heard.answers

make-speaks : (request : Request) (view : View) (path : Result (List (List ℕ)) PathFault) (heard : Heard) → jobs_at_once request ≡ 1 → SpeaksWith view request (path_left 0 path) heard (make_next view path heard)
make-speaks request view (Err why) heard one = tt
make-speaks request view (Ok names) heard one = names-speak request 0 view (reply.Failed Eexist) (make_at (joined names)) names one tt (make-ends view request (path_left 0 (Ok names)) (joined names)) heard.facts heard.answers

remove-speaks : (request : Request) (view : View) (path : Result (List (List ℕ)) PathFault) (heard : Heard) → jobs_at_once request ≡ 1 → SpeaksWith view request (path_left 0 path) heard (remove_next view path heard)
remove-speaks request view (Err why) heard one = tt
remove-speaks request view (Ok names) heard one = names-speak request 0 view (reply.Failed Eperm) (remove_at view.names (joined names)) names one tt (remove-ends view request (path_left 0 (Ok names)) view.names (joined names)) heard.facts heard.answers

unlink-speaks : (request : Request) (view : View) (path : Result (List (List ℕ)) PathFault) (heard : Heard) → jobs_at_once request ≡ 1 → SpeaksWith view request (path_left 1 path) heard (unlink_next view path heard)
unlink-speaks request view (Err why) heard one = tt
unlink-speaks request view (Ok names) heard one = go heard.facts heard.answers
  where
    along_names : (facts : List Known) (answers : List Brief) → SpeaksWith view request (path_left 1 (Ok names)) (heard_of facts answers) (along view (fails Eisdir) (unlink_at view.options.allow_delete (joined names)) names (heard_of facts answers))
    along_names facts answers = names-speak request 1 view (reply.Failed Eisdir) (unlink_at view.options.allow_delete (joined names)) names one tt (unlink-ends view request view.options.allow_delete (joined names) names one) facts answers

    go : (facts : List Known) (answers : List Brief) → SpeaksWith view request (path_left 1 (Ok names)) (heard_of facts answers) (unlink_next view (Ok names) (heard_of facts answers))
    go facts [] = along_names facts []
    go facts (Gone ∷ answers) = tt
    go facts (other ∷ answers) = along_names facts (other ∷ answers)

-- a listing's pages

list-walk-falls : (names : List (List ℕ)) → WalkFalls (list_left (Ok names)) names
list-walk-falls [] = tt
list-walk-falls (name ∷ names) = λ facts local question answer asks. go facts local question answer asks (fact_of answer)
  where
    go : (facts : List Known) (local : List ℕ → Local) (question : Question) (answer : Brief) → walk (fact_in facts) local name names ≡ Need question → (o : Option Fact) → list_left (Ok (name ∷ names)) (with_told (told_from (Some question) o answer) (heard_of facts [])) < list_left (Ok (name ∷ names)) (heard_of facts [])
    go facts local question answer asks None = omega arith
    go facts local question answer asks (Some told) = let some = path-falls facts local name names question told asks in omega arith

-- each answer leaves one page fewer
page-falls : (names : List (List ℕ)) (facts : List Known) (answers : List Brief) (answer : Brief) → length answers < max_pages → list_left (Ok names) (heard_of facts (answers ++ answer ∷ [])) < list_left (Ok names) (heard_of facts answers)
page-falls names facts [] answer few = omega arith
page-falls names facts (first ∷ answers) answer few = let sum = length-append answers (answer ∷ []) in omega arith

page-asked : (view : View) (names : List (List ℕ)) (after : List ℕ) (facts : List Known) (answers : List Brief) → length answers < max_pages → SpeaksWith view (request.List (Ok names)) (list_left (Ok names)) (heard_of facts answers) (asks_page view (prefix_of names) after)
page-asked view names after facts answers few = record {
  one = refl;
  falls = λ answer. page-falls names facts answers answer few;
  may = λ within. (within.page_low, within.page_high);
  lists = record { names = names; lists = refl; prefix_is = refl };
}

list-ends : (view : View) (request : Request) (left : Heard → ℕ) (first : Next) → ((facts : List Known) → SpeaksWith view request left (heard_of facts []) first) → EndsAt view request left (list_at first)
list-ends view request left first speaks facts RemoteDir = speaks facts
list-ends view request left first speaks facts LocalDir = speaks facts
list-ends view request left first speaks facts (LocalFile size) = tt
list-ends view request left first speaks facts (File etag size) = tt
list-ends view request left first speaks facts Nothing = tt

-- behind a page
page-speaks : (view : View) (names : List (List ℕ)) (facts : List Known) (answers : List Brief) (last : Page) → SpeaksWith view (request.List (Ok names)) (list_left (Ok names)) (heard_of facts answers) (behind_page view (prefix_of names) answers last)
page-speaks view names facts answers last = go last.more (nat_lt (length answers) max_pages) refl
  where
    next : Next
    next = asks_page view (prefix_of names) (last_text [] last.items)

    shown : Next
    shown = Lists (listing_of (prefix_of names) (items_of (pages_in answers)) view.names)

    go : (more few : Bool) → nat_lt (length answers) max_pages ≡ few → SpeaksWith view (request.List (Ok names)) (list_left (Ok names)) (heard_of facts answers) (if not more then shown else (if few then next else fails Eoverflow))
    go false few is = tt
    go true true is = page-asked view names (last_text [] last.items) facts answers (ltb-true (length answers) max_pages is)
    go true false is = tt

answer-speaks : (view : View) (names : List (List ℕ)) (facts : List Known) (answers : List Brief) (last : Brief) → SpeaksWith view (request.List (Ok names)) (list_left (Ok names)) (heard_of facts answers) (behind_answer view (prefix_of names) answers last)
answer-speaks view names facts answers (answer.Page page) = page-speaks view names facts answers page
answer-speaks view names facts answers other = tt

list-speaks : (view : View) (path : Result (List (List ℕ)) PathFault) (heard : Heard) → SpeaksWith view (request.List path) (list_left path) heard (list_next view path heard)
list-speaks view (Err why) heard = tt
list-speaks view (Ok names) heard = go heard.facts heard.answers
  where
    first : Next
    first = asks_page view (prefix_of names) []

    speaks_first : (facts : List Known) → SpeaksWith view (request.List (Ok names)) (list_left (Ok names)) (heard_of facts []) first
    speaks_first facts = page-asked view names [] facts [] (omega arith)

    go : (facts : List Known) (answers : List Brief) → SpeaksWith view (request.List (Ok names)) (list_left (Ok names)) (heard_of facts answers) (list_next view (Ok names) (heard_of facts answers))
    go facts [] = walk-speaks (request.List (Ok names)) (list_left (Ok names)) view first (list_at first) names refl speaks_first (list-ends view (request.List (Ok names)) (list_left (Ok names)) first speaks_first) (list-walk-falls names) facts
    go facts (answer ∷ answers) = answer-speaks view names facts (answer ∷ answers) (last_of answer answers)

-- a range has a byte
pub range_some : (offset count size : ℕ) (range : Range) → range_in offset count size ≡ Some range → range.from < range.to
range_some offset count size range is = go (count == 0) (nat_le size offset) refl refl is
  where
    go : (none over : Bool) → (count == 0) ≡ none → nat_le size offset ≡ over → (if none || over then None else Some (record { from = offset; to = min (offset + count) size })) ≡ Some range → range.from < range.to
    go true over no_count past is = absurd (cc)
    go false true no_count past is = absurd (cc)
    go false false no_count past is =
        let some : count ≢ 0 = eqb-false count 0 no_count in
        let inside : offset < size = leb-false size offset past in
        let same : record { from = offset; to = min (offset + count) size } ≡ range = cc in
        let from_is : offset ≡ range.from = ap (λ (r : Range). r.from) same in
        let to_is : min (offset + count) size ≡ range.to = ap (λ (r : Range). r.to) same in
        omega arith

range-speaks : (view : View) (name offset count : ℕ) (version : Version) (o : Option Range) (facts : List Known) (answers : List Brief) → ((range : Range) → o ≡ Some range → range.from < range.to) → SpeaksWith view (Read name offset count) one_call (heard_of facts answers) (range_next version o answers)
range-speaks view name offset count version None facts answers some = tt
range-speaks view name offset count version (Some range) facts [] some = record { one = refl; falls = λ answer. omega arith; may = λ within. some range refl; lists = tt }
range-speaks view name offset count version (Some range) facts (Bytes given ∷ answers) some = tt
range-speaks view name offset count version (Some range) facts (Changed ∷ answers) some = tt
range-speaks view name offset count version (Some range) facts (Missing ∷ answers) some = tt
range-speaks view name offset count version (Some range) facts (other ∷ answers) some = tt

read-speaks : (view : View) (name : ℕ) (handle : Option Handle) (offset count : ℕ) (heard : Heard) → SpeaksWith view (Read name offset count) one_call heard (read_next handle offset count heard.answers)
read-speaks view name None offset count heard = tt
read-speaks view name (Some (Reading line version)) offset count heard = range-speaks view name offset count version (range_in offset count version.size) heard.facts heard.answers (range_some offset count version.size)
read-speaks view name (Some (Writing writer)) offset count heard = tt

-- a writer that takes bytes, or doesn't
write-to-speaks : (view : View) (name offset : ℕ) (content : Data) (heard : Heard) (w : Writer) → view.handle ≡ Some (Writing w) → SpeaksWith view (Write name offset content) (calls_left (Write name offset content)) heard (write_to w offset (bytes_of content))
write-to-speaks view name offset content heard w live = by (refusal w.upload offset (length (bytes_of content))) refl
  where
    by : (o : Option UpFault) → refusal w.upload offset (length (bytes_of content)) ≡ o → SpeaksWith view (Write name offset content) (calls_left (Write name offset content)) heard (written_or w (bytes_of content) o)
    by (Some why) is = tt
    by None is =
        let takes : Takes w.upload offset (length (bytes_of content)) = taken w.upload offset (length (bytes_of content)) is in
        let place = takes.place in
        let fits = takes.fits in
        record { name = name; names = refl; before = w; live = live; opened = takes.opened; bytes = bytes_of content; now_is = refl; count_is = refl; fits = omega arith; calls = refl; one = refl; no_wait = refl }

write-speaks : (view : View) (name offset : ℕ) (content : Data) (heard : Heard) (handle : Option Handle) → view.handle ≡ handle → SpeaksWith view (Write name offset content) (calls_left (Write name offset content)) heard (write_next handle offset (bytes_of content))
write-speaks view name offset content heard None live = tt
write-speaks view name offset content heard (Some (Reading line version)) live = tt
write-speaks view name offset content heard (Some (Writing w)) live = write-to-speaks view name offset content heard w live

sync-speaks : (view : View) (name : ℕ) (heard : Heard) (handle : Option Handle) → view.handle ≡ handle → SpeaksWith view (Sync name) (calls_left (Sync name)) heard (sync_next view.line handle)
sync-speaks view name heard None live = tt
sync-speaks view name heard (Some (Reading line version)) live = tt
sync-speaks view name heard (Some (Writing w)) live = record { name = name; names = refl; before = w; live = live; who = waiter.Sync view.line; now_is = refl; waits = refl; awaits = refl }

close-speaks : (view : View) (name : ℕ) (heard : Heard) (handle : Option Handle) → view.handle ≡ handle → SpeaksWith view (Close name) (calls_left (Close name)) heard (close_next view.line handle)
close-speaks view name heard None live = tt
close-speaks view name heard (Some (Reading line version)) live = tt
close-speaks view name heard (Some (Writing w)) live = record { name = name; names = refl; before = w; live = live; who = waiter.Close view.line; now_is = refl; waits = refl; awaits = refl }

delete-speaks : (view : View) (key : List ℕ) (facts : List Known) (answers : List Brief) → SpeaksWith view (Delete key) one_call (heard_of facts answers) (delete_next key answers)
delete-speaks view key facts [] = record { one = refl; falls = λ answer. omega arith; may = λ within. tt; lists = tt }
delete-speaks view key facts (Gone ∷ answers) = tt
delete-speaks view key facts (other ∷ answers) = tt

-- a request speaks so, unless it is an await
data Speaks (view : View) (request : Request) (heard : Heard) : Type 0 where
  AwaitSpeaks : request ≡ Await → next_of view request heard ≡ Waits → Speaks view request heard
  OtherSpeaks : SpeaksWith view request (calls_left request) heard (next_of view request heard) → Speaks view request heard

is-free : (view : View) (request : Request) (name : ℕ) → name_in request ≡ Some name → view.handle ≡ None → IsFree view request
is-free view request name names free = record { name = name; names = names; free = free }

speaks : (view : View) (request : Request) (heard : Heard) → Speaks view request heard
speaks view (Put key content) heard = OtherSpeaks (put-speaks view key content heard.facts heard.answers)
speaks view Await heard = AwaitSpeaks refl refl
speaks view (Stat path) heard = OtherSpeaks (stat-speaks (Stat path) view path heard refl)
speaks view (request.List path) heard = OtherSpeaks (list-speaks view path heard)
speaks view (OpenRead name path) heard = OtherSpeaks (open-speaks open_at (OpenRead name path) view view.handle path heard refl (λ free names. open-ends view (OpenRead name path) (path_left 0 (Ok names)) view.live (joined names) (is-free view (OpenRead name path) name refl free)))
speaks view (OpenWrite name path) heard = OtherSpeaks (open-speaks (create_at false) (OpenWrite name path) view view.handle path heard refl (λ free names. create-ends view (OpenWrite name path) (path_left 0 (Ok names)) false view.live (joined names) (is-free view (OpenWrite name path) name refl free) refl))
speaks view (OpenTruncate name path) heard = OtherSpeaks (open-speaks (create_at view.options.allow_overwrite) (OpenTruncate name path) view view.handle path heard refl (λ free names. create-ends view (OpenTruncate name path) (path_left 0 (Ok names)) view.options.allow_overwrite view.live (joined names) (is-free view (OpenTruncate name path) name refl free) refl))
speaks view (Read name offset count) heard = OtherSpeaks (read-speaks view name view.handle offset count heard)
speaks view (Write name offset content) heard = OtherSpeaks (write-speaks view name offset content heard view.handle refl)
speaks view (Sync name) heard = OtherSpeaks (sync-speaks view name heard view.handle refl)
speaks view (Close name) heard = OtherSpeaks (close-speaks view name heard view.handle refl)
speaks view (Delete key) heard = OtherSpeaks (delete-speaks view key heard.facts heard.answers)
speaks view (MakeDir path) heard = OtherSpeaks (make-speaks (MakeDir path) view path heard refl)
speaks view (RemoveDir path) heard = OtherSpeaks (remove-speaks (RemoveDir path) view path heard refl)
speaks view (Unlink path) heard = OtherSpeaks (unlink-speaks (Unlink path) view path heard refl)

pub only_await_waits : (view : View) (request : Request) (heard : Heard) → next_of view request heard ≡ Waits → request ≡ Await
only_await_waits view request heard is = go (speaks view request heard)
  where
    go : Speaks view request heard → request ≡ Await
    go (AwaitSpeaks awaits waits) = awaits
    go (OtherSpeaks fine) = absurd (subst (SpeaksWith view request (calls_left request) heard) is fine)

-- what is said next takes what it has to
spoken : (view : View) (request : Request) (heard : Heard) (next : Next) → next_of view request heard ≡ next → next ≢ Waits → SpeaksWith view request (calls_left request) heard next
spoken view request heard next is other = go (speaks view request heard)
  where
    go : Speaks view request heard → SpeaksWith view request (calls_left request) heard next
    go (AwaitSpeaks awaits waits) = absurd (other (sym is ∙ waits))
    go (OtherSpeaks fine) = subst (SpeaksWith view request (calls_left request) heard) is fine

pub asks-so : (view : View) (request : Request) (heard : Heard) (called : Call) → next_of view request heard ≡ Asks called → IsAsked view request (calls_left request) heard called
asks-so view request heard called is = spoken view request heard (Asks called) is (λ e. absurd (cc))

pub asks-one : (view : View) (request : Request) (heard : Heard) (called : Call) → next_of view request heard ≡ Asks called → jobs_at_once request ≡ 1
asks-one view request heard called is = (asks-so view request heard called is).one

-- an answer to the call leaves fewer
pub calls_left_fall : (view : View) (request : Request) (heard : Heard) (called : Call) (answer : Brief) → next_of view request heard ≡ Asks called → calls_left request (with_told (told_by (question_of called) answer) heard) < calls_left request heard
calls_left_fall view request heard called answer is = (asks-so view request heard called is).falls answer

-- so that one is left where it is asked
pub asks-left : (view : View) (request : Request) (heard : Heard) (called : Call) → next_of view request heard ≡ Asks called → 0 < calls_left request heard
asks-left view request heard called is = let falls = calls_left_fall view request heard called Fault is in omega arith

-- the call may be made
pub asks_made : (view : View) (request : Request) (heard : Heard) (called : Call) → AreWithin view.options → next_of view request heard ≡ Asks called → MayBeMade called
asks_made view request heard called within is = (asks-so view request heard called is).may within

-- and it lists only where the line does
pub asks_listed : (view : View) (request : Request) (heard : Heard) (called : Call) → next_of view request heard ≡ Asks called → MayList called request
asks_listed view request heard called is = (asks-so view request heard called is).lists

pub gives-read : (view : View) (request : Request) (heard : Heard) (count : ℕ) → next_of view request heard ≡ Gives count → IsRead request
gives-read view request heard count is = spoken view request heard (Gives count) is (λ e. absurd (cc))

-- no data but those of a read
pub replies-plain : (view : View) (request : Request) (heard : Heard) (said : Reply) → next_of view request heard ≡ Replies said → IsPlain said
replies-plain view request heard said is = spoken view request heard (Replies said) is (λ e. absurd (cc))

pub opens-free : (view : View) (request : Request) (heard : Heard) (version : Version) → next_of view request heard ≡ Opens version → IsFree view request
opens-free view request heard version is = spoken view request heard (Opens version) is (λ e. absurd (cc))

pub creates-free : (view : View) (request : Request) (heard : Heard) (key : List ℕ) → next_of view request heard ≡ Creates key → IsFree view request × (opens_file request ≡ true)
creates-free view request heard key is = spoken view request heard (Creates key) is (λ e. absurd (cc))

pub writes-so : (view : View) (request : Request) (heard : Heard) (count : ℕ) (writer : Writer) → next_of view request heard ≡ Writes count writer → WritesSo view request count writer
writes-so view request heard count writer is = spoken view request heard (Writes count writer) is (λ e. absurd (cc))

pub ends-so : (view : View) (request : Request) (heard : Heard) (writer : Writer) → next_of view request heard ≡ Ends writer → EndsSo view request writer
ends-so view request heard writer is = spoken view request heard (Ends writer) is (λ e. absurd (cc))

-- an fsync or a close of a writer isn't answered by itself
pub replies-unwritten : (view : View) (request : Request) (heard : Heard) (said : Reply) (w : Writer) → awaits_writer request ≡ true → next_of view request heard ≡ Replies said → view.handle ≢ Some (Writing w)
replies-unwritten view (Sync name) heard said w awaits is live = let next : sync_next view.line (Some (Writing w)) ≡ Replies said = ap (sync_next view.line) (sym live) ∙ is in absurd (cc)
replies-unwritten view (Close name) heard said w awaits is live = let next : close_next view.line (Some (Writing w)) ≡ Replies said = ap (close_next view.line) (sym live) ∙ is in absurd (cc)
replies-unwritten view other heard said w awaits is live = absurd (cc)

-- what has a job of its own awaits no writer
pub one-no-wait : (request : Request) → jobs_at_once request ≡ 1 → awaits_writer request ≡ false
one-no-wait (Sync name) one = absurd (omega arith)
one-no-wait (Close name) one = absurd (omega arith)
one-no-wait other one = refl

pub one-no-await : (request : Request) → jobs_at_once request ≡ 1 → request ≢ Await
one-no-await request one is = let none : jobs_at_once request ≡ 0 = ap jobs_at_once is in absurd (omega arith)

-- and what opens a file has calls for its writer
pub opens-calls : (request : Request) → opens_file request ≡ true → writer_calls request ≡ 4
opens-calls (OpenWrite name path) is = refl
opens-calls (OpenTruncate name path) is = refl
opens-calls other is = absurd (cc)

pub awaits-name : (request : Request) → awaits_writer request ≡ true → (name : ℕ) × (name_in request ≡ Some name)
awaits-name (Sync name) is = (name, refl)
awaits-name (Close name) is = (name, refl)
awaits-name other is = absurd (cc)

pub opens-name : (request : Request) → opens_file request ≡ true → (name : ℕ) × (name_in request ≡ Some name)
opens-name (OpenWrite name path) is = (name, refl)
opens-name (OpenTruncate name path) is = (name, refl)
opens-name other is = absurd (cc)

-- what a read does next hangs on its handle alone, of all that it sees of the mount
pub read_next_same : (one other : View) (request : Request) (heard : Heard) → IsRead request → one.handle ≡ other.handle → next_of one request heard ≡ next_of other request heard
read_next_same one other (Read name offset count) heard read same = ap (λ (h : Option Handle). read_next h offset count heard.answers) same
read_next_same one other request heard read same = absurd read

-- and where it asks, its handle reads
pub read-reads : (view : View) (request : Request) (heard : Heard) (called : Call) (w : Writer) → IsRead request → next_of view request heard ≡ Asks called → view.handle ≢ Some (Writing w)
read-reads view (Read name offset count) heard called w read is live = let next : read_next (Some (Writing w)) offset count heard.answers ≡ Asks called = ap (λ (h : Option Handle). read_next h offset count heard.answers) (sym live) ∙ is in absurd (cc)
read-reads view request heard called w read is live = absurd read

-- how many calls there are to make from the first one on

pub path_calls : (behind : ℕ) (names : List (List ℕ)) → path_left behind (Ok names) nothing_heard ≤ 2 * length names + behind
path_calls behind names = let most = path-most (fact_in []) names in omega arith

pub walk_calls : (names : List (List ℕ)) → path_left 0 (Ok names) nothing_heard ≤ 2 * length names
walk_calls names = let most = path_calls 0 names in omega arith

pub list_calls : (names : List (List ℕ)) → list_left (Ok names) nothing_heard ≤ 2 * length names + max_pages
list_calls names = let most = path-most (fact_in []) names in omega arith
