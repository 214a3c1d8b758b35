-- What a line does next that names the handle of a writer, and what lines ask for on their own.
use Rattle.std.proofs.Common.{◌≡◌, ℕ, List, [], ◌∷◌, length, Bool, true, false, not, ◌==◌, nat_lt, if◌then◌else◌, Option, Some, None, Result, Ok, Err, refl, sym, ap, subst}
use Rattle.mp_types.specs.declared.errno.Errno.{Errno}
use Rattle.mp_types.specs.declared.errno.Errno.TheVariants.{Ebadf, Einval, Eisdir, Emfile, Enotempty, Eoverflow, Eperm}
use Rattle.mp_types.specs.declared.path.PathFault.{PathFault}
use Rattle.mp_types.specs.declared.octets.Data.{Data}
use Rattle.mp_types.specs.HandleName.{max_handles}
use Rattle.mp_types.specs.Content.{bytes_of}
use Rattle.mp_types.specs.Path.{joined}
use Rattle.mp_rules.specs.declared.entry.Entry.{Entry}
use Rattle.mp_rules.specs.declared.entry.Entry.TheVariants.{RemoteDir, LocalDir, LocalFile, File, Nothing}
use Rattle.mp_rules.specs.declared.facts.Question.{Question}
use Rattle.mp_rules.specs.declared.facts.Question.TheVariants as question
use Rattle.mp_rules.specs.declared.facts.Known.{Known}
use Rattle.mp_rules.specs.Walk.{Decision, Need, Is, Refused, fact_in, walk}
use Rattle.mp_rules.specs.Local.{LocalNames, local_at, has_name_below}
use Rattle.listing_rules.specs.Names.{listing_of, prefix_of}
use Rattle.listing_rules.specs.Pages.{items_of, last_text}
use Rattle.bucket_model.specs.Answers.{upload_in}
use Rattle.bucket_model.specs.declared.call.Call.{Call}
use Rattle.bucket_model.specs.declared.page.Page.{Page}
use Rattle.bucket_model.specs.declared.answer.Brief.{Brief}
use Rattle.bucket_model.specs.declared.answer.Brief.TheVariants as answer
use Rattle.bucket_model.specs.declared.answer.Brief.TheVariants.{Missing, Bytes, Changed, Gone, Made}
use Rattle.upload_rules.specs.declared.upload.UpState.TheVariants as state
use Rattle.upload_rules.specs.Upload.{with_bytes}
use Rattle.mount_model.specs.declared.request.Request.{Request}
use Rattle.mount_model.specs.declared.request.Request.TheVariants as request
use Rattle.mount_model.specs.declared.request.Request.TheVariants.{Put, Await, Stat, OpenRead, OpenWrite, OpenTruncate, Read, Write, Sync, Close, Delete, MakeDir, RemoveDir, Unlink}
use Rattle.mount_model.specs.declared.request.Reply.TheVariants as reply
use Rattle.mount_model.specs.declared.handle.Handle.TheVariants.{Reading, Writing}
use Rattle.mount_model.specs.declared.handle.Version.{Version}
use Rattle.mount_model.specs.declared.handle.Waiter.{Waiter}
use Rattle.mount_model.specs.declared.handle.Waiter.TheVariants as waiter
use Rattle.mount_model.specs.declared.standing.Heard.{Heard}
use Rattle.mount_model.specs.Heard.{call_of}
use Rattle.mount_model.specs.Handles.{Handle, Writer, name_in}
use Rattle.upload_rules.specs.declared.upload.UpFault.{UpFault}
use Rattle.upload_rules.specs.Refusal.{refusal}
use Rattle.upload_rules.proofs.Taken.{taken}
use Rattle.mount_model.specs.Conversation.{Next, Asks, Replies, Removes, Opens, Creates, Lists, Writes, Ends, View, Range, range_in, fails, put_next, delete_next, at_path, along, stat_at, stat_next, opens_if, open_at, create_at, open_next, make_at, make_next, remove_at, remove_next, unlink_at, unlink_next, max_pages, pages_in, last_of, asks_page, behind_page, behind_answer, list_at, list_next, range_next, read_next, with_upload, waited_for, errno_for, written_or, write_to, write_next, sync_next, close_next, next_of}
use Rattle.mount_model.specs.Written.{content_in}
use Rattle.run_laws.specs.Writers.{waiting_line}
use Rattle.run_laws.proofs.Conversation.{ends_as}

-- what a line does next that names the handle of a writer: it fails, writes, or has the writer end
pub data NamedNext (line : ℕ) (request : Request) (w : Writer) (next : Next) : Type 0 where
  FailsSo : (errno : Errno) → next ≡ fails errno → NamedNext line request w next
  WritesMore : (count : ℕ) → w.upload.state ≡ state.Open → next ≡ Writes count (with_upload (with_bytes (content_in request) w.upload) w) → NamedNext line request w next
  HasEnd : (who : Waiter) → waiting_line who ≡ Some line → next ≡ Ends (waited_for who (ends_as who w.upload) w) → NamedNext line request w next

open-named : (at : ℕ → List ℕ → Entry → Next) (view : View) (w : Writer) (request : Request) (path : Result (List (List ℕ)) PathFault) (heard : Heard) → view.handle ≡ Some (Writing w) → NamedNext view.line request w (open_next at view view.handle path heard)
open-named at view w request path heard live = subst (λ (h : Option Handle). NamedNext view.line request w (open_next at view h path heard)) (sym live) (go path)
  where
    go : (path : Result (List (List ℕ)) PathFault) → NamedNext view.line request w (open_next at view (Some (Writing w)) path heard)
    go (Err why) = FailsSo _ refl
    go (Ok names) = FailsSo Einval refl

write-named : (line : ℕ) (w : Writer) (name offset : ℕ) (content : Data) → NamedNext line (Write name offset content) w (write_to w offset (bytes_of content))
write-named line w name offset content = by (refusal w.upload offset (length (bytes_of content))) refl
  where
    by : (o : Option UpFault) → refusal w.upload offset (length (bytes_of content)) ≡ o → NamedNext line (Write name offset content) w (written_or w (bytes_of content) o)
    by (Some why) is = FailsSo (errno_for why) refl
    by None is = WritesMore (length (bytes_of content)) (taken w.upload offset (length (bytes_of content)) is).opened refl

pub named-next : (view : View) (request : Request) (heard : Heard) (name : ℕ) (w : Writer) → name_in request ≡ Some name → view.handle ≡ Some (Writing w) → NamedNext view.line request w (next_of view request heard)
named-next view (OpenRead own path) heard name w names live = open-named open_at view w (OpenRead own path) path heard live
named-next view (OpenWrite own path) heard name w names live = open-named (create_at false) view w (OpenWrite own path) path heard live
named-next view (OpenTruncate own path) heard name w names live = open-named (create_at view.options.allow_overwrite) view w (OpenTruncate own path) path heard live
named-next view (Read own offset count) heard name w names live = FailsSo Ebadf (ap (λ (h : Option Handle). read_next h offset count heard.answers) live)
named-next view (Write own offset content) heard name w names live = subst (λ (h : Option Handle). NamedNext view.line (Write own offset content) w (write_next h offset (bytes_of content))) (sym live) (write-named view.line w own offset content)
named-next view (Sync own) heard name w names live = HasEnd (waiter.Sync view.line) refl (ap (sync_next view.line) live)
named-next view (Close own) heard name w names live = HasEnd (waiter.Close view.line) refl (ap (close_next view.line) live)
named-next view (Put key content) heard name w names live = absurd (cc)
named-next view Await heard name w names live = absurd (cc)
named-next view (Stat path) heard name w names live = absurd (cc)
named-next view (request.List path) heard name w names live = absurd (cc)
named-next view (Delete key) heard name w names live = absurd (cc)
named-next view (MakeDir path) heard name w names live = absurd (cc)
named-next view (RemoveDir path) heard name w names live = absurd (cc)
named-next view (Unlink path) heard name w names live = absurd (cc)

-- what a line asks for on its own names no upload

abbrev NamesNone : Next → Type 0
NamesNone (Asks called) = upload_in called ≡ None
NamesNone other = Unit {0}

put-none : (key bytes : List ℕ) (answers : List Brief) → NamesNone (put_next key bytes answers)
put-none key bytes [] = refl
put-none key bytes (Made etag ∷ answers) = tt
put-none key bytes (other ∷ answers) = tt

delete-none : (key : List ℕ) (answers : List Brief) → NamesNone (delete_next key answers)
delete-none key [] = refl
delete-none key (Gone ∷ answers) = tt
delete-none key (other ∷ answers) = tt

question-none : (asked : Question) → upload_in (call_of asked) ≡ None
question-none (question.Head key) = refl
question-none (question.Probe key) = refl

path-none : (at : Entry → Next) → ((entry : Entry) → NamesNone (at entry)) → (decision : Decision) (answers : List Brief) → NamesNone (at_path at decision answers)
path-none at none decision (answer ∷ answers) = tt
path-none at none (Need asked) [] = question-none asked
path-none at none (Is entry) [] = none entry
path-none at none (Refused errno) [] = tt

along-none : (view : View) (root : Next) (at : Entry → Next) (names : List (List ℕ)) (heard : Heard) → NamesNone root → ((entry : Entry) → NamesNone (at entry)) → NamesNone (along view root at names heard)
along-none view root at [] heard first none = first
along-none view root at (name ∷ names) heard first none = path-none at none (walk (fact_in heard.facts) (local_at view.names) name names) heard.answers

if-none : (b : Bool) (x y : Next) → NamesNone x → NamesNone y → NamesNone (if b then x else y)
if-none true x y first second = first
if-none false x y first second = second

opens-none : (live : ℕ) (opened : Next) → NamesNone opened → NamesNone (opens_if live opened)
opens-none live opened none = if-none (live == max_handles) (fails Emfile) opened tt none

open-none : (live : ℕ) (key : List ℕ) (entry : Entry) → NamesNone (open_at live key entry)
open-none live key RemoteDir = tt
open-none live key LocalDir = tt
open-none live key (LocalFile size) = tt
open-none live key (File etag size) = opens-none live (Opens (record { key = key; etag = etag; size = size })) tt
open-none live key Nothing = tt

create-none : (may : Bool) (live : ℕ) (key : List ℕ) (entry : Entry) → NamesNone (create_at may live key entry)
create-none may live key RemoteDir = tt
create-none may live key LocalDir = tt
create-none may live key (LocalFile size) = tt
create-none may live key (File etag size) = if-none may (opens_if live (Creates key)) (fails Eperm) (opens-none live (Creates key) tt) tt
create-none may live key Nothing = opens-none live (Creates key) tt

opening-none : (at : ℕ → List ℕ → Entry → Next) → ((live : ℕ) (key : List ℕ) (entry : Entry) → NamesNone (at live key entry)) → (view : View) (handle : Option Handle) (path : Result (List (List ℕ)) PathFault) (heard : Heard) → NamesNone (open_next at view handle path heard)
opening-none at none view handle (Err why) heard = tt
opening-none at none view (Some handle) (Ok names) heard = tt
opening-none at none view None (Ok names) heard = along-none view _ (at view.live (joined names)) names heard tt (none view.live (joined names))

stat-none : (entry : Entry) → NamesNone (stat_at entry)
stat-none RemoteDir = tt
stat-none LocalDir = tt
stat-none (LocalFile size) = tt
stat-none (File etag size) = tt
stat-none Nothing = tt

stats-none : (view : View) (path : Result (List (List ℕ)) PathFault) (heard : Heard) → NamesNone (stat_next view path heard)
stats-none view (Err why) heard = tt
stats-none view (Ok names) heard = along-none view (Replies reply.Directory) stat_at names heard tt stat-none

make-none : (key : List ℕ) (entry : Entry) → NamesNone (make_at key entry)
make-none key RemoteDir = tt
make-none key LocalDir = tt
make-none key (LocalFile size) = tt
make-none key (File etag size) = tt
make-none key Nothing = tt

makes-none : (view : View) (path : Result (List (List ℕ)) PathFault) (heard : Heard) → NamesNone (make_next view path heard)
makes-none view (Err why) heard = tt
makes-none view (Ok names) heard = along-none view _ (make_at (joined names)) names heard tt (make-none (joined names))

remove-none : (names : LocalNames) (key : List ℕ) (entry : Entry) → NamesNone (remove_at names key entry)
remove-none names key RemoteDir = tt
remove-none names key LocalDir = if-none (has_name_below names key) (fails Enotempty) (Removes key) tt tt
remove-none names key (LocalFile size) = tt
remove-none names key (File etag size) = tt
remove-none names key Nothing = tt

removes-none : (view : View) (path : Result (List (List ℕ)) PathFault) (heard : Heard) → NamesNone (remove_next view path heard)
removes-none view (Err why) heard = tt
removes-none view (Ok names) heard = along-none view _ (remove_at view.names (joined names)) names heard tt (remove-none view.names (joined names))

unlink-none : (may : Bool) (key : List ℕ) (entry : Entry) → NamesNone (unlink_at may key entry)
unlink-none may key RemoteDir = tt
unlink-none may key LocalDir = tt
unlink-none may key (LocalFile size) = tt
unlink-none true key (File etag size) = refl
unlink-none false key (File etag size) = tt
unlink-none may key Nothing = tt

unlinks-none : (view : View) (path : Result (List (List ℕ)) PathFault) (heard : Heard) → NamesNone (unlink_next view path heard)
unlinks-none view (Err why) heard = tt
unlinks-none view (Ok names) heard = go heard.facts heard.answers
  where
    go : (facts : List Known) (answers : List Brief) → NamesNone (unlink_next view (Ok names) (record { facts = facts; answers = answers }))
    go facts [] = along-none view (fails Eisdir) (unlink_at view.options.allow_delete (joined names)) names (record { facts = facts; answers = [] }) tt (unlink-none view.options.allow_delete (joined names))
    go facts (Gone ∷ answers) = tt
    go facts (other ∷ answers) = along-none view (fails Eisdir) (unlink_at view.options.allow_delete (joined names)) names (record { facts = facts; answers = other ∷ answers }) tt (unlink-none view.options.allow_delete (joined names))

list-none : (first : Next) (entry : Entry) → NamesNone first → NamesNone (list_at first entry)
list-none first RemoteDir none = none
list-none first LocalDir none = none
list-none first (LocalFile size) none = tt
list-none first (File etag size) none = tt
list-none first Nothing none = tt

page-none : (view : View) (prefix : List ℕ) (answers : List Brief) (last : Page) → NamesNone (behind_page view prefix answers last)
page-none view prefix answers last =
    let next : Next = asks_page view prefix (last_text [] last.items) in
    let more : Next = if nat_lt (length answers) max_pages then next else fails Eoverflow in
    if-none (not last.more) (Lists (listing_of prefix (items_of (pages_in answers)) view.names)) more tt (if-none (nat_lt (length answers) max_pages) next (fails Eoverflow) refl tt)

answer-none : (view : View) (prefix : List ℕ) (answers : List Brief) (last : Brief) → NamesNone (behind_answer view prefix answers last)
answer-none view prefix answers (answer.Page page) = page-none view prefix answers page
answer-none view prefix answers other = tt

lists-none : (view : View) (path : Result (List (List ℕ)) PathFault) (heard : Heard) → NamesNone (list_next view path heard)
lists-none view (Err why) heard = tt
lists-none view (Ok names) heard = go heard.facts heard.answers
  where
    first : Next
    first = asks_page view (prefix_of names) []

    go : (facts : List Known) (answers : List Brief) → NamesNone (list_next view (Ok names) (record { facts = facts; answers = answers }))
    go facts [] = along-none view first (list_at first) names (record { facts = facts; answers = [] }) refl (λ entry. list-none first entry refl)
    go facts (answer ∷ answers) = answer-none view (prefix_of names) (answer ∷ answers) (last_of answer answers)

range-none : (version : Version) (o : Option Range) (answers : List Brief) → NamesNone (range_next version o answers)
range-none version None answers = tt
range-none version (Some range) [] = refl
range-none version (Some range) (Bytes count ∷ answers) = tt
range-none version (Some range) (Changed ∷ answers) = tt
range-none version (Some range) (Missing ∷ answers) = tt
range-none version (Some range) (other ∷ answers) = tt

read-none : (handle : Option Handle) (offset count : ℕ) (answers : List Brief) → NamesNone (read_next handle offset count answers)
read-none None offset count answers = tt
read-none (Some (Writing w)) offset count answers = tt
read-none (Some (Reading line version)) offset count answers = range-none version (range_in offset count version.size) answers

named-none : (line : ℕ) (request : Request) (w : Writer) (next : Next) → NamedNext line request w next → NamesNone next
named-none line request w next (FailsSo errno is) = subst NamesNone (sym is) tt
named-none line request w next (WritesMore count opened is) = subst NamesNone (sym is) tt
named-none line request w next (HasEnd who waits is) = subst NamesNone (sym is) tt

write-none : (handle : Option Handle) (offset : ℕ) (content : Data) → NamesNone (write_next handle offset (bytes_of content))
write-none None offset content = tt
write-none (Some (Reading line version)) offset content = tt
write-none (Some (Writing w)) offset content = named-none 0 (Write 0 offset content) w (write_to w offset (bytes_of content)) (write-named 0 w 0 offset content)

sync-none : (line : ℕ) (handle : Option Handle) → NamesNone (sync_next line handle)
sync-none line None = tt
sync-none line (Some (Reading opened version)) = tt
sync-none line (Some (Writing w)) = tt

close-none : (line : ℕ) (handle : Option Handle) → NamesNone (close_next line handle)
close-none line None = tt
close-none line (Some (Reading opened version)) = tt
close-none line (Some (Writing w)) = tt

next-none : (view : View) (request : Request) (heard : Heard) → NamesNone (next_of view request heard)
next-none view (Put key content) heard = put-none key (bytes_of content) heard.answers
next-none view Await heard = tt
next-none view (Stat path) heard = stats-none view path heard
next-none view (request.List path) heard = lists-none view path heard
next-none view (OpenRead name path) heard = opening-none open_at open-none view view.handle path heard
next-none view (OpenWrite name path) heard = opening-none (create_at false) (create-none false) view view.handle path heard
next-none view (OpenTruncate name path) heard = opening-none (create_at view.options.allow_overwrite) (create-none view.options.allow_overwrite) view view.handle path heard
next-none view (Read name offset count) heard = read-none view.handle offset count heard.answers
next-none view (Write name offset content) heard = write-none view.handle offset content
next-none view (Sync name) heard = sync-none view.line view.handle
next-none view (Close name) heard = close-none view.line view.handle
next-none view (Delete key) heard = delete-none key heard.answers
next-none view (MakeDir path) heard = makes-none view path heard
next-none view (RemoveDir path) heard = removes-none view path heard
next-none view (Unlink path) heard = unlinks-none view path heard

pub asks-none : (view : View) (request : Request) (heard : Heard) (called : Call) → next_of view request heard ≡ Asks called → upload_in called ≡ None
asks-none view request heard called is = subst NamesNone is (next-none view request heard)
