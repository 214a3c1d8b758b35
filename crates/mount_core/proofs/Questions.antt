-- What a line opens, removes and gives, by what it sees of the mount and by what it did before.
use Rattle.std.proofs.Common.{◌≡◌, ◌≢◌, ℕ, Bool, true, false, not, List, [], ◌∷◌, ◌++◌, length, nat_lt, if◌then◌else◌, ◌==◌, Option, Some, None, Result, Ok, Err, refl, ap, subst}
use Rattle.std.proofs.lemmas.Bool.{eqb-false}
use Rattle.mp_types.specs.declared.errno.Errno.TheVariants.{Eperm, Eexist, Eisdir, Emfile, Enotempty, Eoverflow}
use Rattle.mp_types.specs.declared.path.PathFault.{PathFault}
use Rattle.mp_types.specs.Path.{joined}
use Rattle.mp_types.specs.Content.{bytes_of}
use Rattle.mp_types.specs.HandleName.{max_handles}
use Rattle.mp_rules.specs.declared.entry.Entry.{Entry}
use Rattle.mp_rules.specs.declared.entry.Entry.TheVariants.{RemoteDir, LocalDir, LocalFile, File, Nothing}
use Rattle.mp_rules.specs.declared.facts.Question.{Question}
use Rattle.mp_rules.specs.declared.facts.Question.TheVariants.{Head, Probe}
use Rattle.mp_rules.specs.declared.facts.Fact.{Fact}
use Rattle.mp_rules.specs.Walk.{Decision, Need, Is, Refused, fact_in, walk}
use Rattle.mp_rules.specs.Local.{local_at, has_name_below}
use Rattle.listing_rules.specs.Names.{listing_of, prefix_of}
use Rattle.listing_rules.specs.Pages.{items_of, last_text}
use Rattle.bucket_model.specs.declared.call.Call.{Call}
use Rattle.bucket_model.specs.declared.page.Page.{Page}
use Rattle.bucket_model.specs.declared.answer.Brief.{Brief}
use Rattle.bucket_model.specs.declared.answer.Brief.TheVariants as answer
use Rattle.mount_model.specs.declared.handle.Handle.TheVariants.{Reading, Writing}
use Rattle.mount_model.specs.declared.handle.Version.{Version}
use Rattle.mount_model.specs.declared.request.Request.{Request}
use Rattle.mount_model.specs.declared.request.Request.TheVariants as request
use Rattle.mount_model.specs.declared.request.Reply.TheVariants as reply
use Rattle.mount_model.specs.declared.standing.Heard.{Heard}
use Rattle.mount_model.specs.declared.standing.Told.{Told}
use Rattle.mount_model.specs.declared.standing.Told.TheVariants.{Fact as AFact, Answer}
use Rattle.mount_model.specs.Heard.{nothing_heard, with_told, fact_of, told_from, told_by}
use Rattle.mount_model.specs.Handles.{Handle}
use Rattle.upload_rules.specs.declared.upload.UpFault.{UpFault}
use Rattle.upload_rules.specs.Refusal.{refusal}
use Rattle.mount_model.specs.Conversation.{Next, Asks, Replies, Removes, Opens, Creates, Lists, Gives, View, Range, fails, next_of, put_next, delete_next, at_path, along, stat_at, stat_next, opens_if, open_at, create_at, open_next, make_at, make_next, remove_at, remove_next, unlink_at, unlink_next, max_pages, pages_in, last_of, asks_page, behind_page, behind_answer, list_at, list_next, range_next, range_in, read_next, written_or, write_next, sync_next, close_next}
use Rattle.run_laws.proofs.Conversation.{gives-read}
use Rattle.run_laws.specs.Faithful.{IsRead}
use Rattle.mount_core.specs.Turn.{RemovesKey}

-- There is a place for the handle of what a line opens, and a line removes the directory of its own path.
abbrev Fits : View → Request → Next → Type 0
Fits view r (Removes key) = RemovesKey r key
Fits view r (Opens version) = view.live ≢ max_handles
Fits view r (Creates key) = view.live ≢ max_handles
Fits view r other = Unit {0}

put-fits : (view : View) (r : Request) (key bytes : List ℕ) (answers : List Brief) → Fits view r (put_next key bytes answers)
put-fits view r key bytes [] = tt
put-fits view r key bytes ((answer.Found etag size) ∷ answers) = tt
put-fits view r key bytes (answer.Missing ∷ answers) = tt
put-fits view r key bytes (answer.Yes ∷ answers) = tt
put-fits view r key bytes (answer.No ∷ answers) = tt
put-fits view r key bytes ((answer.Page page) ∷ answers) = tt
put-fits view r key bytes ((answer.Bytes n) ∷ answers) = tt
put-fits view r key bytes (answer.Changed ∷ answers) = tt
put-fits view r key bytes (answer.Gone ∷ answers) = tt
put-fits view r key bytes ((answer.Made etag) ∷ answers) = tt
put-fits view r key bytes ((answer.Upload id) ∷ answers) = tt
put-fits view r key bytes (answer.Stored ∷ answers) = tt
put-fits view r key bytes (answer.NoUpload ∷ answers) = tt
put-fits view r key bytes (answer.Fault ∷ answers) = tt
put-fits view r key bytes (answer.NoMemory ∷ answers) = tt

delete-fits : (view : View) (r : Request) (key : List ℕ) (answers : List Brief) → Fits view r (delete_next key answers)
delete-fits view r key [] = tt
delete-fits view r key ((answer.Found etag size) ∷ answers) = tt
delete-fits view r key (answer.Missing ∷ answers) = tt
delete-fits view r key (answer.Yes ∷ answers) = tt
delete-fits view r key (answer.No ∷ answers) = tt
delete-fits view r key ((answer.Page page) ∷ answers) = tt
delete-fits view r key ((answer.Bytes n) ∷ answers) = tt
delete-fits view r key (answer.Changed ∷ answers) = tt
delete-fits view r key (answer.Gone ∷ answers) = tt
delete-fits view r key ((answer.Made etag) ∷ answers) = tt
delete-fits view r key ((answer.Upload id) ∷ answers) = tt
delete-fits view r key (answer.Stored ∷ answers) = tt
delete-fits view r key (answer.NoUpload ∷ answers) = tt
delete-fits view r key (answer.Fault ∷ answers) = tt
delete-fits view r key (answer.NoMemory ∷ answers) = tt

-- what is done where this stands at the path fits
abbrev FitAt : View → Request → (Entry → Next) → Type 0
FitAt view r at = (entry : Entry) → Fits view r (at entry)

along-fits : (view : View) (r : Request) (root : Next) (at : Entry → Next) (names : List (List ℕ)) (heard : Heard) → Fits view r root → FitAt view r at → Fits view r (along view root at names heard)
along-fits view r root at [] heard here fit = here
along-fits view r root at (name ∷ names) heard here fit = go (walk (fact_in heard.facts) (local_at view.names) name names) heard.answers
  where
    go : (decision : Decision) (answers : List Brief) → Fits view r (at_path at decision answers)
    go decision (answer ∷ answers) = tt
    go (Need (Head key)) [] = tt
    go (Need (Probe key)) [] = tt
    go (Is entry) [] = fit entry
    go (Refused errno) [] = tt

stat_at-fits : (view : View) (r : Request) → FitAt view r stat_at
stat_at-fits view r RemoteDir = tt
stat_at-fits view r LocalDir = tt
stat_at-fits view r (LocalFile size) = tt
stat_at-fits view r (File etag size) = tt
stat_at-fits view r Nothing = tt

stat-fits : (view : View) (r : Request) (path : Result (List (List ℕ)) PathFault) (heard : Heard) → Fits view r (stat_next view path heard)
stat-fits view r (Err why) heard = tt
stat-fits view r (Ok names) heard = along-fits view r (Replies reply.Directory) stat_at names heard tt (stat_at-fits view r)

if-fits : (view : View) (r : Request) (opened : Next) → (view.live ≢ max_handles → Fits view r opened) → Fits view r (opens_if view.live opened)
if-fits view r opened fit = go (view.live == max_handles) refl
  where
    go : (full : Bool) → (view.live == max_handles) ≡ full → Fits view r (if full then fails Emfile else opened)
    go true is = tt
    go false is = fit (eqb-false view.live max_handles is)

open_at-fits : (view : View) (r : Request) (key : List ℕ) → FitAt view r (open_at view.live key)
open_at-fits view r key RemoteDir = tt
open_at-fits view r key LocalDir = tt
open_at-fits view r key (LocalFile size) = tt
open_at-fits view r key (File etag size) = if-fits view r (Opens (record { key = key; etag = etag; size = size })) (λ place. place)
open_at-fits view r key Nothing = tt

create_at-fits : (view : View) (r : Request) (may_overwrite : Bool) (key : List ℕ) → FitAt view r (create_at may_overwrite view.live key)
create_at-fits view r may_overwrite key RemoteDir = tt
create_at-fits view r may_overwrite key LocalDir = tt
create_at-fits view r may_overwrite key (LocalFile size) = tt
create_at-fits view r true key (File etag size) = if-fits view r (Creates key) (λ place. place)
create_at-fits view r false key (File etag size) = tt
create_at-fits view r may_overwrite key Nothing = if-fits view r (Creates key) (λ place. place)

open-fits : (at : ℕ → List ℕ → Entry → Next) (view : View) (r : Request) (path : Result (List (List ℕ)) PathFault) (heard : Heard) (handle : Option Handle) → ((key : List ℕ) → FitAt view r (at view.live key)) → Fits view r (open_next at view handle path heard)
open-fits at view r (Err why) heard handle fit = tt
open-fits at view r (Ok names) heard (Some handle) fit = tt
open-fits at view r (Ok names) heard None fit = along-fits view r (fails Eisdir) (at view.live (joined names)) names heard tt (fit (joined names))

make_at-fits : (view : View) (r : Request) (key : List ℕ) → FitAt view r (make_at key)
make_at-fits view r key RemoteDir = tt
make_at-fits view r key LocalDir = tt
make_at-fits view r key (LocalFile size) = tt
make_at-fits view r key (File etag size) = tt
make_at-fits view r key Nothing = tt

make-fits : (view : View) (r : Request) (path : Result (List (List ℕ)) PathFault) (heard : Heard) → Fits view r (make_next view path heard)
make-fits view r (Err why) heard = tt
make-fits view r (Ok names) heard = along-fits view r (fails Eexist) (make_at (joined names)) names heard tt (make_at-fits view r (joined names))

remove_at-fits : (view : View) (r : Request) (key : List ℕ) → RemovesKey r key → FitAt view r (remove_at view.names key)
remove_at-fits view r key removes RemoteDir = tt
remove_at-fits view r key removes LocalDir = go (has_name_below view.names key)
  where
    go : (some : Bool) → Fits view r (if some then fails Enotempty else Removes key)
    go true = tt
    go false = removes
remove_at-fits view r key removes (LocalFile size) = tt
remove_at-fits view r key removes (File etag size) = tt
remove_at-fits view r key removes Nothing = tt

remove-fits : (view : View) (path : Result (List (List ℕ)) PathFault) (heard : Heard) → Fits view (request.RemoveDir path) (remove_next view path heard)
remove-fits view (Err why) heard = tt
remove-fits view (Ok names) heard =
    along-fits view (request.RemoveDir (Ok names)) (fails Eperm) (remove_at view.names (joined names)) names heard tt
    (remove_at-fits view (request.RemoveDir (Ok names)) (joined names) (record { names = names; is = refl; key_is = refl }))

unlink_at-fits : (view : View) (r : Request) (may_delete : Bool) (key : List ℕ) → FitAt view r (unlink_at may_delete key)
unlink_at-fits view r may_delete key RemoteDir = tt
unlink_at-fits view r may_delete key LocalDir = tt
unlink_at-fits view r may_delete key (LocalFile size) = tt
unlink_at-fits view r true key (File etag size) = tt
unlink_at-fits view r false key (File etag size) = tt
unlink_at-fits view r may_delete key Nothing = tt

unlink-fits : (view : View) (r : Request) (path : Result (List (List ℕ)) PathFault) (heard : Heard) → Fits view r (unlink_next view path heard)
unlink-fits view r (Err why) heard = tt
unlink-fits view r (Ok names) heard = go heard.answers
  where
    walks : (answers : List Brief) → Fits view r (along view (fails Eisdir) (unlink_at view.options.allow_delete (joined names)) names (record { facts = heard.facts; answers = answers }))
    walks answers = along-fits view r (fails Eisdir) (unlink_at view.options.allow_delete (joined names)) names (record { facts = heard.facts; answers = answers }) tt (unlink_at-fits view r view.options.allow_delete (joined names))

    go : (answers : List Brief) → Fits view r (unlink_next view (Ok names) (record { facts = heard.facts; answers = answers }))
    go [] = walks []
    go ((answer.Found etag size) ∷ answers) = walks ((answer.Found etag size) ∷ answers)
    go (answer.Missing ∷ answers) = walks (answer.Missing ∷ answers)
    go (answer.Yes ∷ answers) = walks (answer.Yes ∷ answers)
    go (answer.No ∷ answers) = walks (answer.No ∷ answers)
    go ((answer.Page page) ∷ answers) = walks ((answer.Page page) ∷ answers)
    go ((answer.Bytes n) ∷ answers) = walks ((answer.Bytes n) ∷ answers)
    go (answer.Changed ∷ answers) = walks (answer.Changed ∷ answers)
    go (answer.Gone ∷ answers) = tt
    go ((answer.Made etag) ∷ answers) = walks ((answer.Made etag) ∷ answers)
    go ((answer.Upload id) ∷ answers) = walks ((answer.Upload id) ∷ answers)
    go (answer.Stored ∷ answers) = walks (answer.Stored ∷ answers)
    go (answer.NoUpload ∷ answers) = walks (answer.NoUpload ∷ answers)
    go (answer.Fault ∷ answers) = walks (answer.Fault ∷ answers)
    go (answer.NoMemory ∷ answers) = walks (answer.NoMemory ∷ answers)

-- a listing
page-fits : (view : View) (r : Request) (prefix : List ℕ) (answers : List Brief) (page : Page) → Fits view r (behind_page view prefix answers page)
page-fits view r prefix answers page = by_tests page.more (nat_lt (length answers) max_pages)
  where
    by_tests : (more few : Bool) → Fits view r (if not more then Lists (listing_of prefix (items_of (pages_in answers)) view.names) else (if few then asks_page view prefix (last_text [] page.items) else fails Eoverflow))
    by_tests false few = tt
    by_tests true true = tt
    by_tests true false = tt

answered-fits : (view : View) (r : Request) (prefix : List ℕ) (answers : List Brief) (last : Brief) → Fits view r (behind_answer view prefix answers last)
answered-fits view r prefix answers (answer.Page page) = page-fits view r prefix answers page
answered-fits view r prefix answers (answer.Found etag size) = tt
answered-fits view r prefix answers answer.Missing = tt
answered-fits view r prefix answers answer.Yes = tt
answered-fits view r prefix answers answer.No = tt
answered-fits view r prefix answers (answer.Bytes n) = tt
answered-fits view r prefix answers answer.Changed = tt
answered-fits view r prefix answers answer.Gone = tt
answered-fits view r prefix answers (answer.Made etag) = tt
answered-fits view r prefix answers (answer.Upload id) = tt
answered-fits view r prefix answers answer.Stored = tt
answered-fits view r prefix answers answer.NoUpload = tt
answered-fits view r prefix answers answer.Fault = tt
answered-fits view r prefix answers answer.NoMemory = tt

list_at-fits : (view : View) (r : Request) (first : Next) → Fits view r first → FitAt view r (list_at first)
list_at-fits view r first fit RemoteDir = fit
list_at-fits view r first fit LocalDir = fit
list_at-fits view r first fit (LocalFile size) = tt
list_at-fits view r first fit (File etag size) = tt
list_at-fits view r first fit Nothing = tt

list-fits : (view : View) (r : Request) (path : Result (List (List ℕ)) PathFault) (heard : Heard) → Fits view r (list_next view path heard)
list-fits view r (Err why) heard = tt
list-fits view r (Ok names) heard = go heard.answers
  where
    first : Next
    first = asks_page view (prefix_of names) []

    go : (answers : List Brief) → Fits view r (list_next view (Ok names) (record { facts = heard.facts; answers = answers }))
    go [] = along-fits view r first (list_at first) names (record { facts = heard.facts; answers = [] }) tt (list_at-fits view r first tt)
    go (answer ∷ answers) = answered-fits view r (prefix_of names) (answer ∷ answers) (last_of answer answers)

range-fits : (view : View) (r : Request) (version : Version) (range : Option Range) (answers : List Brief) → Fits view r (range_next version range answers)
range-fits view r version None answers = tt
range-fits view r version (Some range) [] = tt
range-fits view r version (Some range) ((answer.Found etag size) ∷ answers) = tt
range-fits view r version (Some range) (answer.Missing ∷ answers) = tt
range-fits view r version (Some range) (answer.Yes ∷ answers) = tt
range-fits view r version (Some range) (answer.No ∷ answers) = tt
range-fits view r version (Some range) ((answer.Page page) ∷ answers) = tt
range-fits view r version (Some range) ((answer.Bytes n) ∷ answers) = tt
range-fits view r version (Some range) (answer.Changed ∷ answers) = tt
range-fits view r version (Some range) (answer.Gone ∷ answers) = tt
range-fits view r version (Some range) ((answer.Made etag) ∷ answers) = tt
range-fits view r version (Some range) ((answer.Upload id) ∷ answers) = tt
range-fits view r version (Some range) (answer.Stored ∷ answers) = tt
range-fits view r version (Some range) (answer.NoUpload ∷ answers) = tt
range-fits view r version (Some range) (answer.Fault ∷ answers) = tt
range-fits view r version (Some range) (answer.NoMemory ∷ answers) = tt

read-fits : (view : View) (r : Request) (handle : Option Handle) (offset count : ℕ) (answers : List Brief) → Fits view r (read_next handle offset count answers)
read-fits view r None offset count answers = tt
read-fits view r (Some (Reading line version)) offset count answers = range-fits view r version (range_in offset count version.size) answers
read-fits view r (Some (Writing writer)) offset count answers = tt

write-fits : (view : View) (r : Request) (handle : Option Handle) (offset : ℕ) (bytes : List ℕ) → Fits view r (write_next handle offset bytes)
write-fits view r None offset bytes = tt
write-fits view r (Some (Reading line version)) offset bytes = tt
write-fits view r (Some (Writing w)) offset bytes = by (refusal w.upload offset (length bytes))
  where
    by : (o : Option UpFault) → Fits view r (written_or w bytes o)
    by None = tt
    by (Some why) = tt

sync-fits : (view : View) (r : Request) (line : ℕ) (handle : Option Handle) → Fits view r (sync_next line handle)
sync-fits view r line None = tt
sync-fits view r line (Some (Reading opened version)) = tt
sync-fits view r line (Some (Writing w)) = tt

close-fits : (view : View) (r : Request) (line : ℕ) (handle : Option Handle) → Fits view r (close_next line handle)
close-fits view r line None = tt
close-fits view r line (Some (Reading opened version)) = tt
close-fits view r line (Some (Writing w)) = tt

next-fits : (view : View) (r : Request) (heard : Heard) → Fits view r (next_of view r heard)
next-fits view (request.Put key content) heard = put-fits view (request.Put key content) key (bytes_of content) heard.answers
next-fits view request.Await heard = tt
next-fits view (request.Stat path) heard = stat-fits view (request.Stat path) path heard
next-fits view (request.List path) heard = list-fits view (request.List path) path heard
next-fits view (request.OpenRead name path) heard = open-fits open_at view (request.OpenRead name path) path heard view.handle (open_at-fits view (request.OpenRead name path))
next-fits view (request.OpenWrite name path) heard = open-fits (create_at false) view (request.OpenWrite name path) path heard view.handle (create_at-fits view (request.OpenWrite name path) false)
next-fits view (request.OpenTruncate name path) heard = open-fits (create_at view.options.allow_overwrite) view (request.OpenTruncate name path) path heard view.handle (create_at-fits view (request.OpenTruncate name path) view.options.allow_overwrite)
next-fits view (request.Read name offset count) heard = read-fits view (request.Read name offset count) view.handle offset count heard.answers
next-fits view (request.Write name offset content) heard = write-fits view (request.Write name offset content) view.handle offset (bytes_of content)
next-fits view (request.Sync name) heard = sync-fits view (request.Sync name) view.line view.handle
next-fits view (request.Close name) heard = close-fits view (request.Close name) view.line view.handle
next-fits view (request.Delete key) heard = delete-fits view (request.Delete key) key heard.answers
next-fits view (request.MakeDir path) heard = make-fits view (request.MakeDir path) path heard
next-fits view (request.RemoveDir path) heard = remove-fits view path heard
next-fits view (request.Unlink path) heard = unlink-fits view (request.Unlink path) path heard

pub opens_fits : (view : View) (r : Request) (heard : Heard) (version : Version) → next_of view r heard ≡ Opens version → view.live ≢ max_handles
opens_fits view r heard version is = subst (Fits view r) is (next-fits view r heard)

pub creates_fits : (view : View) (r : Request) (heard : Heard) (key : List ℕ) → next_of view r heard ≡ Creates key → view.live ≢ max_handles
creates_fits view r heard key is = subst (Fits view r) is (next-fits view r heard)

pub removes_fits : (view : View) (r : Request) (heard : Heard) (key : List ℕ) → next_of view r heard ≡ Removes key → RemovesKey r key
removes_fits view r heard key is = subst (Fits view r) is (next-fits view r heard)

-- what a line gives before any answer is empty
pub gives_none : (view : View) (r : Request) (count : ℕ) → next_of view r nothing_heard ≡ Gives count → count ≡ 0
gives_none view r count is = by_request r (gives-read view r nothing_heard count is) is
  where
    by_range : (version : Version) (range : Option Range) → range_next version range [] ≡ Gives count → count ≡ 0
    by_range version None is = cc
    by_range version (Some range) is = absurd (cc)

    by_handle : (handle : Option Handle) (offset asked : ℕ) → read_next handle offset asked [] ≡ Gives count → count ≡ 0
    by_handle None offset asked is = absurd (cc)
    by_handle (Some (Writing w)) offset asked is = absurd (cc)
    by_handle (Some (Reading line version)) offset asked is = by_range version (range_in offset asked version.size) is

    by_request : (r : Request) → IsRead r → next_of view r nothing_heard ≡ Gives count → count ≡ 0
    by_request (request.Read name offset asked) read is = by_handle view.handle offset asked is
    by_request (request.Put key content) read is = absurd read
    by_request request.Await read is = absurd read
    by_request (request.Stat path) read is = absurd read
    by_request (request.List path) read is = absurd read
    by_request (request.OpenRead name path) read is = absurd read
    by_request (request.OpenWrite name path) read is = absurd read
    by_request (request.OpenTruncate name path) read is = absurd read
    by_request (request.Write name offset content) read is = absurd read
    by_request (request.Sync name) read is = absurd read
    by_request (request.Close name) read is = absurd read
    by_request (request.Delete key) read is = absurd read
    by_request (request.MakeDir path) read is = absurd read
    by_request (request.RemoveDir path) read is = absurd read
    by_request (request.Unlink path) read is = absurd read

-- an answer that tells no fact is told itself
answer-told : (question : Option Question) (last told : Brief) → told_by question last ≡ Answer told → last ≡ told
answer-told question last told is = by_fact question (fact_of last) is
  where
    by_fact : (question : Option Question) (fact : Option Fact) → told_from question fact last ≡ Answer told → last ≡ told
    by_fact None fact is = cc
    by_fact (Some asked) None is = cc
    by_fact (Some asked) (Some tells) is = absurd (cc)

-- and behind its one answer it is what that answer brought
pub gives_brought : (view : View) (r : Request) (heard : Heard) (called : Call) (question : Option Question) (last : Brief) (count : ℕ) → next_of view r heard ≡ Asks called → next_of view r (with_told (told_by question last) heard) ≡ Gives count → last ≡ answer.Bytes count
gives_brought view r heard called question last count asks gives =
    answer-told question last (answer.Bytes count) (by_request r (told_by question last) (gives-read view r (with_told (told_by question last) heard) count gives) asks gives)
  where
    by_last : (version : Version) (range : Range) (last : Brief) → range_next version (Some range) (last ∷ []) ≡ Gives count → last ≡ answer.Bytes count
    by_last version range (answer.Found etag size) gives = absurd (cc)
    by_last version range answer.Missing gives = absurd (cc)
    by_last version range answer.Yes gives = absurd (cc)
    by_last version range answer.No gives = absurd (cc)
    by_last version range (answer.Page page) gives = absurd (cc)
    by_last version range (answer.Bytes n) gives = let same : n ≡ count = cc in ap (λ k. answer.Bytes k) same
    by_last version range answer.Changed gives = absurd (cc)
    by_last version range answer.Gone gives = absurd (cc)
    by_last version range (answer.Made etag) gives = absurd (cc)
    by_last version range (answer.Upload id) gives = absurd (cc)
    by_last version range answer.Stored gives = absurd (cc)
    by_last version range answer.NoUpload gives = absurd (cc)
    by_last version range answer.Fault gives = absurd (cc)
    by_last version range answer.NoMemory gives = absurd (cc)

    none-asked : (version : Version) (range : Range) (first : Brief) (answers : List Brief) → range_next version (Some range) (first ∷ answers) ≡ Asks called → ⊥
    none-asked version range (answer.Found etag size) answers asks = absurd (cc)
    none-asked version range answer.Missing answers asks = absurd (cc)
    none-asked version range answer.Yes answers asks = absurd (cc)
    none-asked version range answer.No answers asks = absurd (cc)
    none-asked version range (answer.Page page) answers asks = absurd (cc)
    none-asked version range (answer.Bytes n) answers asks = absurd (cc)
    none-asked version range answer.Changed answers asks = absurd (cc)
    none-asked version range answer.Gone answers asks = absurd (cc)
    none-asked version range (answer.Made etag) answers asks = absurd (cc)
    none-asked version range (answer.Upload id) answers asks = absurd (cc)
    none-asked version range answer.Stored answers asks = absurd (cc)
    none-asked version range answer.NoUpload answers asks = absurd (cc)
    none-asked version range answer.Fault answers asks = absurd (cc)
    none-asked version range answer.NoMemory answers asks = absurd (cc)

    by_range : (version : Version) (range : Option Range) (answers : List Brief) (last : Brief) → range_next version range answers ≡ Asks called → range_next version range (answers ++ last ∷ []) ≡ Gives count → last ≡ answer.Bytes count
    by_range version None answers last asks gives = absurd (cc)
    by_range version (Some range) [] last asks gives = by_last version range last gives
    by_range version (Some range) (first ∷ answers) last asks gives = absurd (none-asked version range first answers asks)

    by_handle : (handle : Option Handle) (offset asked : ℕ) (last : Brief) → read_next handle offset asked heard.answers ≡ Asks called → read_next handle offset asked (heard.answers ++ last ∷ []) ≡ Gives count → last ≡ answer.Bytes count
    by_handle None offset asked last asks gives = absurd (cc)
    by_handle (Some (Writing w)) offset asked last asks gives = absurd (cc)
    by_handle (Some (Reading line version)) offset asked last asks gives = by_range version (range_in offset asked version.size) heard.answers last asks gives

    -- a fact leaves a read where it is
    by_told : (told : Told) (offset asked : ℕ) → read_next view.handle offset asked heard.answers ≡ Asks called → read_next view.handle offset asked (with_told told heard).answers ≡ Gives count → told ≡ Answer (answer.Bytes count)
    by_told (AFact known) offset asked asks gives = absurd (cc)
    by_told (Answer last) offset asked asks gives = ap Answer (by_handle view.handle offset asked last asks gives)

    by_request : (r : Request) (told : Told) → IsRead r → next_of view r heard ≡ Asks called → next_of view r (with_told told heard) ≡ Gives count → told ≡ Answer (answer.Bytes count)
    by_request (request.Read name offset asked) told read asks gives = by_told told offset asked asks gives
    by_request (request.Put key content) told read asks gives = absurd read
    by_request request.Await told read asks gives = absurd read
    by_request (request.Stat path) told read asks gives = absurd read
    by_request (request.List path) told read asks gives = absurd read
    by_request (request.OpenRead name path) told read asks gives = absurd read
    by_request (request.OpenWrite name path) told read asks gives = absurd read
    by_request (request.OpenTruncate name path) told read asks gives = absurd read
    by_request (request.Write name offset content) told read asks gives = absurd read
    by_request (request.Sync name) told read asks gives = absurd read
    by_request (request.Close name) told read asks gives = absurd read
    by_request (request.Delete key) told read asks gives = absurd read
    by_request (request.MakeDir path) told read asks gives = absurd read
    by_request (request.RemoveDir path) told read asks gives = absurd read
    by_request (request.Unlink path) told read asks gives = absurd read
