-- What a line does next, by what it sees of the mount and what it has heard of its own calls so far.
use Rattle.std.specs.Prelude.{ℕ, ◌+◌, List, [], ◌∷◌, length, min, Bool, false, not, ◌||◌, ◌==◌, nat_le, nat_lt, if◌then◌else◌, Option, Some, None, Result, Ok, Err}
use Rattle.std.specs.List.{filter_map}
use Rattle.mp_types.specs.declared.errno.Errno.{Errno}
use Rattle.mp_types.specs.declared.errno.Errno.TheVariants.{Eperm, Eio, Ebadf, Enomem, Enoent, Eexist, Eisdir, Enotdir, Einval, Emfile, Efbig, Enametoolong, Enotempty, Eoverflow, Estale}
use Rattle.mp_types.specs.declared.path.PathFault.{PathFault}
use Rattle.mp_types.specs.declared.path.PathFault.TheVariants as fault
use Rattle.mp_types.specs.Content.{bytes_of}
use Rattle.mp_types.specs.Path.{joined}
use Rattle.mp_rules.specs.declared.entry.Entry.{Entry}
use Rattle.mp_rules.specs.declared.entry.Entry.TheVariants.{RemoteDir, LocalDir, LocalFile, File, Nothing}
use Rattle.mp_rules.specs.Walk.{Decision, Need, Is, Refused, fact_in, walk}
use Rattle.mp_rules.specs.Local.{LocalNames, local_at, has_name_below}
use Rattle.mp_types.specs.declared.options.Opts.{Opts}
use Rattle.mp_types.specs.HandleName.{max_handles}
use Rattle.mp_rules.specs.declared.entry.DirEntry.{DirEntry}
use Rattle.listing_rules.specs.Names.{listing_of, prefix_of}
use Rattle.listing_rules.specs.Pages.{items_of, last_text}
use Rattle.bucket_model.specs.declared.page.Page.{Page}
use Rattle.bucket_model.specs.declared.call.Call.{Call}
use Rattle.bucket_model.specs.declared.call.Call.TheVariants as call
use Rattle.bucket_model.specs.declared.answer.Brief.{Brief}
use Rattle.bucket_model.specs.declared.answer.Brief.TheVariants as answer
use Rattle.bucket_model.specs.declared.answer.Brief.TheVariants.{Missing, Bytes, Changed, Gone, Made, NoMemory}
use Rattle.upload_rules.specs.declared.upload.UpState.{UpState}
use Rattle.upload_rules.specs.declared.upload.UpState.TheVariants as state
use Rattle.upload_rules.specs.declared.upload.UpFault.{UpFault}
use Rattle.upload_rules.specs.declared.upload.UpFault.TheVariants as up
use Rattle.upload_rules.specs.Refusal.{refusal}
use Rattle.upload_rules.specs.Upload.{Upload, with_bytes, with_closing, finished}
use Rattle.mount_model.specs.declared.standing.Heard.{Heard}
use Rattle.mount_model.specs.Heard.{call_of}
use Rattle.mount_model.specs.declared.handle.Handle.TheVariants.{Reading, Writing}
use Rattle.mount_model.specs.declared.handle.Version.{Version}
use Rattle.mount_model.specs.declared.handle.Waiter.{Waiter}
use Rattle.mount_model.specs.declared.handle.Waiter.TheVariants as waiter
use Rattle.mount_model.specs.declared.request.Request.{Request}
use Rattle.mount_model.specs.declared.request.Request.TheVariants as request
use Rattle.mount_model.specs.declared.request.Request.TheVariants.{Put, Await, Stat, OpenRead, OpenWrite, OpenTruncate, Read, Write, Sync, Close, Delete, MakeDir, RemoveDir, Unlink}
use Rattle.mount_model.specs.declared.request.Reply.{Reply}
use Rattle.mount_model.specs.declared.request.Reply.TheVariants as reply
use Rattle.mount_model.specs.Handles.{Handle, Writer}

-- A line asks one call at a time, replies, makes or removes the directory of a key, opens a handle on a version or on a
-- new file, gives what a listing shows, gives the bytes of its last answer, has its writer go on from here, or waits for other lines.
pub data Next : Type 0 where
  Asks : Call → Next
  Replies : Reply → Next
  Makes : List ℕ → Next
  Removes : List ℕ → Next
  Opens : Version → Next
  Creates : List ℕ → Next
  Lists : List DirEntry → Next
  Gives : ℕ → Next
  Writes : ℕ → Writer → Next
  Ends : Writer → Next
  Waits : Next

-- what a line sees of the mount: its number, the options, the handle that it names where that is live, how many
-- handles are live, and the mount's own names
pub record View : Type 0 where
  pub line : ℕ
  pub options : Opts
  pub handle : Option Handle
  pub live : ℕ
  pub names : LocalNames

abbrev pub fails : Errno → Next
fails errno = Replies (reply.Failed errno)

-- the error of a call that failed; an answer that doesn't fit fails too
abbrev pub errno_of : Brief → Errno
errno_of NoMemory = Enomem
errno_of answer = Eio

abbrev pub errno_of_path : PathFault → Errno
errno_of_path fault.TooLong = Enametoolong
errno_of_path fault.Memory = Enomem
errno_of_path other = Einval

-- others store an object: one call, and its ETag
abbrev pub put_next : List ℕ → List ℕ → List Brief → Next
put_next key bytes [] = Asks (call.Put key bytes)
put_next key bytes (Made etag ∷ answers) = Replies (reply.Made etag)
put_next key bytes (answer ∷ answers) = fails (errno_of answer)

-- others delete an object: one call
abbrev pub delete_next : List ℕ → List Brief → Next
delete_next key [] = Asks (call.Delete key)
delete_next key (Gone ∷ answers) = Replies reply.Gone
delete_next key (answer ∷ answers) = fails (errno_of answer)

-- A request goes by what stands at its path, once the questions on the way are answered. One that failed ends it.
abbrev pub at_path : (Entry → Next) → Decision → List Brief → Next
at_path at decision (answer ∷ answers) = fails (errno_of answer)
at_path at (Need question) [] = Asks (call_of question)
at_path at (Is entry) [] = at entry
at_path at (Refused errno) [] = fails errno

-- the root needs no walk
abbrev pub along : View → Next → (Entry → Next) → List (List ℕ) → Heard → Next
along view root at [] heard = root
along view root at (name ∷ names) heard = at_path at (walk (fact_in heard.facts) (local_at view.names) name names) heard.answers

abbrev pub stat_at : Entry → Next
stat_at RemoteDir = Replies reply.Directory
stat_at LocalDir = Replies reply.Directory
stat_at (LocalFile size) = Replies (reply.Writing size)
stat_at (File etag size) = Replies (reply.File size)
stat_at Nothing = fails Enoent

-- what stands at a path; a faulty one needs no call
abbrev pub stat_next : View → Result (List (List ℕ)) PathFault → Heard → Next
stat_next view (Err why) heard = fails (errno_of_path why)
stat_next view (Ok names) heard = along view (Replies reply.Directory) stat_at names heard

-- a handle is opened while fewer than the most are live
abbrev pub opens_if : ℕ → Next → Next
opens_if live opened = if live == max_handles then fails Emfile else opened

-- a file is opened as its Head found it; one that is being written can't be read
abbrev pub open_at : ℕ → List ℕ → Entry → Next
open_at live key RemoteDir = fails Eisdir
open_at live key LocalDir = fails Eisdir
open_at live key (LocalFile size) = fails Eperm
open_at live key (File etag size) = opens_if live (Opens (record { key = key; etag = etag; size = size }))
open_at live key Nothing = fails Enoent

-- a new file stands in the place of nothing, or of an object that may be overwritten
abbrev pub create_at : Bool → ℕ → List ℕ → Entry → Next
create_at may_overwrite live key RemoteDir = fails Eisdir
create_at may_overwrite live key LocalDir = fails Eisdir
create_at may_overwrite live key (LocalFile size) = fails Eperm
create_at may_overwrite live key (File etag size) = if may_overwrite then opens_if live (Creates key) else fails Eperm
create_at may_overwrite live key Nothing = opens_if live (Creates key)

-- an open: behind the path's own faults, the handle's name has to be free
abbrev pub open_next : (ℕ → List ℕ → Entry → Next) → View → Option Handle → Result (List (List ℕ)) PathFault → Heard → Next
open_next at view handle (Err why) heard = fails (errno_of_path why)
open_next at view (Some handle) (Ok names) heard = fails Einval
open_next at view None (Ok names) heard = along view (fails Eisdir) (at view.live (joined names)) names heard

abbrev pub make_at : List ℕ → Entry → Next
make_at key Nothing = Makes key
make_at key entry = fails Eexist

-- a new directory, where nothing stands
abbrev pub make_next : View → Result (List (List ℕ)) PathFault → Heard → Next
make_next view (Err why) heard = fails (errno_of_path why)
make_next view (Ok names) heard = along view (fails Eexist) (make_at (joined names)) names heard

-- a directory of the bucket isn't empty
abbrev pub remove_at : LocalNames → List ℕ → Entry → Next
remove_at names key RemoteDir = fails Enotempty
remove_at names key LocalDir = if has_name_below names key then fails Enotempty else Removes key
remove_at names key (LocalFile size) = fails Enotdir
remove_at names key (File etag size) = fails Enotdir
remove_at names key Nothing = fails Enoent

-- a directory of the mount's own goes where no name lies below it
abbrev pub remove_next : View → Result (List (List ℕ)) PathFault → Heard → Next
remove_next view (Err why) heard = fails (errno_of_path why)
remove_next view (Ok names) heard = along view (fails Eperm) (remove_at view.names (joined names)) names heard

abbrev pub unlink_at : Bool → List ℕ → Entry → Next
unlink_at may_delete key RemoteDir = fails Eisdir
unlink_at may_delete key LocalDir = fails Eisdir
unlink_at may_delete key (LocalFile size) = fails Eperm
unlink_at may_delete key (File etag size) = if may_delete then Asks (call.Delete key) else fails Eperm
unlink_at may_delete key Nothing = fails Enoent

-- a file goes by one call, where the options allow it; then the walk isn't done again
abbrev pub unlink_next : View → Result (List (List ℕ)) PathFault → Heard → Next
unlink_next view (Err why) heard = fails (errno_of_path why)
unlink_next view (Ok names) heard = by_answers heard.answers
  where
    by_answers : List Brief → Next
    by_answers (Gone ∷ answers) = Replies reply.Success
    by_answers answers = along view (fails Eisdir) (unlink_at view.options.allow_delete (joined names)) names heard

-- what has come of a listing so far

-- a listing has at most so many pages
abbrev pub max_pages : ℕ
max_pages = 10000

abbrev pub page_in : Brief → Option Page
page_in (answer.Page page) = Some page
page_in other = None

abbrev pub pages_in : List Brief → List Page
pages_in answers = filter_map page_in answers

abbrev pub last_of : Brief → List Brief → Brief
last_of answer [] = answer
last_of answer (next ∷ answers) = last_of next answers

-- one page of the directory with this prefix, behind this text
abbrev pub asks_page : View → List ℕ → List ℕ → Next
asks_page view prefix after = Asks (call.List prefix after view.options.page)

-- a page came: the next one, where there is more and so many haven't come yet; else the names of all
abbrev pub behind_page : View → List ℕ → List Brief → Page → Next
behind_page view prefix answers last =
    if not last.more then Lists (listing_of prefix (items_of (pages_in answers)) view.names)
    else (if nat_lt (length answers) max_pages then asks_page view prefix (last_text [] last.items) else fails Eoverflow)

-- after the last answer; one that is no page has failed
abbrev pub behind_answer : View → List ℕ → List Brief → Brief → Next
behind_answer view prefix answers (answer.Page page) = behind_page view prefix answers page
behind_answer view prefix answers other = fails (errno_of other)

-- only a directory is listed
abbrev pub list_at : Next → Entry → Next
list_at lists RemoteDir = lists
list_at lists LocalDir = lists
list_at lists (LocalFile size) = fails Enotdir
list_at lists (File etag size) = fails Enotdir
list_at lists Nothing = fails Enoent

-- A directory is listed page by page, from its first one on. With the first of its answers the walk is over.
abbrev pub list_next : View → Result (List (List ℕ)) PathFault → Heard → Next
list_next view (Err why) heard = fails (errno_of_path why)
list_next view (Ok names) heard = by_answers heard.answers
  where
    first : Next
    first = asks_page view (prefix_of names) []

    by_answers : List Brief → Next
    by_answers [] = along view first (list_at first) names heard
    by_answers (answer ∷ answers) = behind_answer view (prefix_of names) (answer ∷ answers) (last_of answer answers)

-- a range of at least one byte, from its start to before its end
pub record Range : Type 0 where
  pub from : ℕ
  pub to : ℕ

-- what a read asks for, inside the object; no range where it asks for no bytes, or behind the end
abbrev pub range_in : ℕ → ℕ → ℕ → Option Range
range_in offset count size = if count == 0 || nat_le size offset then None else Some (record { from = offset; to = min (offset + count) size })

-- One call for the range, of the version that the handle opened. Where the object is another one now, or none,
-- the handle is stale.
abbrev pub range_next : Version → Option Range → List Brief → Next
range_next version None answers = Gives 0
range_next version (Some range) [] = Asks (call.Get version.key version.etag range.from range.to)
range_next version (Some range) (Bytes count ∷ answers) = Gives count
range_next version (Some range) (Changed ∷ answers) = fails Estale
range_next version (Some range) (Missing ∷ answers) = fails Estale
range_next version (Some range) (answer ∷ answers) = fails (errno_of answer)

abbrev pub read_next : Option Handle → ℕ → ℕ → List Brief → Next
read_next (Some (Reading line version)) offset count answers = range_next version (range_in offset count version.size) answers
read_next other offset count answers = fails Ebadf

abbrev pub with_upload : Upload → Writer → Writer
with_upload upload writer = record writer { upload = upload }

abbrev pub waited_for : Waiter → Upload → Writer → Writer
waited_for who upload writer = record writer { upload = upload; waiter = who }

-- the error of a write that isn't taken
abbrev pub errno_for : UpFault → Errno
errno_for (up.Failed errno) = errno
errno_for up.Finished = Einval
errno_for up.OutOfOrder = Einval
errno_for up.TooBig = Efbig
errno_for up.Memory = Enomem

-- the writer takes the bytes, unless there is a reason not to
abbrev pub written_or : Writer → List ℕ → Option UpFault → Next
written_or writer bytes None = Writes (length bytes) (with_upload (with_bytes bytes writer.upload) writer)
written_or writer bytes (Some why) = fails (errno_for why)

abbrev pub write_to : Writer → ℕ → List ℕ → Next
write_to writer offset bytes = written_or writer bytes (refusal writer.upload offset (length bytes))

abbrev pub write_next : Option Handle → ℕ → List ℕ → Next
write_next (Some (Writing writer)) offset bytes = write_to writer offset bytes
write_next other offset bytes = fails Ebadf

-- no more bytes come
abbrev pub ended : Upload → Upload
ended upload = by_state upload.state
  where
    by_state : UpState → Upload
    by_state state.Open = finished upload
    by_state other = upload

-- fsync and close wait for the writer's object, where it has none yet
abbrev pub sync_next : ℕ → Option Handle → Next
sync_next line None = fails Ebadf
sync_next line (Some (Reading opened version)) = Replies reply.Success
sync_next line (Some (Writing writer)) = Ends (waited_for (waiter.Sync line) (ended writer.upload) writer)

abbrev pub close_next : ℕ → Option Handle → Next
close_next line None = fails Ebadf
close_next line (Some (Reading opened version)) = Replies reply.Success
close_next line (Some (Writing writer)) = Ends (waited_for (waiter.Close line) (with_closing (ended writer.upload)) writer)

-- what a line does next, by what it sees of the mount
abbrev pub next_of : View → Request → Heard → Next
next_of view (Put key content) heard = put_next key (bytes_of content) heard.answers
next_of view Await heard = Waits
next_of view (Stat path) heard = stat_next view path heard
next_of view (request.List path) heard = list_next view path heard
next_of view (OpenRead name path) heard = open_next open_at view view.handle path heard
next_of view (OpenWrite name path) heard = open_next (create_at false) view view.handle path heard
next_of view (OpenTruncate name path) heard = open_next (create_at view.options.allow_overwrite) view view.handle path heard
next_of view (Read name offset count) heard = read_next view.handle offset count heard.answers
next_of view (Write name offset content) heard = write_next view.handle offset (bytes_of content)
next_of view (Sync name) heard = sync_next view.line view.handle
next_of view (Close name) heard = close_next view.line view.handle
next_of view (Delete key) heard = delete_next key heard.answers
next_of view (MakeDir path) heard = make_next view path heard
next_of view (RemoveDir path) heard = remove_next view path heard
next_of view (Unlink path) heard = unlink_next view path heard
