-- What a line makes and what it removes, by what stands at the path's own key.
use Rattle.std.proofs.Common.{◌≡◌, ℕ, Bool, true, false, not, nat_lt, List, [], ◌∷◌, ◌++◌, length, ◌||◌, ◌==◌, if◌then◌else◌, Option, Some, None, Result, Ok, Err, refl, subst, append_assoc}
use Rattle.std.specs.FinSet as set
use Rattle.std.specs.FinMap as map
use Rattle.mp_types.specs.declared.errno.Errno.TheVariants.{Eperm, Eexist, Eisdir, Emfile, Enotempty, Eoverflow}
use Rattle.mp_types.specs.declared.path.PathFault.{PathFault}
use Rattle.mp_types.specs.Path.{joined, slash}
use Rattle.mp_types.specs.Content.{bytes_of}
use Rattle.mp_types.specs.HandleName.{max_handles}
use Rattle.mp_rules.specs.declared.entry.Entry.{Entry}
use Rattle.mp_rules.specs.declared.entry.Entry.TheVariants.{RemoteDir, LocalDir, LocalFile, File, Nothing}
use Rattle.mp_rules.specs.declared.entry.Local.{Local}
use Rattle.mp_rules.specs.declared.entry.Local.TheVariants as local
use Rattle.mp_rules.specs.declared.facts.Question.{Question}
use Rattle.mp_rules.specs.declared.facts.Question.TheVariants.{Head, Probe}
use Rattle.mp_rules.specs.declared.facts.Fact.{Fact}
use Rattle.mp_rules.specs.declared.facts.Fact.TheVariants as fact
use Rattle.mp_rules.specs.Walk.{Decision, Need, Is, Refused, fact_in, below, by_head, by_local, by_probe, entry_at, walk}
use Rattle.mp_rules.specs.Local.{LocalNames, file_of, local_at, has_name_below}
use Rattle.listing_rules.specs.Names.{listing_of, prefix_of}
use Rattle.listing_rules.specs.Pages.{items_of, last_text}
use Rattle.bucket_model.specs.declared.page.Page.{Page}
use Rattle.bucket_model.specs.declared.answer.Brief.{Brief}
use Rattle.bucket_model.specs.declared.answer.Brief.TheVariants as answer
use Rattle.bucket_model.specs.declared.answer.Brief.TheVariants.{Missing, Bytes, Changed, Gone, Made}
use Rattle.mount_model.specs.declared.handle.Handle.TheVariants.{Reading, Writing}
use Rattle.mount_model.specs.declared.handle.Version.{Version}
use Rattle.mount_model.specs.declared.request.Request.{Request}
use Rattle.mount_model.specs.declared.request.Request.TheVariants as request
use Rattle.mount_model.specs.declared.request.Reply.TheVariants as reply
use Rattle.mount_model.specs.declared.standing.Heard.{Heard}
use Rattle.mount_model.specs.Handles.{Handle, Writer}
use Rattle.upload_rules.specs.declared.upload.UpFault.{UpFault}
use Rattle.upload_rules.specs.Refusal.{refusal}
use Rattle.mount_model.specs.Conversation.{Next, Makes, Removes, Creates, Opens, Lists, Replies, View, Range, fails, next_of, put_next, delete_next, at_path, along, stat_at, stat_next, opens_if, open_at, create_at, open_next, make_at, make_next, remove_at, remove_next, unlink_at, unlink_next, max_pages, pages_in, last_of, asks_page, behind_page, behind_answer, list_at, list_next, range_next, range_in, read_next, written_or, write_next, sync_next, close_next}
use Rattle.name_laws.specs.Files.{IsNoName, IsEmptyDir}

-- what the walk finds stands at the path's own key

rest-is : (first rest : Decision) (entry : Entry) → below first rest ≡ Is entry → rest ≡ Is entry
rest-is (Is RemoteDir) rest entry is = is
rest-is (Is LocalDir) rest entry is = is
rest-is (Is (LocalFile size)) rest entry is = absurd (cc)
rest-is (Is (File etag size)) rest entry is = absurd (cc)
rest-is (Is Nothing) rest entry is = absurd (cc)
rest-is (Need question) rest entry is = absurd (cc)
rest-is (Refused errno) rest entry is = absurd (cc)

joined-longer : (key name : List ℕ) (names : List (List ℕ)) → joined ((key ++ slash ∷ name) ∷ names) ≡ joined (key ∷ name ∷ names)
joined-longer key name [] = refl
joined-longer key name (next ∷ names) = append_assoc key (slash ∷ name) (slash ∷ joined (next ∷ names))

walked : (facts : Question → Option Fact) (locals : List ℕ → Local) (key : List ℕ) (names : List (List ℕ)) (entry : Entry) → walk facts locals key names ≡ Is entry → entry_at facts locals (joined (key ∷ names)) ≡ Is entry
walked facts locals key [] entry is = is
walked facts locals key (name ∷ names) entry is =
    let rest = rest-is (entry_at facts locals key) (walk facts locals (key ++ slash ∷ name) names) entry is in
    subst (λ (k : List ℕ). entry_at facts locals k ≡ Is entry) (joined-longer key name names) (walked facts locals (key ++ slash ∷ name) names entry rest)

-- which name of the mount's own is there where this stands at a key
abbrev Shows : Entry → Local → Type 0
Shows RemoteDir own = Unit {0}
Shows LocalDir own = own ≡ local.Dir
Shows (LocalFile size) own = own ≡ local.File size
Shows (File etag size) own = own ≡ local.None
Shows Nothing own = own ≡ local.None

-- of the bucket
head-shows : (key : List ℕ) (head : Option Fact) (entry : Entry) → by_head key head ≡ Is entry → Shows entry local.None
head-shows key None entry is = absurd (cc)
head-shows key (Some (fact.Found etag size)) entry is = let there : File etag size ≡ entry = cc in subst (λ (e : Entry). Shows e local.None) there refl
head-shows key (Some other) entry is = let there : Nothing ≡ entry = cc in subst (λ (e : Entry). Shows e local.None) there refl

local-shows : (key : List ℕ) (own : Local) (head : Option Fact) (entry : Entry) → by_local key own head ≡ Is entry → Shows entry own
local-shows key local.Dir head entry is = let there : LocalDir ≡ entry = cc in subst (λ (e : Entry). Shows e local.Dir) there refl
local-shows key (local.File size) head entry is = let there : LocalFile size ≡ entry = cc in subst (λ (e : Entry). Shows e (local.File size)) there refl
local-shows key local.None head entry is = head-shows key head entry is

probe-shows : (key : List ℕ) (probe : Option Fact) (own : Local) (head : Option Fact) (entry : Entry) → by_probe key probe own head ≡ Is entry → Shows entry own
probe-shows key None own head entry is = absurd (cc)
probe-shows key (Some fact.Yes) own head entry is = let there : RemoteDir ≡ entry = cc in subst (λ (e : Entry). Shows e own) there tt
probe-shows key (Some other) own head entry is = local-shows key own head entry is

-- no name, and a directory without names below it

none-there : (names : LocalNames) (key : List ℕ) → local_at names key ≡ local.None → IsNoName names key
none-there names key none = go (set.contains names.dirs key) (has_name_below names key) (map.get names.files key) refl refl none
  where
    go : (made some : Bool) (file : Option ℕ) → set.contains names.dirs key ≡ made → map.get names.files key ≡ file → (if made || some then local.Dir else file_of file) ≡ local.None → IsNoName names key
    go true some file made_is file_is none = absurd (cc)
    go false true file made_is file_is none = absurd (cc)
    go false false (Some size) made_is file_is none = absurd (cc)
    go false false None made_is file_is none = record { no_dir = made_is; no_file = file_is }

dir-there : (names : LocalNames) (key : List ℕ) → local_at names key ≡ local.Dir → has_name_below names key ≡ false → IsEmptyDir names key
dir-there names key dir none = go (set.contains names.dirs key) (has_name_below names key) (map.get names.files key) refl none dir
  where
    go : (made some : Bool) (file : Option ℕ) → set.contains names.dirs key ≡ made → some ≡ false → (if made || some then local.Dir else file_of file) ≡ local.Dir → IsEmptyDir names key
    go true some file made_is none_is dir = record { is_dir = made_is; none_below = none }
    go false true file made_is none_is dir = absurd (cc)
    go false false (Some size) made_is none_is dir = absurd (cc)
    go false false None made_is none_is dir = absurd (cc)

-- What a line makes is no name yet, and what it removes is an empty directory.
abbrev MayStand : LocalNames → Next → Type 0
MayStand names (Makes key) = IsNoName names key
MayStand names (Creates key) = IsNoName names key
MayStand names (Removes key) = IsEmptyDir names key
MayStand names other = Unit {0}

-- so it is where this stands at the path
abbrev MayStandAt : LocalNames → List (List ℕ) → (Entry → Next) → Type 0
MayStandAt names path at = (entry : Entry) → Shows entry (local_at names (joined path)) → MayStand names (at entry)

along-stands : (view : View) (root : Next) (at : Entry → Next) (path : List (List ℕ)) (heard : Heard) → MayStand view.names root → MayStandAt view.names path at → MayStand view.names (along view root at path heard)
along-stands view root at [] heard ends stands = ends
along-stands view root at (name ∷ names) heard ends stands = go (walk facts (local_at view.names) name names) heard.answers refl
  where
    facts : Question → Option Fact
    facts = fact_in heard.facts

    key : List ℕ
    key = joined (name ∷ names)

    go : (decision : Decision) (answers : List Brief) → walk facts (local_at view.names) name names ≡ decision → MayStand view.names (at_path at decision answers)
    go decision (answer ∷ answers) is = tt
    go (Need question) [] is = tt
    go (Is entry) [] is = stands entry (probe-shows key (facts (Probe key)) (local_at view.names key) (facts (Head key)) entry (walked facts (local_at view.names) name names entry is))
    go (Refused errno) [] is = tt

opens-stands : (names : LocalNames) (live : ℕ) (opened : Next) → MayStand names opened → MayStand names (opens_if live opened)
opens-stands names live opened stands = go (live == max_handles)
  where
    go : (full : Bool) → MayStand names (if full then fails Emfile else opened)
    go true = tt
    go false = stands

stat-stands : (names : LocalNames) (path : List (List ℕ)) → MayStandAt names path stat_at
stat-stands names path (LocalFile size) shows = tt
stat-stands names path other shows = tt

open-stands : (names : LocalNames) (live : ℕ) (path : List (List ℕ)) → MayStandAt names path (open_at live (joined path))
open-stands names live path (File etag size) shows = opens-stands names live (Opens (record { key = joined path; etag = etag; size = size })) tt
open-stands names live path other shows = tt

create-stands : (names : LocalNames) (may_overwrite : Bool) (live : ℕ) (path : List (List ℕ)) → MayStandAt names path (create_at may_overwrite live (joined path))
create-stands names true live path (File etag size) shows = opens-stands names live (Creates (joined path)) (none-there names (joined path) shows)
create-stands names false live path (File etag size) shows = tt
create-stands names may_overwrite live path Nothing shows = opens-stands names live (Creates (joined path)) (none-there names (joined path) shows)
create-stands names may_overwrite live path other shows = tt

make-stands : (names : LocalNames) (path : List (List ℕ)) → MayStandAt names path (make_at (joined path))
make-stands names path Nothing shows = none-there names (joined path) shows
make-stands names path other shows = tt

remove-stands : (names : LocalNames) (path : List (List ℕ)) → MayStandAt names path (remove_at names (joined path))
remove-stands names path LocalDir shows = go (has_name_below names (joined path)) refl
  where
    go : (some : Bool) → has_name_below names (joined path) ≡ some → MayStand names (if some then fails Enotempty else Removes (joined path))
    go true is = tt
    go false is = dir-there names (joined path) shows is
remove-stands names path other shows = tt

unlink-stands : (names : LocalNames) (may_delete : Bool) (path : List (List ℕ)) → MayStandAt names path (unlink_at may_delete (joined path))
unlink-stands names true path (File etag size) shows = tt
unlink-stands names false path (File etag size) shows = tt
unlink-stands names may_delete path other shows = tt

stat-next : (view : View) (path : Result (List (List ℕ)) PathFault) (heard : Heard) → MayStand view.names (stat_next view path heard)
stat-next view (Err why) heard = tt
stat-next view (Ok names) heard = along-stands view (Replies reply.Directory) stat_at names heard tt (stat-stands view.names names)

open-next : (at : ℕ → List ℕ → Entry → Next) (view : View) (handle : Option Handle) (path : Result (List (List ℕ)) PathFault) (heard : Heard) → ((names : List (List ℕ)) → MayStandAt view.names names (at view.live (joined names))) → MayStand view.names (open_next at view handle path heard)
open-next at view handle (Err why) heard stands = tt
open-next at view (Some handle) (Ok names) heard stands = tt
open-next at view None (Ok names) heard stands = along-stands view (fails Eisdir) (at view.live (joined names)) names heard tt (stands names)

make-next : (view : View) (path : Result (List (List ℕ)) PathFault) (heard : Heard) → MayStand view.names (make_next view path heard)
make-next view (Err why) heard = tt
make-next view (Ok names) heard = along-stands view (fails Eexist) (make_at (joined names)) names heard tt (make-stands view.names names)

remove-next : (view : View) (path : Result (List (List ℕ)) PathFault) (heard : Heard) → MayStand view.names (remove_next view path heard)
remove-next view (Err why) heard = tt
remove-next view (Ok names) heard = along-stands view (fails Eperm) (remove_at view.names (joined names)) names heard tt (remove-stands view.names names)

unlink-next : (view : View) (path : Result (List (List ℕ)) PathFault) (heard : Heard) → MayStand view.names (unlink_next view path heard)
unlink-next view (Err why) heard = tt
unlink-next view (Ok names) heard = go heard.answers
  where
    walks : (answers : List Brief) → MayStand view.names (along view (fails Eisdir) (unlink_at view.options.allow_delete (joined names)) names (record { facts = heard.facts; answers = answers }))
    walks answers = along-stands view (fails Eisdir) (unlink_at view.options.allow_delete (joined names)) names (record { facts = heard.facts; answers = answers }) tt (unlink-stands view.names view.options.allow_delete names)

    go : (answers : List Brief) → MayStand view.names (unlink_next view (Ok names) (record { facts = heard.facts; answers = answers }))
    go [] = walks []
    go (Gone ∷ answers) = tt
    go (other ∷ answers) = walks (other ∷ answers)

list-at-stands : (names : LocalNames) (first : Next) (path : List (List ℕ)) → MayStand names first → MayStandAt names path (list_at first)
list-at-stands names first path asks RemoteDir shows = asks
list-at-stands names first path asks LocalDir shows = asks
list-at-stands names first path asks other shows = tt

page-stands : (view : View) (prefix : List ℕ) (answers : List Brief) (last : Page) → MayStand view.names (behind_page view prefix answers last)
page-stands view prefix answers last = go last.more (nat_lt (length answers) max_pages)
  where
    go : (more few : Bool) → MayStand view.names (if not more then Lists (listing_of prefix (items_of (pages_in answers)) view.names) else (if few then asks_page view prefix (last_text [] last.items) else fails Eoverflow))
    go false few = tt
    go true true = tt
    go true false = tt

answer-stands : (view : View) (prefix : List ℕ) (answers : List Brief) (last : Brief) → MayStand view.names (behind_answer view prefix answers last)
answer-stands view prefix answers (answer.Page page) = page-stands view prefix answers page
answer-stands view prefix answers other = tt

list-next : (view : View) (path : Result (List (List ℕ)) PathFault) (heard : Heard) → MayStand view.names (list_next view path heard)
list-next view (Err why) heard = tt
list-next view (Ok names) heard = go heard.answers
  where
    first : Next
    first = asks_page view (prefix_of names) []

    go : (answers : List Brief) → MayStand view.names (list_next view (Ok names) (record { facts = heard.facts; answers = answers }))
    go [] = along-stands view first (list_at first) names (record { facts = heard.facts; answers = [] }) tt (list-at-stands view.names first names tt)
    go (answer ∷ answers) = answer-stands view (prefix_of names) (answer ∷ answers) (last_of answer answers)

-- what walks no path makes no name

put-stands : (names : LocalNames) (key bytes : List ℕ) (answers : List Brief) → MayStand names (put_next key bytes answers)
put-stands names key bytes [] = tt
put-stands names key bytes (Made etag ∷ answers) = tt
put-stands names key bytes (other ∷ answers) = tt

delete-stands : (names : LocalNames) (key : List ℕ) (answers : List Brief) → MayStand names (delete_next key answers)
delete-stands names key [] = tt
delete-stands names key (Gone ∷ answers) = tt
delete-stands names key (other ∷ answers) = tt

range-stands : (names : LocalNames) (version : Version) (range : Option Range) (answers : List Brief) → MayStand names (range_next version range answers)
range-stands names version None answers = tt
range-stands names version (Some range) [] = tt
range-stands names version (Some range) (Bytes count ∷ answers) = tt
range-stands names version (Some range) (Changed ∷ answers) = tt
range-stands names version (Some range) (Missing ∷ answers) = tt
range-stands names version (Some range) (other ∷ answers) = tt

read-stands : (names : LocalNames) (handle : Option Handle) (offset count : ℕ) (answers : List Brief) → MayStand names (read_next handle offset count answers)
read-stands names None offset count answers = tt
read-stands names (Some (Reading line version)) offset count answers = range-stands names version (range_in offset count version.size) answers
read-stands names (Some (Writing w)) offset count answers = tt

write-or : (names : LocalNames) (w : Writer) (bytes : List ℕ) (o : Option UpFault) → MayStand names (written_or w bytes o)
write-or names w bytes None = tt
write-or names w bytes (Some why) = tt

write-stands : (names : LocalNames) (handle : Option Handle) (offset : ℕ) (bytes : List ℕ) → MayStand names (write_next handle offset bytes)
write-stands names None offset bytes = tt
write-stands names (Some (Reading line version)) offset bytes = tt
write-stands names (Some (Writing w)) offset bytes = write-or names w bytes (refusal w.upload offset (length bytes))

sync-stands : (names : LocalNames) (line : ℕ) (handle : Option Handle) → MayStand names (sync_next line handle)
sync-stands names line None = tt
sync-stands names line (Some (Reading opened version)) = tt
sync-stands names line (Some (Writing w)) = tt

close-stands : (names : LocalNames) (line : ℕ) (handle : Option Handle) → MayStand names (close_next line handle)
close-stands names line None = tt
close-stands names line (Some (Reading opened version)) = tt
close-stands names line (Some (Writing w)) = tt

next-stands : (view : View) (asked : Request) (heard : Heard) → MayStand view.names (next_of view asked heard)
next-stands view (request.Put key content) heard = put-stands view.names key (bytes_of content) heard.answers
next-stands view request.Await heard = tt
next-stands view (request.Stat path) heard = stat-next view path heard
next-stands view (request.List path) heard = list-next view path heard
next-stands view (request.OpenRead name path) heard = open-next open_at view view.handle path heard (λ names. open-stands view.names view.live names)
next-stands view (request.OpenWrite name path) heard = open-next (create_at false) view view.handle path heard (λ names. create-stands view.names false view.live names)
next-stands view (request.OpenTruncate name path) heard = open-next (create_at view.options.allow_overwrite) view view.handle path heard (λ names. create-stands view.names view.options.allow_overwrite view.live names)
next-stands view (request.Read name offset count) heard = read-stands view.names view.handle offset count heard.answers
next-stands view (request.Write name offset content) heard = write-stands view.names view.handle offset (bytes_of content)
next-stands view (request.Sync name) heard = sync-stands view.names view.line view.handle
next-stands view (request.Close name) heard = close-stands view.names view.line view.handle
next-stands view (request.Delete key) heard = delete-stands view.names key heard.answers
next-stands view (request.MakeDir path) heard = make-next view path heard
next-stands view (request.RemoveDir path) heard = remove-next view path heard
next-stands view (request.Unlink path) heard = unlink-next view path heard

pub created : (view : View) (asked : Request) (heard : Heard) (key : List ℕ) → next_of view asked heard ≡ Creates key → IsNoName view.names key
created view asked heard key is = subst (MayStand view.names) is (next-stands view asked heard)

pub made : (view : View) (asked : Request) (heard : Heard) (key : List ℕ) → next_of view asked heard ≡ Makes key → IsNoName view.names key
made view asked heard key is = subst (MayStand view.names) is (next-stands view asked heard)

pub removed : (view : View) (asked : Request) (heard : Heard) (key : List ℕ) → next_of view asked heard ≡ Removes key → IsEmptyDir view.names key
removed view asked heard key is = subst (MayStand view.names) is (next-stands view asked heard)
