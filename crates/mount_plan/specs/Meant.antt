-- What a plan says that a line does next.
use Rattle.std.specs.Prelude.{◌≡◌, ℕ, ◌<◌, List, [], Option, None, Some, option_copied}
use Rattle.std.specs.Borrow.{Bor}
use Rattle.std.specs.Option.{option_map_or}
use Rattle.mp_types.specs.Content.{bytes_of}
use Rattle.mp_types.specs.Key.{IsKeyText}
use Rattle.mp_rules.specs.QuestionRef.{as_question, key_in}
use Rattle.listing_rules.specs.Names.{listing_of, prefix_of}
use Rattle.listing_rules.specs.Pages.{items_of}
use Rattle.bucket_model.specs.declared.call.Call.TheVariants as call
use Rattle.mount_model.specs.declared.handle.Handle.TheVariants.{Writing}
use Rattle.mount_model.specs.declared.standing.Heard.{Heard}
use Rattle.mount_model.specs.declared.standing.Told.{Told}
use Rattle.mount_model.specs.Heard.{call_of, with_told}
use Rattle.mount_model.specs.Conversation.{Next, Asks, Replies, Makes, Removes, Opens, Creates, Lists, Gives, Waits, pages_in, write_to, sync_next, close_next}
use Rattle.mount_model.specs.declared.request.Request.{Request}
use Rattle.mount_model.specs.declared.request.Request.TheVariants as request
use Rattle.mount_model.specs.Handles.{Handle}
use Rattle.mount_plan.specs.declared.planned.Plan.{Plan}
use Rattle.mount_plan.specs.declared.planned.Plan.TheVariants.{Line, Write, Sync, Finish}
use Rattle.mount_plan.specs.declared.planned.LinePlan.{LinePlan}
use Rattle.mount_plan.specs.declared.planned.LinePlan.TheVariants.{Ask, Page, Get, Put, Delete, Unlink, Reply, MakeDir, RemoveDir, Open, Create, List as Listing, Give, Wait}

-- what a line has heard, with its last answer
abbrev pub with_last : Option Told → Heard → Heard
with_last None heard = heard
with_last (Some told) heard = with_told told heard

-- the text behind which a page is asked for: the empty one stands before all items
abbrev pub text_behind : Option (Bor (List ℕ)) → List ℕ
text_behind after = option_map_or (λ text. text.now) after []

-- a key that stands in a path is as long as a key may be, and a range that is asked for has at least one
abbrev pub MeansOne : LinePlan → Next → Type 0
MeansOne (Ask asked) next = (next ≡ Asks (call_of (as_question asked))) × IsKeyText (key_in asked)
MeansOne (Page path after max) next = next ≡ Asks (call.List (prefix_of path.now) (text_behind after) max)
MeansOne (Get version from to) next = (next ≡ Asks (call.Get version.now.key version.now.etag from to)) × (from < to)
MeansOne (Put key content) next = next ≡ Asks (call.Put key.now (bytes_of content.now))
MeansOne (Delete key) next = next ≡ Asks (call.Delete key.now)
MeansOne (Unlink key) next = (next ≡ Asks (call.Delete key.now)) × IsKeyText key.now
MeansOne (Reply said) next = next ≡ Replies said
MeansOne (MakeDir key) next = (next ≡ Makes key.now) × IsKeyText key.now
MeansOne (RemoveDir key) next = (next ≡ Removes key.now) × IsKeyText key.now
MeansOne (Open key etag size) next = (next ≡ Opens (record { key = key.now; etag = etag; size = size })) × IsKeyText key.now
MeansOne (Create key) next = (next ≡ Creates key.now) × IsKeyText key.now
MeansOne (Listing path heard last own) next = next ≡ Lists (listing_of (prefix_of path.now) (items_of (pages_in (with_last (option_copied last) heard.now).answers)) own.now)
MeansOne (Give count) next = next ≡ Gives count
MeansOne Wait next = next ≡ Waits

abbrev pub Means : Plan → Next → Type 0
Means (Line plan) next = MeansOne plan next
Means (Write writer offset content) next = next ≡ write_to writer.now offset (bytes_of content.now)
Means (Sync writer line) next = next ≡ sync_next line (Some (Writing writer.now))
Means (Finish writer line) next = next ≡ close_next line (Some (Writing writer.now))

-- the writer is that of the handle that the request names
abbrev pub IsFor : Plan → Request → Option Handle → Type 0
IsFor (Line plan) asked handle = Unit {0}
IsFor (Write writer offset content) asked handle = (name : ℕ) × (asked ≡ request.Write name offset content.now) × (handle ≡ Some (Writing writer.now))
IsFor (Sync writer line) asked handle = (name : ℕ) × (asked ≡ request.Sync name) × (handle ≡ Some (Writing writer.now))
IsFor (Finish writer line) asked handle = (name : ℕ) × (asked ≡ request.Close name) × (handle ≡ Some (Writing writer.now))
