-- Which names a listing shows, and what under each: by the items of a directory's pages, and by the mount's own names.
use Rattle.std.specs.Prelude.{ℕ, ◌-◌, List, [], ◌∷◌, ◌++◌, map as each, length, take, drop, fold, Bool, true, false, ◌&&◌, not, nat_eq, if◌then◌else◌, Option, Some, None}
use Rattle.std.specs.FinMap as map
use Rattle.std.specs.FinSet as set
use Rattle.std.specs.List.{before_first, ends_with}
use Rattle.mp_types.specs.Path.{is_slash, is_valid_name, joined, slash}
use Rattle.mp_rules.specs.declared.entry.DirEntry.{DirEntry}
use Rattle.mp_rules.specs.declared.entry.DirEntry.TheVariants as entry
use Rattle.mp_rules.specs.declared.entry.Local.{Local}
use Rattle.mp_rules.specs.declared.entry.Local.TheVariants as local
use Rattle.mp_rules.specs.Local.{LocalNames, local_at}
use Rattle.mp_rules.specs.Names.{name_cmp}
use Rattle.bucket_model.specs.declared.page.PageItem.{PageItem}
use Rattle.bucket_model.specs.declared.page.PageItem.TheVariants as item
use Rattle.bucket_model.specs.Listing.{has_prefix, text_of}
use Rattle.listing_rules.specs.declared.listed.Listed.{Listed}
use Rattle.listing_rules.specs.declared.listed.Listed.TheVariants.{Dir, Remote, Writing}

-- what keys below a path begin with: its key and a `/`, or nothing at the root
abbrev pub prefix_of : List (List ℕ) → List ℕ
prefix_of [] = []
prefix_of (name ∷ names) = joined (name ∷ names) ++ slash ∷ []

-- the names of one directory in the order of a listing
abbrev pub Names : Type 0
Names = map.FinMap name_cmp Listed

abbrev pub is_dir : Option Listed → Bool
is_dir (Some Dir) = true
is_dir other = false

-- a name shows what comes, unless a directory has it; only valid names can be reached
abbrev pub with_entry : List ℕ → Listed → Names → Names
with_entry name listed names = if is_valid_name name && not (is_dir (map.get names name)) then map.insert names name listed else names

-- what stands behind the prefix
abbrev pub rest_of : List ℕ → List ℕ → List ℕ
rest_of prefix text = drop (length prefix) text

-- a directory's name ends before the `/` with which the common prefix ends; one that doesn't end so gives no name
abbrev pub with_dir : List ℕ → Names → Names
with_dir rest names = if ends_with nat_eq rest (slash ∷ []) then with_entry (take (length rest - 1) rest) Dir names else names

-- what an item shows by what stands behind the prefix: a file of the bucket, or a directory
abbrev pub with_rest : List ℕ → PageItem → Names → Names
with_rest rest (item.Object key etag size) names = with_entry rest (Remote size) names
with_rest rest (item.Prefix text) names = with_dir rest names

-- what an item of a page shows. No page of the prefix has an item without it, and one would show nothing.
abbrev pub with_item : List ℕ → Names → PageItem → Names
with_item prefix names item = if has_prefix prefix (text_of item) then with_rest (rest_of prefix (text_of item)) item names else names

abbrev pub with_local : List ℕ → Local → Names → Names
with_local name local.None names = names
with_local name local.Dir names = with_entry name Dir names
with_local name (local.File size) names = with_entry name (Writing size) names

-- the name in the directory of the prefix that a key is or lies below
abbrev pub child_of : List ℕ → List ℕ → List ℕ
child_of prefix key = before_first is_slash (rest_of prefix key)

-- what one of the mount's own names shows in the directory of the prefix
abbrev pub with_own : List ℕ → LocalNames → Names → List ℕ → Names
with_own prefix own names key = if has_prefix prefix key then with_local (child_of prefix key) (local_at own (prefix ++ child_of prefix key)) names else names

-- what is in the bucket
abbrev pub remote_names : List ℕ → List PageItem → Names
remote_names prefix items = fold (with_item prefix) map.empty items

-- and what is the mount's own, which hides a file of the bucket
abbrev pub with_all_own : List ℕ → LocalNames → Names → Names
with_all_own prefix own names = fold (with_own prefix own) names (set.items own.dirs ++ map.keys own.files)

abbrev pub names_in : List ℕ → List PageItem → LocalNames → Names
names_in prefix items own = with_all_own prefix own (remote_names prefix items)

abbrev pub entry_of : List ℕ × Listed → DirEntry
entry_of named = by_listed named.1
  where
    by_listed : Listed → DirEntry
    by_listed Dir = entry.Dir named.0
    by_listed (Remote size) = entry.Remote size named.0
    by_listed (Writing size) = entry.Writing size named.0

-- the entries of some names, in the order of a listing
abbrev pub entries_of : Names → List DirEntry
entries_of names = each entry_of (map.entries names)

-- what a directory's listing shows
abbrev pub listing_of : List ℕ → List PageItem → LocalNames → List DirEntry
listing_of prefix items own = entries_of (names_in prefix items own)

-- what stands at a name, by whether some key lies below it, what is local there, and the size of the object: what is remote hides what is local, and that
-- hides the object
abbrev pub shown : Bool → Local → Option ℕ → Option Listed
shown true own size = Some Dir
shown false local.Dir size = Some Dir
shown false (local.File written) size = Some (Writing written)
shown false local.None None = None
shown false local.None (Some size) = Some (Remote size)
