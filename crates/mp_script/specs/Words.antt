-- Words and verbs.
use Rattle.std.specs.Prelude.{ℕ, List, Bool, ◌++◌, ◌&&◌, ◌==◌, nat_le, length, Result, Ok, Err}
use Rattle.std.specs.List.{list_any, slice_split}
use Rattle.mp_script.specs.declared.cause.ScriptCause.{ScriptCause}
use Rattle.mp_types.specs.declared.path.PathFault.{PathFault}
use Rattle.mount_model.specs.declared.request.Request.{Request}
use Rattle.mount_model.specs.declared.request.Request.TheVariants as request
use Rattle.mp_script.specs.ScriptText.{words_of, is_number, number_of, await_of, put_of, delete_of, open_of, read_of, write_of, handle_only, path_only}
use Rattle.mp_script.specs.declared.request.Access.{Access}
use Rattle.mp_script.specs.declared.request.Access.TheVariants as access
use Rattle.mp_script.specs.declared.request.Verb.{Verb}
use Rattle.mp_script.specs.declared.request.Verb.TheVariants as verb
use Rattle.mp_script.specs.declared.request.Verb.TheVariants.{Await, Put, Delete, Stat, Open, Read, Write, Sync, Close, MakeDir, RemoveDir, Unlink}

abbrev pub has : ℕ → List ℕ → Bool
has separator text = list_any (λ byte. byte == separator) text

-- the parts of a text stand between separators
abbrev pub parts_of : ℕ → List ℕ → List (List ℕ)
parts_of separator text = slice_split (λ byte. byte == separator) text

abbrev pub has_empty : List ℕ → Bool
has_empty line = list_any (λ word. length word == 0) (words_of line)

abbrev pub is_number_up_to : ℕ → List ℕ → Bool
is_number_up_to greatest word = is_number word && nat_le (number_of word) greatest

-- the bytes in front, and those that are read behind them
abbrev pub put_in_front : List ℕ → Result (List ℕ) ScriptCause → Result (List ℕ) ScriptCause
put_in_front front (Ok bytes) = Ok (front ++ bytes)
put_in_front front (Err why) = Err why

-- the open of a file, by how it is opened
abbrev pub opened : Access → ℕ → Result (List (List ℕ)) PathFault → Request
opened access.Read = request.OpenRead
opened access.Write = request.OpenWrite
opened access.Truncate = request.OpenTruncate

-- the request of a verb, with the words behind it
abbrev pub verb_request : Verb → List (List ℕ) → Result Request ScriptCause
verb_request Await words = await_of words
verb_request Put words = put_of words
verb_request Delete words = delete_of words
verb_request Stat words = path_only request.Stat words
verb_request verb.List words = path_only request.List words
verb_request (Open how) words = open_of (opened how) words
verb_request Read words = read_of words
verb_request Write words = write_of words
verb_request Sync words = handle_only request.Sync words
verb_request Close words = handle_only request.Close words
verb_request MakeDir words = path_only request.MakeDir words
verb_request RemoveDir words = path_only request.RemoveDir words
verb_request Unlink words = path_only request.Unlink words
