-- The script that bytes spell, or the first line that spells none, and why.
use Rattle.std.specs.Prelude.{ℕ, ◌+◌, ◌-◌, ◌*◌, ◌^◌, List, [], ◌∷◌, length, fold, Bool, true, not, ◌&&◌, ◌||◌, ◌==◌, nat_eq, nat_le, nat_lt, if◌then◌else◌, codes, Result, Ok, Err, unwrap_or}
use Rattle.std.specs.List.{list_any, list_all, slice_split, onto_first}
use Rattle.std.specs.Cmp.Lexicographic.{pointwise}
use Rattle.std.specs.Str.{is_utf8}
use Rattle.hex.specs.Hex.{is_hex_digit, hex_digit_value, decode_of}
use Rattle.hex.specs.declared.error.FromHexError.{FromHexError}
use Rattle.mp_types.specs.declared.octets.Data.{Data}
use Rattle.mp_types.specs.declared.octets.Data.TheVariants.{Literal, Pattern}
use Rattle.mp_types.specs.Content.{bytes_of}
use Rattle.mp_types.specs.declared.path.PathFault.{PathFault}
use Rattle.mp_types.specs.Key.{max_key_length}
use Rattle.mp_types.specs.Path.{path_of}
use Rattle.mp_types.specs.Plain.{is_plain}
use Rattle.mp_script.specs.declared.cause.ScriptCause.{ScriptCause}
use Rattle.mp_script.specs.declared.cause.ScriptCause.TheVariants as cause
use Rattle.mp_script.specs.declared.cause.What.{What}
use Rattle.mp_script.specs.declared.cause.What.TheVariants.{Lines, Reads, Data as Stored}
use Rattle.mount_model.specs.declared.request.Request.{Request}
use Rattle.mount_model.specs.declared.request.Request.TheVariants as request
use Rattle.mount_model.specs.declared.request.Request.TheVariants.{Put, Await, Stat, OpenRead, OpenWrite, OpenTruncate, Read, Write, Sync, Close, Delete, MakeDir, RemoveDir, Unlink}
use Rattle.mount_model.specs.declared.request.Line.{Line}

infixl 10 ◌>>=◌
abbrev pub ◌>>=◌ : {A B : Type 0} → Result A ScriptCause → (A → Result B ScriptCause) → Result B ScriptCause
(Ok x) >>= f = f x
(Err why) >>= f = Err why

-- a script has at most this many bytes
abbrev pub max_script_bytes : ℕ
max_script_bytes = 67108864

-- and at most this many lines
abbrev pub max_lines : ℕ
max_lines = 65536

-- its reads ask for at most this many bytes together
abbrev pub max_read_bytes : ℕ
max_read_bytes = 268435456

-- and it gives at most this many bytes to be stored
abbrev pub max_given_bytes : ℕ
max_given_bytes = 268435456

-- lines end at line feeds; a last line without one counts
abbrev pub lines_of : List ℕ → List (List ℕ)
lines_of [] = []
lines_of (byte ∷ bytes) = if byte == 10 then [] ∷ lines_of bytes else onto_first byte (lines_of bytes)

-- a line that is empty or begins with `#` holds no request
abbrev pub is_passed : List ℕ → Bool
is_passed [] = true
is_passed (byte ∷ bytes) = byte == 35

abbrev pub is_digit : ℕ → Bool
is_digit byte = nat_le 48 byte && nat_le byte 57

-- the number that decimal digits spell
abbrev pub number_of : List ℕ → ℕ
number_of digits = fold (λ n digit. 10 * n + (digit - 48)) 0 digits

-- 1 to 40 decimal digits, leading zeros too
abbrev pub is_number : List ℕ → Bool
is_number word = not (length word == 0) && nat_le (length word) 40 && list_all is_digit word

-- a process, 1 to 999, or 0 for the others
abbrev pub actor_of : List ℕ → Result ℕ ScriptCause
actor_of word = if is_number word && nat_le (number_of word) 999 then Ok (number_of word) else Err cause.Actor

-- the name of a handle
abbrev pub handle_word : List ℕ → Result ℕ ScriptCause
handle_word word = if is_number word && nat_le (number_of word) 65535 then Ok (number_of word) else Err cause.Handle

-- an offset or a count
abbrev pub number_word : List ℕ → Result ℕ ScriptCause
number_word word = if is_number word && nat_lt (number_of word) (2 ^ 63) then Ok (number_of word) else Err cause.Number

-- Escaped text: a byte that stands for itself is printable and not `%`, or lies beyond ASCII.
abbrev pub stands_for_itself : ℕ → Bool
stands_for_itself byte = is_plain byte || nat_le 128 byte

-- `%` and two hexadecimal digits of either case
abbrev pub is_escape : ℕ → ℕ → ℕ → Bool
is_escape first high low = first == 37 && is_hex_digit high && is_hex_digit low

-- the byte that two hexadecimal digits spell
abbrev pub spelled : ℕ → ℕ → ℕ
spelled high low = unwrap_or (hex_digit_value high) 0 * 16 + unwrap_or (hex_digit_value low) 0

abbrev pub onto : ℕ → Result (List ℕ) ScriptCause → Result (List ℕ) ScriptCause
onto byte (Ok bytes) = Ok (byte ∷ bytes)
onto byte (Err why) = Err why

abbrev pub itself_onto : ℕ → Result (List ℕ) ScriptCause → Result (List ℕ) ScriptCause
itself_onto byte rest = if stands_for_itself byte then onto byte rest else Err cause.Escape

-- what escaped bytes stand for
abbrev pub unescaped : List ℕ → Result (List ℕ) ScriptCause
unescaped [] = Ok []
unescaped (byte ∷ []) = itself_onto byte (Ok [])
unescaped (byte ∷ next ∷ []) = itself_onto byte (unescaped (next ∷ []))
unescaped (byte ∷ high ∷ low ∷ bytes) =
    if is_escape byte high low then onto (spelled high low) (unescaped bytes)
    else itself_onto byte (unescaped (high ∷ low ∷ bytes))

-- a single `%` is the empty text
abbrev pub escaped_bytes : List ℕ → Result (List ℕ) ScriptCause
escaped_bytes word = if pointwise nat_eq word (37 ∷ []) then Ok [] else unescaped word

abbrev pub text_of : List ℕ → Result (List ℕ) ScriptCause
text_of word = do
  text ← escaped_bytes word
  if is_utf8 text then Ok text else Err cause.Utf8

-- a path, or why the text is none: only the reply tells that fault
abbrev pub path_word : List ℕ → Result (Result (List (List ℕ)) PathFault) ScriptCause
path_word word = do
  text ← text_of word
  Ok (path_of text)

abbrev pub key_of : List ℕ → Result (List ℕ) ScriptCause
key_of word = do
  text ← text_of word
  if length text == 0 || nat_lt max_key_length (length text) then Err cause.Key else Ok text

-- data: escaped bytes
abbrev pub literal_of : List ℕ → Result Data ScriptCause
literal_of word = do
  bytes ← escaped_bytes word
  Ok (Literal bytes)

-- data: hexadecimal digits
abbrev pub hex_of : Result (List ℕ) FromHexError → Result Data ScriptCause
hex_of (Ok bytes) = Ok (Literal bytes)
hex_of (Err why) = Err cause.Data

-- data: a seed, `:` and how many bytes
abbrev pub pattern_of : List (List ℕ) → Result Data ScriptCause
pattern_of (seed ∷ count ∷ []) =
    if is_number seed && nat_lt (number_of seed) (2 ^ 32) && (is_number count && nat_lt (number_of count) (2 ^ 63))
    then Ok (Pattern (number_of seed) (number_of count))
    else Err cause.Data
pattern_of words = Err cause.Data

-- the form of data is its first byte: `t`, `x` or `g`
abbrev pub content_of : List ℕ → Result Data ScriptCause
content_of [] = Err cause.Data
content_of (form ∷ word) =
    if form == 116 then literal_of word
    else (if form == 120 then hex_of (decode_of word)
    else (if form == 103 then pattern_of (slice_split (λ byte. byte == 58) word) else Err cause.Data))

abbrev pub put_of : List (List ℕ) → Result Request ScriptCause
put_of (key ∷ content ∷ []) = do
  k ← key_of key
  c ← content_of content
  Ok (Put k c)
put_of words = Err cause.Words

-- the three kinds of open have the same words
abbrev pub open_of : (ℕ → Result (List (List ℕ)) PathFault → Request) → List (List ℕ) → Result Request ScriptCause
open_of opens (handle ∷ path ∷ []) = do
  h ← handle_word handle
  p ← path_word path
  Ok (opens h p)
open_of opens words = Err cause.Words

abbrev pub read_of : List (List ℕ) → Result Request ScriptCause
read_of (handle ∷ offset ∷ count ∷ []) = do
  h ← handle_word handle
  o ← number_word offset
  c ← number_word count
  Ok (Read h o c)
read_of words = Err cause.Words

abbrev pub write_of : List (List ℕ) → Result Request ScriptCause
write_of (handle ∷ offset ∷ content ∷ []) = do
  h ← handle_word handle
  o ← number_word offset
  c ← content_of content
  Ok (Write h o c)
write_of words = Err cause.Words

-- a request that names a handle alone
abbrev pub handle_only : (ℕ → Request) → List (List ℕ) → Result Request ScriptCause
handle_only asks (handle ∷ []) = do
  h ← handle_word handle
  Ok (asks h)
handle_only asks words = Err cause.Words

abbrev pub delete_of : List (List ℕ) → Result Request ScriptCause
delete_of (key ∷ []) = do
  k ← key_of key
  Ok (Delete k)
delete_of words = Err cause.Words

-- a request that names a path alone
abbrev pub path_only : (Result (List (List ℕ)) PathFault → Request) → List (List ℕ) → Result Request ScriptCause
path_only asks (path ∷ []) = do
  p ← path_word path
  Ok (asks p)
path_only asks words = Err cause.Words

abbrev pub await_of : List (List ℕ) → Result Request ScriptCause
await_of [] = Ok Await
await_of words = Err cause.Words

abbrev pub is_word : List ℕ → List ℕ → Bool
is_word word text = pointwise nat_eq word text

-- what the others ask for: changes of the bucket
abbrev pub change_of : List ℕ → List (List ℕ) → Result Request ScriptCause
change_of verb words =
    if is_word verb (codes "put") then put_of words
    else (if is_word verb (codes "delete") then delete_of words else Err cause.Verb)

-- what a process asks for
abbrev pub asked_by_process : List ℕ → List (List ℕ) → Result Request ScriptCause
asked_by_process verb words =
    if is_word verb (codes "stat") then path_only Stat words
    else (if is_word verb (codes "list") then path_only request.List words
    else (if is_word verb (codes "openr") then open_of OpenRead words
    else (if is_word verb (codes "openw") then open_of OpenWrite words
    else (if is_word verb (codes "opent") then open_of OpenTruncate words
    else (if is_word verb (codes "read") then read_of words
    else (if is_word verb (codes "write") then write_of words
    else (if is_word verb (codes "fsync") then handle_only Sync words
    else (if is_word verb (codes "close") then handle_only Close words
    else (if is_word verb (codes "mkdir") then path_only MakeDir words
    else (if is_word verb (codes "rmdir") then path_only RemoveDir words
    else (if is_word verb (codes "unlink") then path_only Unlink words else Err cause.Verb)))))))))))

-- processes ask, the others change the bucket, and all may wait
abbrev pub request_of : ℕ → List ℕ → List (List ℕ) → Result Request ScriptCause
request_of actor verb words =
    if is_word verb (codes "await") then await_of words
    else (if actor == 0 then change_of verb words else asked_by_process verb words)

abbrev pub words_request : ℕ → List (List ℕ) → Result Request ScriptCause
words_request actor [] = Err cause.Words
words_request actor (verb ∷ words) = request_of actor verb words

pub record Asked : Type 0 where
  pub actor : ℕ
  pub request : Request

abbrev pub words_asked : List (List ℕ) → Result Asked ScriptCause
words_asked [] = Err cause.Words
words_asked (first ∷ words) = do
  actor ← actor_of first
  request ← words_request actor words
  Ok (record { actor = actor; request = request })

-- the words of a line stand between single spaces
abbrev pub words_of : List ℕ → List (List ℕ)
words_of line = slice_split (λ byte. byte == 32) line

abbrev pub asked_of : List ℕ → Result Asked ScriptCause
asked_of line = if list_any (λ word. length word == 0) (words_of line) then Err cause.Words else words_asked (words_of line)

pub record BadLine : Type 0 where
  pub line : ℕ
  pub cause : ScriptCause

abbrev pub with_line : ℕ → Result Asked ScriptCause → Result (List Line) BadLine → Result (List Line) BadLine
with_line number (Err why) below = Err (record { line = number; cause = why })
with_line number (Ok asked) (Ok lines) = Ok (record { number = number; actor = asked.actor; request = asked.request } ∷ lines)
with_line number (Ok asked) (Err bad) = Err bad

-- lines are numbered from 1
abbrev pub script_from : ℕ → List (List ℕ) → Result (List Line) BadLine
script_from number [] = Ok []
script_from number (line ∷ lines) = if is_passed line then script_from (number + 1) lines else with_line number (asked_of line) (script_from (number + 1) lines)

-- how many bytes a request asks to read
abbrev pub count_in : Request → ℕ
count_in (Read name offset count) = count
count_in other = 0

-- how many bytes a request gives to be stored
abbrev pub given_in : Request → ℕ
given_in (Put key content) = length (bytes_of content)
given_in (Write name offset content) = length (bytes_of content)
given_in other = 0

-- the sum over all lines of what each request counts
abbrev pub bytes_together : (Request → ℕ) → List Line → ℕ
bytes_together bytes_in [] = 0
bytes_together bytes_in (line ∷ lines) = bytes_in line.request + bytes_together bytes_in lines

-- why bytes spell no script
pub data Refusal : Type 0 where
  Bad : ℕ → ScriptCause → Refusal
  TooLong : What → Refusal

abbrev pub with_sums_checked : Result (List Line) BadLine → Result (List Line) Refusal
with_sums_checked (Err bad) = Err (Bad bad.line bad.cause)
with_sums_checked (Ok lines) =
    if nat_lt max_read_bytes (bytes_together count_in lines) then Err (TooLong Reads)
    else (if nat_lt max_given_bytes (bytes_together given_in lines) then Err (TooLong Stored) else Ok lines)

-- the count of lines is looked at first, then each line, and then the reads and the data together
abbrev pub script_of : List ℕ → Result (List Line) Refusal
script_of bytes = if nat_lt max_lines (length (lines_of bytes)) then Err (TooLong Lines) else with_sums_checked (script_from 1 (lines_of bytes))
