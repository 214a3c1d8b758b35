-- The text of a record.
use Rattle.std.specs.Prelude.{ℕ, ◌+◌, ◌/◌, ◌%◌, List, [], ◌∷◌, ◌++◌, length, flat_map, nat_lt, if◌then◌else◌, codes, decimal}
use Rattle.hex.specs.Hex.{encode_lower}
use Rattle.mp_types.specs.declared.errno.Errno.{Errno}
use Rattle.mp_types.specs.declared.errno.Errno.TheVariants.{Eperm, Enoent, Eio, Ebadf, Enomem, Eexist, Enotdir, Eisdir, Einval, Emfile, Efbig, Enametoolong, Enotempty, Eoverflow, Estale}
use Rattle.mp_rules.specs.declared.entry.DirEntry.{DirEntry}
use Rattle.mp_rules.specs.declared.entry.DirEntry.TheVariants as entry
use Rattle.mp_types.specs.Plain.{is_plain}
use Rattle.bucket_model.specs.declared.answer.Brief.{Brief}
use Rattle.bucket_model.specs.declared.answer.Brief.TheVariants as answer
use Rattle.bucket_model.specs.declared.page.Page.{Page}
use Rattle.bucket_model.specs.declared.page.PageItem.{PageItem}
use Rattle.bucket_model.specs.declared.page.PageItem.TheVariants as item
use Rattle.mount_model.specs.declared.request.Reply.{Reply}
use Rattle.mount_model.specs.declared.request.Reply.TheVariants as reply
use Rattle.mount_model.specs.declared.event.Event.{Event}
use Rattle.mount_model.specs.declared.event.Event.TheVariants.{Begin, Take, Done}
use Rattle.mount_model.specs.declared.event.Owner.{Owner}
use Rattle.mount_model.specs.declared.event.Owner.TheVariants as owner
use Rattle.mount_model.specs.declared.event.AskedCall.{AskedCall}
use Rattle.mount_model.specs.declared.event.AskedCall.TheVariants as asked
use Rattle.mount_model.specs.declared.event.Ask.{Ask}
use Rattle.mount_model.specs.declared.event.Answered.{Answered}
use Rattle.mount_model.specs.Step.{Step}

-- a digit in upper-case hexadecimal
abbrev pub hex_digit : ℕ → ℕ
hex_digit n = if nat_lt n 10 then 48 + n else 55 + n

abbrev pub escaped_byte : ℕ → List ℕ
escaped_byte byte = if is_plain byte then byte ∷ [] else 37 ∷ hex_digit (byte / 16) ∷ hex_digit (byte % 16) ∷ []

-- the empty text is a single `%`
abbrev pub escaped : List ℕ → List ℕ
escaped [] = 37 ∷ []
escaped (byte ∷ bytes) = escaped_byte byte ++ flat_map escaped_byte bytes

-- an object with its size and its ETag, or a common prefix
abbrev pub item_text : PageItem → List ℕ
item_text (item.Object key etag size) = codes " o:" ++ (decimal size ++ (codes ":" ++ (etag ++ (codes ":" ++ escaped key))))
item_text (item.Prefix text) = codes " p:" ++ escaped text

-- whether there are more items behind these, how many these are, and each of them
abbrev pub page_text : Page → List ℕ
page_text page = (if page.more then codes "more " else codes "last ") ++ (decimal (length page.items) ++ flat_map item_text page.items)

abbrev pub answer_text : Brief → List ℕ
answer_text (answer.Found etag size) = codes "found " ++ (etag ++ (codes " " ++ decimal size))
answer_text answer.Missing = codes "missing"
answer_text answer.Yes = codes "yes"
answer_text answer.No = codes "no"
answer_text (answer.Page page) = codes "page " ++ page_text page
answer_text (answer.Bytes count) = codes "bytes " ++ decimal count
answer_text answer.Changed = codes "changed"
answer_text answer.Gone = codes "gone"
answer_text (answer.Made etag) = codes "made " ++ etag
answer_text (answer.Upload upload) = codes "upload " ++ decimal upload
answer_text answer.Stored = codes "stored"
answer_text answer.NoUpload = codes "noupload"
answer_text answer.Fault = codes "fault"
answer_text answer.NoMemory = codes "nomemory"

abbrev pub event_text : Event → List ℕ
event_text (Begin line time) = codes "B " ++ (decimal line ++ (codes " " ++ (decimal time ++ codes "\n")))
event_text (Take job time from) = codes "T " ++ (decimal job ++ (codes " " ++ (decimal time ++ (codes " " ++ (decimal from ++ codes "\n")))))
event_text (Done job position brief) = codes "D " ++ (decimal job ++ (codes " " ++ (decimal position ++ (codes " " ++ (answer_text brief ++ codes "\n")))))

abbrev pub drop_text : ℕ → List ℕ
drop_text job = codes "X " ++ (decimal job ++ codes "\n")

abbrev pub owner_text : Owner → List ℕ
owner_text (owner.Line number) = codes "L" ++ decimal number
owner_text (owner.Stream number) = codes "S" ++ decimal number
owner_text (owner.Writer number) = codes "W" ++ decimal number

abbrev pub call_text : AskedCall → List ℕ
call_text (asked.Head key) = codes "head " ++ escaped key
call_text (asked.Probe key) = codes "probe " ++ escaped key
call_text (asked.List prefix after max) = codes "list " ++ (escaped prefix ++ (codes " " ++ (escaped after ++ (codes " " ++ decimal max))))
call_text (asked.Get key etag from to) = codes "get " ++ (escaped key ++ (codes " " ++ (etag ++ (codes " " ++ (decimal from ++ (codes " " ++ decimal to))))))
call_text (asked.Delete key) = codes "delete " ++ escaped key
call_text (asked.Put key size) = codes "put " ++ (escaped key ++ (codes " " ++ decimal size))
call_text (asked.Create key) = codes "create " ++ escaped key
call_text (asked.Part upload number from to) = codes "part " ++ (decimal upload ++ (codes " " ++ (decimal number ++ (codes " " ++ (decimal from ++ (codes " " ++ decimal to))))))
call_text (asked.Complete upload parts) = codes "complete " ++ (decimal upload ++ (codes " " ++ decimal parts))
call_text (asked.Abort upload) = codes "abort " ++ decimal upload

abbrev pub ask_text : Ask → List ℕ
ask_text ask = codes "A " ++ (decimal ask.job ++ (codes " " ++ (owner_text ask.owner ++ (codes " " ++ (call_text ask.call ++ codes "\n")))))

abbrev pub errno_text : Errno → List ℕ
errno_text Eperm = codes "EPERM"
errno_text Enoent = codes "ENOENT"
errno_text Eio = codes "EIO"
errno_text Ebadf = codes "EBADF"
errno_text Enomem = codes "ENOMEM"
errno_text Eexist = codes "EEXIST"
errno_text Enotdir = codes "ENOTDIR"
errno_text Eisdir = codes "EISDIR"
errno_text Einval = codes "EINVAL"
errno_text Emfile = codes "EMFILE"
errno_text Efbig = codes "EFBIG"
errno_text Enametoolong = codes "ENAMETOOLONG"
errno_text Enotempty = codes "ENOTEMPTY"
errno_text Eoverflow = codes "EOVERFLOW"
errno_text Estale = codes "ESTALE"

-- an entry of a listing, behind a space
abbrev pub entry_text : DirEntry → List ℕ
entry_text (entry.Dir name) = codes " d:" ++ escaped name
entry_text (entry.Remote size name) = codes " f:" ++ (decimal size ++ (codes ":" ++ escaped name))
entry_text (entry.Writing size name) = codes " w:" ++ (decimal size ++ (codes ":" ++ escaped name))

abbrev pub said_text : Reply → List ℕ
said_text (reply.Made etag) = codes "made " ++ etag
said_text reply.Success = codes "ok"
said_text reply.Directory = codes "dir"
said_text (reply.File size) = codes "file " ++ decimal size
said_text (reply.Writing size) = codes "writing " ++ decimal size
said_text (reply.Listed entries) = codes "list " ++ (decimal (length entries) ++ flat_map entry_text entries)
said_text (reply.Open size) = codes "open " ++ decimal size
said_text (reply.Wrote length) = codes "wrote " ++ decimal length
said_text (reply.Data bytes) = codes "data x" ++ encode_lower bytes
said_text reply.Gone = codes "gone"
said_text (reply.Failed errno) = codes "err " ++ errno_text errno

abbrev pub reply_text : Answered → List ℕ
reply_text answered = codes "R " ++ (decimal answered.line ++ (codes " " ++ (said_text answered.reply ++ codes "\n")))

-- the event, then what it drops, asks and replies
abbrev pub step_text : Step → List ℕ
step_text step = event_text step.event ++ (flat_map drop_text step.drops ++ (flat_map ask_text step.asks ++ flat_map reply_text step.replies))

abbrev pub record_text : List Step → List ℕ
record_text steps = flat_map step_text steps
