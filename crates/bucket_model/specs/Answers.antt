-- Answers in brief, and which of them a call may get.
use Rattle.std.specs.Prelude.{ℕ, ◌+◌, ◌<◌, ◌≤◌, Bool, true, false, ◌==◌, List, [], length, Option, Some, None}
use Rattle.mp_types.specs.Options.{max_items}
use Rattle.bucket_model.specs.declared.call.Call.{Call}
use Rattle.bucket_model.specs.declared.call.Call.TheVariants as call
use Rattle.bucket_model.specs.declared.call.Call.TheVariants.{Head, Probe, Get, Delete, Put, Create, Part, Complete, Abort}
use Rattle.bucket_model.specs.declared.answer.Answer.{Answer}
use Rattle.bucket_model.specs.declared.answer.Answer.TheVariants as answer
use Rattle.bucket_model.specs.declared.answer.AnswerKind.{AnswerKind}
use Rattle.bucket_model.specs.declared.answer.AnswerKind.TheVariants as kind
use Rattle.bucket_model.specs.declared.answer.Brief.{Brief}
use Rattle.bucket_model.specs.declared.history.Logged.{Logged}
use Rattle.bucket_model.specs.declared.history.Name.{Name}
use Rattle.bucket_model.specs.declared.history.Name.TheVariants as name
use Rattle.bucket_model.specs.Listing.{is_page}
use Rattle.bucket_model.specs.declared.answer.Brief.TheVariants.{Found, Missing, Yes, No, Page, Bytes, Changed, Gone, Made, Upload, Stored, NoUpload, Fault, NoMemory}

-- bytes by their length, all else as it is
abbrev pub brief_of : Answer → Brief
brief_of (answer.Found etag size) = Found etag size
brief_of answer.Missing = Missing
brief_of answer.Yes = Yes
brief_of answer.No = No
brief_of (answer.Page page) = Page page
brief_of (answer.Bytes bytes) = Bytes (length bytes)
brief_of answer.Changed = Changed
brief_of answer.Gone = Gone
brief_of (answer.Made etag) = Made etag
brief_of (answer.Upload upload) = Upload upload
brief_of answer.Stored = Stored
brief_of answer.NoUpload = NoUpload
brief_of answer.Fault = Fault
brief_of answer.NoMemory = NoMemory

-- which variant an answer is, without what it brings
abbrev pub kind_of : Brief → AnswerKind
kind_of (Found etag size) = kind.Found
kind_of Missing = kind.Missing
kind_of Yes = kind.Yes
kind_of No = kind.No
kind_of (Page page) = kind.Page
kind_of (Bytes count) = kind.Bytes
kind_of Changed = kind.Changed
kind_of Gone = kind.Gone
kind_of (Made etag) = kind.Made
kind_of (Upload upload) = kind.Upload
kind_of Stored = kind.Stored
kind_of NoUpload = kind.NoUpload
kind_of Fault = kind.Fault
kind_of NoMemory = kind.NoMemory

abbrev pub brings_page : Answer → Bool
brings_page (answer.Page page) = true
brings_page other = false

-- the bytes that an answer brings
abbrev pub bytes_in : Answer → List ℕ
bytes_in (answer.Bytes bytes) = bytes
bytes_in other = []

-- the name that an answer tells of
abbrev pub made_by : Brief → Option Name
made_by (Made etag) = Some (name.Version etag)
made_by (Upload upload) = Some (name.Upload upload)
made_by other = None

-- the upload that a call names
abbrev pub upload_in : Call → Option ℕ
upload_in (Part upload number bytes) = Some upload
upload_in (Complete upload parts) = Some upload
upload_in (Abort upload) = Some upload
upload_in other = None

-- the entry of a call that took effect: its caller was told the first answer, and the second tells what was made
abbrev pub entry_after : Call → Brief → Brief → Logged
entry_after asked told said = record { entry = record { call = asked; answer = told; took = true }; made = made_by said }

-- an upload has at most so many parts, as Amazon S3 says
abbrev pub max_parts : ℕ
max_parts = 10000

-- a page has room for an item; a range asks for at least one byte; parts have the numbers from 1 on, and an object is made of one at least
abbrev pub MayBeMade : Call → Type 0
MayBeMade (call.List prefix after max) = (1 ≤ max) × (max ≤ max_items)
MayBeMade (Get key etag from to) = from < to
MayBeMade (Part upload number bytes) = (1 ≤ number) × (number ≤ max_parts)
MayBeMade (Complete upload parts) = 1 ≤ parts
MayBeMade other = Unit {0}

-- what fits each kind of call; bytes have the length that was asked for
abbrev pub is_answer_of : Call → Brief → Bool
is_answer_of (Head key) (Found etag size) = true
is_answer_of (Head key) Missing = true
is_answer_of (Probe key) Yes = true
is_answer_of (Probe key) No = true
is_answer_of (call.List prefix after max) (Page page) = is_page prefix after max page
is_answer_of (Get key etag from to) (Bytes count) = from + count == to
is_answer_of (Get key etag from to) Changed = true
is_answer_of (Get key etag from to) Missing = true
is_answer_of (Delete key) Gone = true
is_answer_of (Put key bytes) (Made etag) = true
is_answer_of (Create key) (Upload upload) = true
is_answer_of (Part upload number bytes) Stored = true
is_answer_of (Part upload number bytes) NoUpload = true
is_answer_of (Complete upload parts) (Made etag) = true
is_answer_of (Complete upload parts) NoUpload = true
is_answer_of (Abort upload) Gone = true
is_answer_of (Abort upload) NoUpload = true
is_answer_of called other = false

-- the answer is one of the call's kind, or a failure
abbrev pub fits : Call → Brief → Bool
fits call Fault = true
fits call NoMemory = true
fits call answer = is_answer_of call answer

-- only want of memory leaves no entry in a history
abbrev pub is_counted : Brief → Bool
is_counted NoMemory = false
is_counted other = true
