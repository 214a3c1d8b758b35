-- One upload: what it holds, what it asks for next, and what its answers change.
use Rattle.std.specs.Prelude.{ℕ, ◌+◌, ◌-◌, List, [], ◌++◌, length, take, drop, nat_le, ◌==◌, ◌&&◌, ◌||◌, not, Bool, true, false, if◌then◌else◌, Option, Some, None}
use Rattle.mp_types.specs.declared.errno.Errno.{Errno}
use Rattle.upload_rules.specs.declared.upload.UpState.{UpState}
use Rattle.upload_rules.specs.declared.upload.UpState.TheVariants.{Open, Finished, Done, Failed}
use Rattle.upload_rules.specs.declared.upload.Created.{Created}
use Rattle.upload_rules.specs.declared.upload.Created.TheVariants.{NotAsked, Asked, Known, GivenUp}
use Rattle.upload_rules.specs.declared.upload.UpAsk.{UpAsk}
use Rattle.upload_rules.specs.declared.upload.UpAsk.TheVariants.{Create, Part, Complete, Abort}

-- A writer's bytes go into parts in their order. Parts have so many bytes each, and the last one has what is left.
pub record Upload : Type 0 where
  pub part : ℕ
  pub state : UpState
  pub created : Created
  -- so many parts were asked for, with so many bytes, and so many of them are stored
  pub asked : ℕ
  pub sent : ℕ
  pub stored : ℕ
  -- the bytes behind those
  pub rest : List ℕ
  -- so many calls were asked for and aren't back
  pub pending : ℕ
  -- a close waits
  pub closing : Bool

-- a writer of no bytes
abbrev pub new_upload : ℕ → Upload
new_upload part = record { part = part; state = Open; created = NotAsked; asked = 0; sent = 0; stored = 0; rest = []; pending = 0; closing = false }

-- how many bytes were written
abbrev pub written : Upload → ℕ
written u = u.sent + length u.rest

-- a part is full
abbrev pub is_full : Upload → Bool
is_full u = nat_le u.part (length u.rest)

-- bytes are left for a part; a writer of no bytes has one part of none
abbrev pub has_part : Upload → Bool
has_part u = not (length u.rest == 0) || u.asked == 0

-- the bytes of the next part
abbrev pub next_part : Upload → List ℕ
next_part u = take u.part u.rest

abbrev pub ask_part : Upload → UpAsk
ask_part u = Part (u.asked + 1) u.sent (u.sent + length (next_part u))

-- The upload is asked for when the first part is full. A part is asked for when it is full and the upload's id is known.
abbrev pub due_open : Created → Upload → Option UpAsk
due_open NotAsked u = if is_full u then Some Create else None
due_open Asked u = None
due_open GivenUp u = None
due_open (Known upload) u = if is_full u then Some (ask_part u) else None

-- At the end the last part needn't be full. When all parts are stored, the object is asked for.
abbrev pub due_finished : Created → Upload → Option UpAsk
due_finished NotAsked u = Some Create
due_finished Asked u = None
due_finished GivenUp u = None
due_finished (Known upload) u =
    if has_part u then Some (ask_part u)
    else (if u.stored == u.asked && u.pending == 0 then Some (Complete u.asked) else None)

-- A failed upload is given up when it is closed and all its calls are back.
abbrev pub due_failed : Created → Upload → Option UpAsk
due_failed (Known upload) u = if u.closing && u.pending == 0 then Some Abort else None
due_failed other u = None

-- what the upload asks for next
abbrev pub due : Upload → Option UpAsk
due u = by_state u.state
  where
    by_state : UpState → Option UpAsk
    by_state Open = due_open u.created u
    by_state Finished = due_finished u.created u
    by_state Done = None
    by_state (Failed errno) = due_failed u.created u

-- what was due is asked for
abbrev pub with_ask : UpAsk → Upload → Upload
with_ask Create u = record u { created = Asked; pending = u.pending + 1 }
with_ask (Part number from to) u = record u { asked = u.asked + 1; sent = to; rest = drop (to - from) u.rest; pending = u.pending + 1 }
with_ask other u = record u { pending = u.pending + 1 }

-- what may be due is asked for
abbrev pub with_due : Option UpAsk → Upload → Upload
with_due None u = u
with_due (Some ask) u = with_ask ask u

-- more bytes are written
abbrev pub with_bytes : List ℕ → Upload → Upload
with_bytes bytes u = record u { rest = u.rest ++ bytes }

abbrev pub with_state : UpState → Upload → Upload
with_state state u = record u { state = state }

-- all bytes are written
abbrev pub finished : Upload → Upload
finished u = with_state Finished u

abbrev pub with_closing : Upload → Upload
with_closing u = record u { closing = true }

-- one call is back
abbrev pub with_back : Upload → Upload
with_back u = record u { pending = u.pending - 1 }

-- the upload has this id
abbrev pub with_id : ℕ → Upload → Upload
with_id upload u = with_back (record u { created = Known upload })

-- a part is stored
abbrev pub with_stored : Upload → Upload
with_stored u = with_back (record u { stored = u.stored + 1 })

-- the object was made
abbrev pub completed : Upload → Upload
completed u = with_back (with_state Done u)

-- The first failure decides. What no part was asked for is let go.
abbrev pub fails_with : Errno → Upload → Upload
fails_with errno u = by_state u.state
  where
    by_state : UpState → Upload
    by_state Open = record u { state = Failed errno; rest = [] }
    by_state Finished = record u { state = Failed errno; rest = [] }
    by_state Done = u
    by_state (Failed first) = u

-- a call failed, or was dropped before it was made
abbrev pub with_failure : Errno → Upload → Upload
with_failure errno u = fails_with errno (with_back u)

-- the upload was given up, whatever the bucket answered
abbrev pub given_up : Upload → Upload
given_up u = with_back (record u { created = GivenUp })
