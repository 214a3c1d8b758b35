-- What holds of an upload by its rules, and what its calls have to do with it.
use Rattle.std.specs.Prelude.{◌≡◌, ◌≢◌, ℕ, ◌+◌, ◌-◌, ◌*◌, ◌≤◌, length, true, ◌==◌, if◌then◌else◌, ◌⊎◌}
use Rattle.bucket_model.specs.Answers.{max_parts}
use Rattle.upload_rules.specs.declared.upload.UpState.{UpState}
use Rattle.upload_rules.specs.declared.upload.UpState.TheVariants.{Open, Finished, Done, Failed}
use Rattle.upload_rules.specs.declared.upload.Created.{Created}
use Rattle.upload_rules.specs.declared.upload.Created.TheVariants.{NotAsked, Asked, GivenUp}
use Rattle.upload_rules.specs.Upload.{Upload}

-- bytes are within the limit, and where a part is still to come, each one before it was full
pub record IsUpload (u : Upload) : Type 0 where
  pub part_low : 1 ≤ u.part
  pub fits : u.sent + length u.rest ≤ u.part * max_parts
  pub place : (u.state ≡ Open) ⊎ (1 ≤ length u.rest) → u.sent ≡ u.asked * u.part

-- how many calls of each kind an upload has asked for, and how many of them aren't back
pub record Tally : Type 0 where
  pub creates : ℕ
  pub parts : ℕ
  pub completes : ℕ
  pub aborts : ℕ
  pub creates_out : ℕ
  pub parts_out : ℕ
  pub completes_out : ℕ
  pub aborts_out : ℕ

abbrev pub if_asked : Created → ℕ
if_asked NotAsked = 0
if_asked other = 1

abbrev pub if_awaited : Created → ℕ
if_awaited Asked = 1
if_awaited other = 0

-- parts are asked for once the upload's id is known
abbrev pub MayHaveParts : Created → ℕ → Type 0
MayHaveParts NotAsked asked = asked ≡ 0
MayHaveParts Asked asked = asked ≡ 0
MayHaveParts other asked = Unit {0}

-- while it is under way
pub record IsGoing (u : Upload) (t : Tally) : Type 0 where
  pub kept : u.created ≢ GivenUp
  pub first : MayHaveParts u.created u.asked
  pub creates : t.creates ≡ if_asked u.created
  pub creates_out : t.creates_out ≡ if_awaited u.created
  pub parts_out : u.stored + t.parts_out ≡ u.asked
  pub completes_out : t.completes_out ≡ t.completes
  pub aborts : t.aborts ≡ 0
  pub aborts_out : t.aborts_out ≡ 0

-- the object was asked for: all parts are stored, and nothing is left for one
pub record IsCompleting (u : Upload) (t : Tally) : Type 0 where
  pub completes : t.completes ≡ 1
  pub asked_for : if_asked u.created ≡ 1
  pub created : if_awaited u.created ≡ 0
  pub stored : u.stored ≡ u.asked
  pub none_left : length u.rest ≡ 0
  pub some_part : 1 ≤ u.asked

-- it was given up or is being given up
pub record IsGivenUp (u : Upload) (t : Tally) : Type 0 where
  pub aborts : t.aborts ≡ 1
  pub closing : u.closing ≡ true
  pub back : ((t.aborts_out ≡ 1) × (u.pending ≡ 1)) ⊎ ((t.aborts_out ≡ 0) × (u.pending ≡ 0) × (u.created ≡ GivenUp))

-- the object was made
pub record IsSpent (u : Upload) (t : Tally) : Type 0 where
  pub creates : t.creates ≤ 1
  pub completes : t.completes ≤ 1
  pub aborts : t.aborts ≡ 0
  pub pending : u.pending ≡ 0

-- it has failed: its id isn't awaited any more, and no part is stored that wasn't asked for
pub record IsBroken (u : Upload) (t : Tally) : Type 0 where
  pub creates : t.creates ≤ 1
  pub creates_out : t.creates_out ≡ 0
  pub stored : u.stored + t.parts_out ≤ u.asked
  pub completes : t.completes ≤ 1
  pub completes_out : t.completes_out ≡ 0
  pub aborts : ((t.aborts ≡ 0) × (t.aborts_out ≡ 0)) ⊎ IsGivenUp u t

abbrev pub IsTalliedIn : UpState → Upload → Tally → Type 0
IsTalliedIn Open u t = IsGoing u t × (t.completes ≡ 0)
IsTalliedIn Finished u t = IsGoing u t × ((t.completes ≡ 0) ⊎ IsCompleting u t)
IsTalliedIn Done u t = IsSpent u t
IsTalliedIn (Failed errno) u t = IsBroken u t

-- the upload has asked for so many calls, and these aren't back
pub record IsTallied (u : Upload) (t : Tally) : Type 0 where
  pub parts : t.parts ≡ u.asked
  pub pending : u.pending ≡ t.creates_out + t.parts_out + t.completes_out + t.aborts_out
  pub by_state : IsTalliedIn u.state u t

-- the most calls that an upload may still ask for without further bytes: those that it asks for once, and a part for
-- each byte, or one of none
abbrev pub calls_left_of : Upload → Tally → ℕ
calls_left_of u t = (1 - t.creates) + (1 - t.completes) + (1 - t.aborts) + length u.rest + (if u.asked == 0 then 1 else 0)
