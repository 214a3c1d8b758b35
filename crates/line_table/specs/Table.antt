-- What a table of lines keeps beside the lines: who follows whom, which may start, and the first without a reply.
use Rattle.std.specs.Prelude.{◌≡◌, ℕ, ◌+◌, ◌<◌, ◌≤◌, List, [], ◌∷◌, map, true, ◌==◌, if◌then◌else◌, Option, Some, None, length, nat_lt}
use Rattle.mount_model.specs.declared.standing.Heard.{Heard}
use Rattle.mount_model.specs.declared.request.Request.{Request}
use Rattle.mount_model.specs.declared.request.Request.TheVariants as request
use Rattle.mount_model.specs.declared.request.Line.{Line}
use Rattle.mount_model.specs.declared.standing.Phase.{Phase}
use Rattle.mount_model.specs.declared.standing.Phase.TheVariants.{Waiting, Begun, Replied}
use Rattle.mount_model.specs.declared.standing.Standing.{Standing}
use Rattle.mount_model.specs.State.{line_at}
use Rattle.mount_model.specs.Run.{is_among, startable, AreRising}
use Rattle.std.specs.Prelude.{slice_get}

-- the line of this number has begun
pub record HasBegun (number : ℕ) (lines : List Standing) : Type 0 where
  pub standing : Standing
  pub stands : line_at number lines ≡ Some standing
  pub heard : Heard
  pub phase : standing.phase ≡ Begun heard

-- the script whose lines these are
abbrev pub script_of : List Standing → List Line
script_of lines = map (λ s. s.line) lines

-- a line before it begins
abbrev pub waiting : Line → Standing
waiting line = record { line = line; phase = Waiting }

-- the line of this number stands at place i
pub record StandsAt (number : ℕ) (lines : List Standing) (i : ℕ) : Type 0 where
  pub standing : Standing
  pub stands : slice_get lines i ≡ Some standing
  pub has_number : standing.line.number ≡ number

-- the number of an actor's first line
abbrev pub first_of : ℕ → List Line → Option ℕ
first_of actor [] = None
first_of actor (line ∷ lines) = if line.actor == actor then Some line.number else first_of actor lines

-- for each line the number of the next line of its actor
abbrev pub followers_of : List Line → List (Option ℕ)
followers_of [] = []
followers_of (line ∷ lines) = first_of line.actor lines ∷ followers_of lines

-- values whose keys rise, all above a number
abbrev pub RisingBy : {X : Type 0} → (X → ℕ) → ℕ → List X → Type 0
RisingBy key above [] = Unit {0}
RisingBy key above (x ∷ xs) = (above < key x) × RisingBy key (key x) xs

abbrev pub AreAbove : ℕ → List ℕ → Type 0
AreAbove above numbers = RisingBy (λ n. n) above numbers

-- a number at its place among rising numbers; once is enough
abbrev pub put_in : ℕ → List ℕ → List ℕ
put_in n [] = n ∷ []
put_in n (m ∷ numbers) = if n == m then m ∷ numbers else (if nat_lt n m then n ∷ m ∷ numbers else m ∷ put_in n numbers)

abbrev pub with_follower : Option ℕ → List ℕ → List ℕ
with_follower None numbers = numbers
with_follower (Some n) numbers = put_in n numbers

-- the actors that are busy below a line: each with a line above that has no reply
abbrev pub busy_after : ℕ → Phase → List ℕ → List ℕ
busy_after actor Waiting busy = actor ∷ busy
busy_after actor (Begun heard) busy = actor ∷ busy
busy_after actor Replied busy = busy

-- each actor does one thing at a time: a line of a busy actor waits
abbrev pub OneEach : List ℕ → List Standing → Type 0
OneEach busy [] = Unit {0}
OneEach busy (s ∷ lines) = (is_among s.line.actor busy ≡ true → s.phase ≡ Waiting) × OneEach (busy_after s.line.actor s.phase busy) lines

-- the place of the first line without a reply
abbrev pub open_place : List Standing → ℕ
open_place [] = 0
open_place (s ∷ lines) = by_phase s.phase (open_place lines)
  where
    by_phase : Phase → ℕ → ℕ
    by_phase Waiting more = 0
    by_phase (Begun heard) more = 0
    by_phase Replied more = more + 1

-- the number of a line that is an await and has begun
abbrev pub awaited : Standing → Option ℕ
awaited s = by_phase s.phase
  where
    by_phase : Phase → Option ℕ
    by_phase (Begun heard) = by_request s.line.request
      where
        by_request : Request → Option ℕ
        by_request request.Await = Some s.line.number
        by_request other = None
    by_phase other = None

-- what a table keeps true of its parts
pub record IsTable (lines : List Standing) (followers : List (Option ℕ)) (numbers : List ℕ) (room first_open : ℕ) : Type 0 where
  pub rising : AreRising 0 (script_of lines)
  pub one_each : OneEach [] lines
  pub follow : followers ≡ followers_of (script_of lines)
  pub may_start : numbers ≡ startable lines
  pub has_room : length lines ≤ room
  pub from_open : first_open ≡ open_place lines
