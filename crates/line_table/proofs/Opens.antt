-- The first line without a reply: where it stands after a change, and what is due there.
use Rattle.std.proofs.Common.{◌≡◌, ℕ, zero, suc, ◌+◌, ◌<◌, ◌≤◌, List, [], ◌∷◌, length, true, false, ◌==◌, Option, Some, None, MatchOption, IsTrue, ◌↔◌, slice_get, refl, sym, ap, subst, ◌∙◌, arith, inl, inr, add-one}
use Rattle.std.specs.List.{AllByRecursion}
use Rattle.std.proofs.lemmas.Bool.{eq-eqb, eqb-true}
use Rattle.std.proofs.lemmas.Bool.Decides.{nat_tests, eqb_tells}
use Rattle.mount_model.specs.declared.standing.Heard.{Heard}
use Rattle.mount_model.specs.declared.standing.Told.{Told}
use Rattle.mount_model.specs.Heard.{nothing_heard}
use Rattle.mount_model.specs.declared.request.Request.{Request}
use Rattle.mount_model.specs.declared.request.Request.TheVariants as request
use Rattle.mount_model.specs.declared.request.Reply.TheVariants as reply
use Rattle.mount_model.specs.declared.request.Line.{Line}
use Rattle.mount_model.specs.declared.standing.Phase.{Phase}
use Rattle.mount_model.specs.declared.standing.Phase.TheVariants.{Waiting, Begun, Replied}
use Rattle.mount_model.specs.declared.standing.Standing.{Standing}
use Rattle.mount_model.specs.State.{change_line, heard}
use Rattle.mount_model.specs.Run.{is_among, startable_from, due_awaits}
use Rattle.line_table.specs.Table.{HasBegun, RisingBy, busy_after, open_place, awaited}
use Rattle.line_table.proofs.Searches.{change_here, change_there, above_at}
use Rattle.line_table.proofs.Starts.{number_of, rephrase, change_cases, starts_here, among_below}

abbrev pub open_head : Phase → ℕ → ℕ
open_head Waiting m = 0
open_head (Begun before) m = 0
open_head Replied m = m + 1

head_is : (line : Line) (p : Phase) (lines : List Standing) → open_place (record { line = line; phase = p } ∷ lines) ≡ open_head p (open_place lines)
head_is line Waiting lines = refl
head_is line (Begun before) lines = refl
head_is line Replied lines = refl

open_step : (s : Standing) (lines : List Standing) → open_place (s ∷ lines) ≡ open_head s.phase (open_place lines)
open_step s lines = head_is s.line s.phase lines

-- going down to it

head_le : (p : Phase) (m k : ℕ) → m ≤ k → open_head p m ≤ k + 1
head_le Waiting m k le = omega arith
head_le (Begun before) m k le = omega arith
head_le Replied m k le = omega arith

pub open_le : (lines : List Standing) → open_place lines ≤ length lines
open_le [] = omega arith
open_le (s ∷ lines) = rw (open_step s lines) (omega (arith, head_le s.phase (open_place lines) (length lines) (open_le lines)))

head_past : (p : Phase) (m i : ℕ) → suc i ≤ open_head p m → (p ≡ Replied) × (i ≤ m)
head_past Waiting m i le = absurd (omega arith)
head_past (Begun before) m i le = absurd (omega arith)
head_past Replied m i le = (refl, omega arith)

pub open_more : (lines : List Standing) (i : ℕ) (s : Standing) → i ≤ open_place lines → slice_get lines i ≡ Some s → s.phase ≡ Replied → i + 1 ≤ open_place lines
open_more [] i s le stands replied = absurd (cc)
open_more (x ∷ lines) zero s le stands replied =
    let same : x ≡ s = cc in
    rw (open_step x lines, ap (λ (t : Standing). t.phase) same ∙ replied) (omega arith)
open_more (x ∷ lines) (suc i) s le stands replied =
    let past = head_past x.phase (open_place lines) i (rw (open_step x lines) at le) in
    rw (open_step x lines, past.0) (omega (arith, open_more lines i s past.1 stands replied))

not_open : (p : Phase) (m : ℕ) → (p ≡ Replied → ⊥) → open_head p m ≡ 0
not_open Waiting m no_way = refl
not_open (Begun before) m no_way = refl
not_open Replied m no_way = absurd (no_way refl)

pub open_here : (lines : List Standing) (i : ℕ) (s : Standing) → i ≤ open_place lines → slice_get lines i ≡ Some s → (s.phase ≡ Replied → ⊥) → i ≡ open_place lines
open_here [] i s le stands open_ = absurd (cc)
open_here (x ∷ lines) zero s le stands open_ =
    let same : x ≡ s = cc in
    sym (open_step x lines ∙ not_open x.phase (open_place lines) (λ is. open_ (ap (λ (t : Standing). t.phase) (sym same) ∙ is)))
open_here (x ∷ lines) (suc i) s le stands open_ =
    let past = head_past x.phase (open_place lines) i (rw (open_step x lines) at le) in
    rw (open_step x lines, past.0) (omega (arith, open_here lines i s past.1 stands open_))

-- after a change

pub begin_open : (n above : ℕ) (busy : List ℕ) (lines : List Standing) → RisingBy number_of above lines → is_among n (startable_from busy lines) ≡ true → open_place (change_line n (λ phase. Begun nothing_heard) lines) ≡ open_place lines
begin_open n above busy [] rising among = refl
begin_open n above busy (s ∷ lines) rising among =
    let below = begin_open n s.line.number (busy_after s.line.actor s.phase busy) lines rising.1 in
    elim (eqb_tells s.line.number n) [
      | inl same ↦
          let waits = (starts_here busy s lines rising.1 (rw (← same.1) at among)).waits in
          ap open_place (change_here number_of n (rephrase (λ phase. Begun nothing_heard)) s lines same.1 rising.1) ∙ sym (open_step s lines ∙ (rw waits))
      | inr differs ↦
          ap open_place (change_there number_of n (rephrase (λ phase. Begun nothing_heard)) s lines differs.0)
          ∙ open_step s (change_line n (λ phase. Begun nothing_heard) lines)
          ∙ ap (open_head s.phase) (below (among_below n busy s lines differs.0 among))
          ∙ sym (open_step s lines)
    ]

head_hears : (told : Told) (p : Phase) (m : ℕ) → open_head (heard told p) m ≡ open_head p m
head_hears told Waiting m = refl
head_hears told (Begun before) m = refl
head_hears told Replied m = refl

pub hear_open : (n : ℕ) (told : Told) (lines : List Standing) → open_place (change_line n (heard told) lines) ≡ open_place lines
hear_open n told [] = refl
hear_open n told (s ∷ lines) =
    let below = hear_open n told lines in
    let changed = change_line n (heard told) lines in
    change_cases (λ xs. open_place xs ≡ open_place (s ∷ lines)) n (heard told) s lines
    (open_step (rephrase (heard told) s) changed ∙ head_hears told s.phase (open_place changed) ∙ (rw below) ∙ sym (open_step s lines))
    (open_step s changed ∙ (rw below) ∙ sym (open_step s lines))

head_more : (p : Phase) (m k : ℕ) → m ≤ k → (open_head p m ≤ k + 1) × (open_head p m ≤ open_head p k)
head_more Waiting m k le = (omega arith, omega arith)
head_more (Begun before) m k le = (omega arith, omega arith)
head_more Replied m k le = (omega arith, omega arith)

-- a reply moves it on
pub reply_open : (n : ℕ) (lines : List Standing) → open_place lines ≤ open_place (change_line n (λ phase. Replied) lines)
reply_open n [] = omega arith
reply_open n (s ∷ lines) =
    let changed = change_line n (λ phase. Replied) lines in
    let more = head_more s.phase (open_place lines) (open_place changed) (reply_open n lines) in
    change_cases (λ xs. open_place (s ∷ lines) ≤ open_place xs) n (λ phase. Replied) s lines
    (rw (open_step s lines) more.0)
    (rw (open_step s lines, open_step s changed) more.1)

-- all lines have their replies where it stands past them

all_head : (p : Phase) (m k : ℕ) → m ≤ k → open_head p m ≡ k + 1 → (p ≡ Replied) × (m ≡ k)
all_head Waiting m k le is = absurd (omega arith)
all_head (Begun before) m k le is = absurd (omega arith)
all_head Replied m k le is = (refl, omega arith)

pub all_replied-from_open : (lines : List Standing) → open_place lines ≡ length lines → AllByRecursion (λ s. s.phase ≡ Replied) lines
all_replied-from_open [] is = tt
all_replied-from_open (s ∷ lines) is =
    let head = all_head s.phase (open_place lines) (length lines) (open_le lines) (sym (open_step s lines) ∙ is ∙ omega arith) in
    (head.0, all_replied-from_open lines head.1)

pub open-from_all_replied : (lines : List Standing) → AllByRecursion (λ s. s.phase ≡ Replied) lines → open_place lines ≡ length lines
open-from_all_replied [] all = refl
open-from_all_replied (s ∷ lines) all = open_step s lines ∙ (rw (all.0, open-from_all_replied lines all.1) (omega arith))

pub replied_iff_past : (lines : List Standing) (place len : ℕ) → place ≡ open_place lines → len ≡ length lines → IsTrue (place == len) ↔ AllByRecursion (λ s. s.phase ≡ Replied) lines
replied_iff_past lines place len is size = (λ past. all_replied-from_open lines (sym is ∙ eqb-true place len past ∙ size), λ all. eq-eqb place len (is ∙ open-from_all_replied lines all ∙ sym size))

-- what is due

due_replied : (line : Line) (p : Phase) (lines : List Standing) → p ≡ Replied → due_awaits (record { line = line; phase = p } ∷ lines) ≡ due_awaits lines
due_replied line p lines replied = rw replied

due_past : (line : Line) (p : Phase) (lines : List Standing) → (slice_get lines (open_place lines) ≡ None → due_awaits lines ≡ []) → slice_get (record { line = line; phase = p } ∷ lines) (open_place (record { line = line; phase = p } ∷ lines)) ≡ None → due_awaits (record { line = line; phase = p } ∷ lines) ≡ []
due_past line Waiting lines below none = refl
due_past line (Begun before) lines below none = absurd (cc)
due_past line Replied lines below none = below (rw add-one at none)

-- nothing where all lines have their replies
pub due_none : (lines : List Standing) → slice_get lines (open_place lines) ≡ None → due_awaits lines ≡ []
due_none [] none = refl
due_none (s ∷ lines) none = due_past s.line s.phase lines (due_none lines) none

-- the await that is first, and those behind it
pub record IsDue (n : ℕ) (lines : List Standing) : Type 0 where
  pub due : due_awaits lines ≡ record { line = n; reply = reply.Success } ∷ due_awaits (change_line n (λ phase. Replied) lines)
  pub has_begun : HasBegun n lines

abbrev pub DueAt : Option ℕ → List Standing → Type 0
DueAt first lines = MatchOption first (due_awaits lines ≡ []) (λ n. IsDue n lines)

due_here : (number actor : ℕ) (request : Request) (p : Phase) (lines : List Standing) → RisingBy number_of number lines → (p ≡ Replied → ⊥) → DueAt (awaited (record { line = record { number = number; actor = actor; request = request }; phase = p })) (record { line = record { number = number; actor = actor; request = request }; phase = p } ∷ lines)
due_here number actor request Waiting lines rising open_ = refl
due_here number actor (request.Put key content) (Begun before) lines rising open_ = refl
due_here number actor request.Await (Begun before) lines rising open_ =
    let s : Standing = record { line = record { number = number; actor = actor; request = request.Await }; phase = Begun before } in
    record {
      due = ap (λ xs. record { line = number; reply = reply.Success } ∷ due_awaits xs) (sym (change_here number_of number (rephrase (λ phase. Replied)) s lines refl rising));
      has_begun = record { standing = s; stands = rw (eq-eqb number number refl) refl; heard = before; phase = refl };
    }
due_here number actor (request.Stat path) (Begun before) lines rising open_ = refl
due_here number actor (request.List path) (Begun before) lines rising open_ = refl
due_here number actor (request.OpenRead name path) (Begun before) lines rising open_ = refl
due_here number actor (request.OpenWrite name path) (Begun before) lines rising open_ = refl
due_here number actor (request.OpenTruncate name path) (Begun before) lines rising open_ = refl
due_here number actor (request.Read name offset count) (Begun before) lines rising open_ = refl
due_here number actor (request.Write name offset content) (Begun before) lines rising open_ = refl
due_here number actor (request.Sync name) (Begun before) lines rising open_ = refl
due_here number actor (request.Close name) (Begun before) lines rising open_ = refl
due_here number actor (request.Delete key) (Begun before) lines rising open_ = refl
due_here number actor (request.MakeDir path) (Begun before) lines rising open_ = refl
due_here number actor (request.RemoveDir path) (Begun before) lines rising open_ = refl
due_here number actor (request.Unlink path) (Begun before) lines rising open_ = refl
due_here number actor request Replied lines rising open_ = absurd (open_ refl)

awaited_is : (s : Standing) (n : ℕ) → awaited s ≡ Some n → s.line.number ≡ n
awaited_is s n is = by_phase s.phase is
  where
    of_await : (before : Heard) (q : Request) → awaited (record { line = record { number = s.line.number; actor = s.line.actor; request = q }; phase = Begun before }) ≡ Some n → s.line.number ≡ n
    of_await before (request.Put key content) is = absurd (cc)
    of_await before request.Await is = cc
    of_await before (request.Stat path) is = absurd (cc)
    of_await before (request.List path) is = absurd (cc)
    of_await before (request.OpenRead name path) is = absurd (cc)
    of_await before (request.OpenWrite name path) is = absurd (cc)
    of_await before (request.OpenTruncate name path) is = absurd (cc)
    of_await before (request.Read name offset count) is = absurd (cc)
    of_await before (request.Write name offset content) is = absurd (cc)
    of_await before (request.Sync name) is = absurd (cc)
    of_await before (request.Close name) is = absurd (cc)
    of_await before (request.Delete key) is = absurd (cc)
    of_await before (request.MakeDir path) is = absurd (cc)
    of_await before (request.RemoveDir path) is = absurd (cc)
    of_await before (request.Unlink path) is = absurd (cc)

    by_phase : (p : Phase) → awaited (record { line = s.line; phase = p }) ≡ Some n → s.line.number ≡ n
    by_phase Waiting is = absurd (cc)
    by_phase (Begun before) is = of_await before s.line.request is
    by_phase Replied is = absurd (cc)

below_due : (n : ℕ) (x : Standing) (lines : List Standing) → x.phase ≡ Replied → (x.line.number == n) ≡ false → IsDue n lines → IsDue n (x ∷ lines)
below_due n x lines replied differs is = record {
  due = due_replied x.line x.phase lines replied ∙ is.due ∙ ap (λ xs. record { line = n; reply = reply.Success } ∷ xs) (sym (ap due_awaits (change_there number_of n (rephrase (λ phase. Replied)) x lines differs) ∙ due_replied x.line x.phase (change_line n (λ phase. Replied) lines) replied));
  has_begun = record { standing = is.has_begun.standing; stands = rw differs is.has_begun.stands; heard = is.has_begun.heard; phase = is.has_begun.phase };
}

due_below : (first : Option ℕ) (x : Standing) (lines : List Standing) → x.phase ≡ Replied → ((n : ℕ) → first ≡ Some n → (x.line.number == n) ≡ false) → DueAt first lines → DueAt first (x ∷ lines)
due_below None x lines replied differs due = due_replied x.line x.phase lines replied ∙ due
due_below (Some n) x lines replied differs due = below_due n x lines replied (differs n refl) due

-- the first line without a reply is due where it is an await that has begun
pub due_first : (above : ℕ) (lines : List Standing) (s : Standing) → RisingBy number_of above lines → slice_get lines (open_place lines) ≡ Some s → DueAt (awaited s) lines
due_first above [] s rising stands = absurd (cc)
due_first above (x ∷ lines) s rising stands = by_phase x.phase refl (λ below. due_first x.line.number lines s rising.1 below)
  where
    here : (x.phase ≡ Replied → ⊥) → DueAt (awaited s) (x ∷ lines)
    here open_ =
        let first : slice_get (x ∷ lines) 0 ≡ Some s = rw (open_step x lines, not_open x.phase (open_place lines) open_) at stands in
        let same : x ≡ s = cc in
        subst (λ (t : Standing). DueAt (awaited t) (x ∷ lines)) same (due_here x.line.number x.line.actor x.line.request x.phase lines rising.1 open_)

    there : x.phase ≡ Replied → slice_get lines (open_place lines) ≡ Some s → (slice_get lines (open_place lines) ≡ Some s → DueAt (awaited s) lines) → DueAt (awaited s) (x ∷ lines)
    there replied below due =
        let lower : x.line.number < s.line.number = above_at number_of x.line.number lines rising.1 (open_place lines) s below in
        due_below (awaited s) x lines replied (λ n is. let equal = awaited_is s n is in grind (arith, nat_tests)) (due below)

    by_phase : (p : Phase) → x.phase ≡ p → (slice_get lines (open_place lines) ≡ Some s → DueAt (awaited s) lines) → DueAt (awaited s) (x ∷ lines)
    by_phase Waiting is below = here (λ replied. absurd (cc (is, replied)))
    by_phase (Begun before) is below = here (λ replied. absurd (cc (is, replied)))
    by_phase Replied is below = there is (rw (open_step x lines, is, add-one) at stands) below

-- as a pair
pub due_pair : (first : Option ℕ) (lines : List Standing) → DueAt first lines → MatchOption first (due_awaits lines ≡ []) (λ n. (due_awaits lines ≡ record { line = n; reply = reply.Success } ∷ due_awaits (change_line n (λ phase. Replied) lines)) × HasBegun n lines)
due_pair None lines due = due
due_pair (Some n) lines due = (due.due, due.has_begun)
