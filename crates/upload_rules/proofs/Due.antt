-- What it takes that a call is due.
use Rattle.std.proofs.Common.{◌≡◌, ◌≢◌, ℕ, ◌+◌, ◌≤◌, List, length, Bool, true, false, not, ◌&&◌, ◌||◌, ◌==◌, nat_le, if◌then◌else◌, Some, None, ◌⊎◌, inl, inr, refl, subst, arith, eqb-true}
use Rattle.std.proofs.lemmas.Bool.{leb-true, eqb-false}
use Rattle.mp_types.specs.declared.errno.Errno.{Errno}
use Rattle.upload_rules.specs.declared.upload.UpState.{UpState}
use Rattle.upload_rules.specs.declared.upload.UpState.TheVariants.{Open, Finished, Done, Failed}
use Rattle.upload_rules.specs.declared.upload.Created.{Created}
use Rattle.upload_rules.specs.declared.upload.Created.TheVariants.{NotAsked, Asked, Known, GivenUp}
use Rattle.upload_rules.specs.declared.upload.UpAsk.{UpAsk}
use Rattle.upload_rules.specs.declared.upload.UpAsk.TheVariants.{Create, Part, Complete, Abort}
use Rattle.upload_rules.specs.Upload.{Upload, due, has_part, is_full, next_part, ask_part}
use Rattle.upload_rules.specs.Run.{HasFailed}

-- a part is full, or it is the last one
abbrev pub IsFullOrLast : Upload → Type 0
IsFullOrLast u = (u.part ≤ length u.rest) ⊎ ((u.state ≡ Finished) × ((1 ≤ length u.rest) ⊎ (u.asked ≡ 0)))

-- more parts may come
abbrev pub MayGrow : Upload → Type 0
MayGrow u = (u.state ≡ Open) ⊎ (has_part u ≡ true)

pub record IsPartDue (u : Upload) (number from to : ℕ) : Type 0 where
  pub number_is : number ≡ u.asked + 1
  pub from_is : from ≡ u.sent
  pub to_is : to ≡ u.sent + length (next_part u)
  pub alive : HasFailed u → ⊥
  pub asked_for : u.created ≢ NotAsked
  pub grows : MayGrow u
  pub full_or_last : IsFullOrLast u

pub record IsCompleteDue (u : Upload) (parts : ℕ) : Type 0 where
  pub parts_is : parts ≡ u.asked
  pub alive : HasFailed u → ⊥
  pub asked_for : u.created ≢ NotAsked
  pub none_left : (length u.rest ≡ 0) × (1 ≤ u.asked)
  pub none_out : u.pending ≡ 0

pub record IsAbortDue (u : Upload) : Type 0 where
  pub asked_for : u.created ≢ NotAsked
  pub none_out : u.pending ≡ 0

abbrev pub IsDue : Upload → UpAsk → Type 0
IsDue u Create = u.created ≡ NotAsked
IsDue u (Part number from to) = IsPartDue u number from to
IsDue u (Complete parts) = IsCompleteDue u parts
IsDue u Abort = IsAbortDue u

-- what an `if` gave
pub chosen : {A : Type 0} (P : A → Type 0) (b : Bool) (x y : A) → (if b then Some x else None) ≡ Some y → (b ≡ true → P x) → P y
chosen P true x y is holds = subst P (let same : x ≡ y = cc in same) (holds refl)
chosen P false x y is holds = absurd (cc)

pub chosen-of-two : {A : Type 0} (P : A → Type 0) (b c : Bool) (x z y : A) → (if b then Some x else (if c then Some z else None)) ≡ Some y → (b ≡ true → P x) → (b ≡ false → c ≡ true → P z) → P y
chosen-of-two P true c x z y is first second = subst P (let same : x ≡ y = cc in same) (first refl)
chosen-of-two P false c x z y is first second = chosen P c z y is (second refl)

both : (b c : Bool) → (b && c) ≡ true → c ≡ true
both true c is = is
both false c is = absurd (cc)

pub part-left : (bytes asked : ℕ) → (not (bytes == 0) || asked == 0) ≡ true → (1 ≤ bytes) ⊎ (asked ≡ 0)
part-left bytes asked has = go (bytes == 0) (asked == 0) refl refl has
  where
    go : (b c : Bool) → (bytes == 0) ≡ b → (asked == 0) ≡ c → (not b || c) ≡ true → (1 ≤ bytes) ⊎ (asked ≡ 0)
    go true c none first has = inr (eqb-true asked 0 (let same : (asked == 0) ≡ true = cc in same))
    go false c none first has = inl (let some = eqb-false bytes 0 none in omega arith)

pub no-part-left : (bytes asked : ℕ) → (not (bytes == 0) || asked == 0) ≡ false → (bytes ≡ 0) × (1 ≤ asked)
no-part-left bytes asked has = go (bytes == 0) (asked == 0) refl refl has
  where
    go : (b c : Bool) → (bytes == 0) ≡ b → (asked == 0) ≡ c → (not b || c) ≡ false → (bytes ≡ 0) × (1 ≤ asked)
    go true c none first has = (eqb-true bytes 0 none, (let some = eqb-false asked 0 (let same : (asked == 0) ≡ false = cc in same) in omega arith))
    go false c none first has = absurd (cc)

-- a writer in this state hasn't failed

pub open-alive : (u : Upload) → u.state ≡ Open → HasFailed u → ⊥
open-alive u is failed = let errno : Errno = failed.0 in let both : u.state ≡ Failed errno = failed.1 in cc

pub finished-alive : (u : Upload) → u.state ≡ Finished → HasFailed u → ⊥
finished-alive u is failed = let errno : Errno = failed.0 in let both : u.state ≡ Failed errno = failed.1 in cc

-- one upload, field by field
abbrev pub upload : ℕ → UpState → Created → ℕ → ℕ → ℕ → List ℕ → ℕ → Bool → Upload
upload part state created asked sent stored rest pending closing = record { part = part; state = state; created = created; asked = asked; sent = sent; stored = stored; rest = rest; pending = pending; closing = closing }

due-of : (part : ℕ) (state : UpState) (created : Created) (asked sent stored : ℕ) (rest : List ℕ) (pending : ℕ) (closing : Bool) (ask : UpAsk) → due (upload part state created asked sent stored rest pending closing) ≡ Some ask → IsDue (upload part state created asked sent stored rest pending closing) ask
due-of part Open NotAsked asked sent stored rest pending closing ask is = chosen (IsDue (upload part Open NotAsked asked sent stored rest pending closing)) (nat_le part (length rest)) Create ask is (λ full. refl)
due-of part Open Asked asked sent stored rest pending closing ask is = absurd (cc)
due-of part Open GivenUp asked sent stored rest pending closing ask is = absurd (cc)
due-of part Open (Known id) asked sent stored rest pending closing ask is =
    let u : Upload = upload part Open (Known id) asked sent stored rest pending closing in
    chosen (IsDue u) (is_full u) (ask_part u) ask is
    (λ full. record {
      number_is = refl;
      from_is = refl;
      to_is = refl;
      alive = open-alive u refl;
      asked_for = λ not_asked. absurd (cc);
      grows = inl refl;
      full_or_last = inl (leb-true part (length rest) full);
    })
due-of part Finished NotAsked asked sent stored rest pending closing ask is = subst (IsDue (upload part Finished NotAsked asked sent stored rest pending closing)) (let same : Create ≡ ask = cc in same) refl
due-of part Finished Asked asked sent stored rest pending closing ask is = absurd (cc)
due-of part Finished GivenUp asked sent stored rest pending closing ask is = absurd (cc)
due-of part Finished (Known id) asked sent stored rest pending closing ask is =
    let u : Upload = upload part Finished (Known id) asked sent stored rest pending closing in
    chosen-of-two (IsDue u) (has_part u) (stored == asked && pending == 0) (ask_part u) (Complete asked) ask is
    (λ has. record {
      number_is = refl;
      from_is = refl;
      to_is = refl;
      alive = finished-alive u refl;
      asked_for = λ not_asked. absurd (cc);
      grows = inr has;
      full_or_last = inr (refl, part-left (length rest) asked has);
    })
    (λ has all. record {
      parts_is = refl;
      alive = finished-alive u refl;
      asked_for = λ not_asked. absurd (cc);
      none_left = no-part-left (length rest) asked has;
      none_out = eqb-true pending 0 (both (stored == asked) (pending == 0) all);
    })
due-of part Done created asked sent stored rest pending closing ask is = absurd (cc)
due-of part (Failed errno) NotAsked asked sent stored rest pending closing ask is = absurd (cc)
due-of part (Failed errno) Asked asked sent stored rest pending closing ask is = absurd (cc)
due-of part (Failed errno) GivenUp asked sent stored rest pending closing ask is = absurd (cc)
due-of part (Failed errno) (Known id) asked sent stored rest pending closing ask is = chosen (IsDue (upload part (Failed errno) (Known id) asked sent stored rest pending closing)) (closing && pending == 0) Abort ask is (λ all. record { asked_for = λ not_asked. absurd (cc); none_out = eqb-true pending 0 (both closing (pending == 0) all) })

pub due-is : (u : Upload) (ask : UpAsk) → due u ≡ Some ask → IsDue u ask
due-is u ask is = due-of u.part u.state u.created u.asked u.sent u.stored u.rest u.pending u.closing ask is
