-- Each actor does one thing at a time, and which lines may begin.
use Rattle.std.proofs.Common.{◌≡◌, ◌≢◌, ℕ, ◌<◌, List, [], ◌∷◌, cond, Bool, true, false, ◌||◌, ◌==◌, if◌then◌else◌, Some, refl, sym, ap, ◌∙◌, arith, eqb-true, ne_eqb, subst, eq-eqb}
use Rattle.mount_model.specs.declared.request.Request.{Request}
use Rattle.mount_model.specs.declared.request.Request.TheVariants.{Await}
use Rattle.mount_model.specs.declared.request.Line.{Line}
use Rattle.mount_model.specs.declared.standing.Heard.{Heard}
use Rattle.mount_model.specs.declared.standing.Phase.{Phase}
use Rattle.mount_model.specs.declared.standing.Phase.TheVariants.{Waiting, Begun, Replied}
use Rattle.mount_model.specs.declared.standing.Standing.{Standing}
use Rattle.mount_model.specs.declared.standing.Told.{Told}
use Rattle.mount_model.specs.Heard.{nothing_heard}
use Rattle.mount_model.specs.State.{line_at, change_line, heard}
use Rattle.mount_model.specs.Run.{is_among, startable_from}
use Rattle.run_laws.specs.Alive.{AreOrderly}
use Rattle.run_laws.proofs.Keyed.{Rises, item_at-later, change_at-none}
use Rattle.run_laws.proofs.Lines.{number_of, changed}
use Rattle.run_laws.proofs.Settled.{standing, settled}

-- who is free with the first ones busy is free with the second ones
pub record Frees (more less : List ℕ) : Type 0 where
  pub free : (a : ℕ) → is_among a more ≡ false → is_among a less ≡ false

pub Frees-same : (busy : List ℕ) → Frees busy busy
Frees-same busy = record { free = λ a e. e }

Frees-both : (actor : ℕ) (more less : List ℕ) → Frees more less → Frees (actor ∷ more) (actor ∷ less)
Frees-both actor more less f = record { free = λ a e. go a (actor == a) e }
  where
    go : (a : ℕ) (b : Bool) → (b || is_among a more) ≡ false → (b || is_among a less) ≡ false
    go a true e = absurd (cc)
    go a false e = f.free a e

pub Frees-first : (actor : ℕ) (busy : List ℕ) → Frees (actor ∷ busy) busy
Frees-first actor busy = record { free = λ a e. go a (actor == a) e }
  where
    go : (a : ℕ) (b : Bool) → (b || is_among a busy) ≡ false → is_among a busy ≡ false
    go a true e = absurd (cc)
    go a false e = e

-- to add who is busy already frees nobody
Frees-again : (actor : ℕ) (more less : List ℕ) → is_among actor more ≡ true → Frees more less → Frees more (actor ∷ less)
Frees-again actor more less among f = record { free = λ a e. go a (actor == a) refl e }
  where
    go : (a : ℕ) (b : Bool) → (actor == a) ≡ b → is_among a more ≡ false → (b || is_among a less) ≡ false
    go a true is e = let same : actor ≡ a = eqb-true actor a is in let clash : is_among actor more ≡ false = subst (λ (x : ℕ). is_among x more ≡ false) (sym same) e in absurd (cc)
    go a false is e = f.free a e

-- who is busy for the lines below
abbrev pub busy_below : Phase → ℕ → List ℕ → List ℕ
busy_below Waiting actor busy = actor ∷ busy
busy_below (Begun heard) actor busy = actor ∷ busy
busy_below Replied actor busy = busy

orderly-tail-cons : (busy : List ℕ) (line : Line) (phase : Phase) (lines others : List Standing) → (AreOrderly (busy_below phase line.actor busy) lines → AreOrderly (busy_below phase line.actor busy) others) → AreOrderly busy (record { line = line; phase = phase } ∷ lines) → AreOrderly busy (record { line = line; phase = phase } ∷ others)
orderly-tail-cons busy line Waiting lines others f o = f o
orderly-tail-cons busy line (Begun heard) lines others f o = (o.0, f o.1)
orderly-tail-cons busy line Replied lines others f o = (o.0, f o.1)

-- other lines below
pub orderly-tail : (busy : List ℕ) (s : Standing) (lines others : List Standing) → (AreOrderly (busy_below s.phase s.line.actor busy) lines → AreOrderly (busy_below s.phase s.line.actor busy) others) → AreOrderly busy (s ∷ lines) → AreOrderly busy (s ∷ others)
orderly-tail busy s lines others f o = orderly-tail-cons busy s.line s.phase lines others f o

orderly-fewer-cons : (more less : List ℕ) (line : Line) (phase : Phase) (lines : List Standing) → Frees more less → ((more less : List ℕ) → Frees more less → AreOrderly more lines → AreOrderly less lines) → AreOrderly more (record { line = line; phase = phase } ∷ lines) → AreOrderly less (record { line = line; phase = phase } ∷ lines)
orderly-fewer-cons more less line Waiting lines f ih o = ih (line.actor ∷ more) (line.actor ∷ less) (Frees-both line.actor more less f) o
orderly-fewer-cons more less line (Begun heard) lines f ih o = (f.free line.actor o.0, ih (line.actor ∷ more) (line.actor ∷ less) (Frees-both line.actor more less f) o.1)
orderly-fewer-cons more less line Replied lines f ih o = (f.free line.actor o.0, ih more less f o.1)

pub orderly-fewer : (lines : List Standing) (more less : List ℕ) → Frees more less → AreOrderly more lines → AreOrderly less lines
orderly-fewer [] more less f o = tt
orderly-fewer (s ∷ lines) more less f o = orderly-fewer-cons more less s.line s.phase lines f (orderly-fewer lines) o

-- a line that hears stays begun
orderly-heard-cons : (busy : List ℕ) (told : Told) (line : Line) (phase : Phase) (lines : List Standing) → AreOrderly busy (record { line = line; phase = phase } ∷ lines) → AreOrderly busy (record { line = line; phase = heard told phase } ∷ lines)
orderly-heard-cons busy told line Waiting lines o = o
orderly-heard-cons busy told line (Begun before) lines o = o
orderly-heard-cons busy told line Replied lines o = o

pub orderly-heard : (busy : List ℕ) (n : ℕ) (told : Told) (lines : List Standing) → AreOrderly busy lines → AreOrderly busy (change_line n (heard told) lines)
orderly-heard busy n told [] o = tt
orderly-heard busy n told (s ∷ lines) o = go (s.line.number == n) (orderly-tail busy s lines (change_line n (heard told) lines) (orderly-heard (busy_below s.phase s.line.actor busy) n told lines) o)
  where
    go : (b : Bool) → AreOrderly busy (s ∷ change_line n (heard told) lines) → AreOrderly busy ((if b then changed (heard told) s else s) ∷ change_line n (heard told) lines)
    go true o = orderly-heard-cons busy told s.line s.phase (change_line n (heard told) lines) o
    go false o = o

-- a line that has its reply leaves its actor free
orderly-replied-cons : (busy : List ℕ) (line : Line) (phase : Phase) (heard : Heard) (lines : List Standing) → phase ≡ Begun heard → AreOrderly busy (record { line = line; phase = phase } ∷ lines) → AreOrderly busy (record { line = line; phase = Replied } ∷ lines)
orderly-replied-cons busy line Waiting heard lines is o = absurd (cc)
orderly-replied-cons busy line (Begun others) heard lines is o = (o.0, orderly-fewer lines (line.actor ∷ busy) busy (Frees-first line.actor busy) o.1)
orderly-replied-cons busy line Replied heard lines is o = absurd (cc)

pub orderly-replied : (above n : ℕ) (busy : List ℕ) (lines : List Standing) (s : Standing) (heard : Heard) → Rises number_of above lines → line_at n lines ≡ Some s → s.phase ≡ Begun heard → AreOrderly busy lines → AreOrderly busy (change_line n (λ phase. Replied) lines)
orderly-replied above n busy [] s heard r stands is o = tt
orderly-replied above n busy (first ∷ lines) s heard r stands is o = go (first.line.number == n) refl stands (λ e. orderly-tail busy first lines (change_line n (λ phase. Replied) lines) (orderly-replied first.line.number n (busy_below first.phase first.line.actor busy) lines s heard r.1 e is) o)
  where
    go : (b : Bool) → (first.line.number == n) ≡ b → cond b (Some first) (line_at n lines) ≡ Some s → (line_at n lines ≡ Some s → AreOrderly busy (first ∷ change_line n (λ phase. Replied) lines)) → AreOrderly busy ((if b then changed (λ phase. Replied) first else first) ∷ change_line n (λ phase. Replied) lines)
    go true number e ih =
        let same : first ≡ s = cc in
        let number_is : first.line.number ≡ n = eqb-true first.line.number n number in
        let begun : first.phase ≡ Begun heard = ap (λ (t : Standing). t.phase) same ∙ is in
        let below : change_line n (λ phase. Replied) lines ≡ lines = change_at-none number_of (changed (λ phase. Replied)) first.line.number n lines (omega arith) r.1 in
        rw below (orderly-replied-cons busy first.line first.phase heard lines begun o)
    go false number e ih = ih e

-- once the awaits that are due have their replies
orderly-settled-cons : (busy : List ℕ) (number actor : ℕ) (request : Request) (phase : Phase) (lines : List Standing) → ((busy : List ℕ) → AreOrderly busy lines → AreOrderly busy (settled lines)) → AreOrderly busy (standing number actor request phase ∷ lines) → AreOrderly busy (settled (standing number actor request phase ∷ lines))
orderly-settled-cons busy number actor request Waiting lines ih o = o
orderly-settled-cons busy number actor Await (Begun heard) lines ih o = (o.0, orderly-fewer (settled lines) (actor ∷ busy) busy (Frees-first actor busy) (ih (actor ∷ busy) o.1))
orderly-settled-cons busy number actor other (Begun heard) lines ih o = o
orderly-settled-cons busy number actor request Replied lines ih o = (o.0, ih busy o.1)

pub orderly-settled : (lines : List Standing) (busy : List ℕ) → AreOrderly busy lines → AreOrderly busy (settled lines)
orderly-settled [] busy o = tt
orderly-settled (s ∷ lines) busy o = orderly-settled-cons busy s.line.number s.line.actor s.line.request s.phase lines (orderly-settled lines) o

-- a line that may begin is the first one, or one below

data Starts (n : ℕ) (busy : List ℕ) (line : Line) (phase : Phase) (lines : List Standing) : Type 0 where
  Here : line.number ≡ n → phase ≡ Waiting → is_among line.actor busy ≡ false → Starts n busy line phase lines
  Below : (now : List ℕ) → is_among n (startable_from now lines) ≡ true → ((less : List ℕ) → Frees busy less → Frees now (busy_below phase line.actor less)) → Starts n busy line phase lines

starts-waiting : (n : ℕ) (busy : List ℕ) (line : Line) (lines : List Standing) (b : Bool) → is_among line.actor busy ≡ b → is_among n (if b then startable_from busy lines else line.number ∷ startable_from (line.actor ∷ busy) lines) ≡ true → Starts n busy line Waiting lines
starts-waiting n busy line lines true is e = Below busy e (λ less f. Frees-again line.actor busy less is f)
starts-waiting n busy line lines false is e = go (line.number == n) refl e
  where
    go : (b : Bool) → (line.number == n) ≡ b → (b || is_among n (startable_from (line.actor ∷ busy) lines)) ≡ true → Starts n busy line Waiting lines
    go true same e = Here (eqb-true line.number n same) refl is
    go false same e = Below (line.actor ∷ busy) e (λ less f. Frees-both line.actor busy less f)

starts : (n : ℕ) (busy : List ℕ) (line : Line) (phase : Phase) (lines : List Standing) → is_among n (startable_from busy (record { line = line; phase = phase } ∷ lines)) ≡ true → Starts n busy line phase lines
starts n busy line Waiting lines e = starts-waiting n busy line lines (is_among line.actor busy) refl e
starts n busy line (Begun heard) lines e = Below (line.actor ∷ busy) e (λ less f. Frees-both line.actor busy less f)
starts n busy line Replied lines e = Below busy e (λ less f. f)

pub startable-above : (above n : ℕ) (busy : List ℕ) (lines : List Standing) → Rises number_of above lines → is_among n (startable_from busy lines) ≡ true → above < n
startable-above above n busy [] r e = absurd (cc)
startable-above above n busy (s ∷ lines) r e = go (starts n busy s.line s.phase lines e) (λ now. startable-above s.line.number n now lines r.1)
  where
    go : Starts n busy s.line s.phase lines → ((now : List ℕ) → is_among n (startable_from now lines) ≡ true → s.line.number < n) → above < n
    go (Here is waits free) ih = let first = r.0 in omega arith
    go (Below now e f) ih = let first = r.0 in let later = ih now e in omega arith

-- a line that may begin stands, and waits
pub record IsWaiting (n : ℕ) (lines : List Standing) : Type 0 where
  pub line : Line
  pub stands : line_at n lines ≡ Some (record { line = line; phase = Waiting })

pub startable-found : (above n : ℕ) (busy : List ℕ) (lines : List Standing) → Rises number_of above lines → is_among n (startable_from busy lines) ≡ true → IsWaiting n lines
startable-found above n busy [] r e = absurd (cc)
startable-found above n busy (s ∷ lines) r e = go (starts n busy s.line s.phase lines e) (λ now. startable-found s.line.number n now lines r.1)
  where
    go : Starts n busy s.line s.phase lines → ((now : List ℕ) → is_among n (startable_from now lines) ≡ true → IsWaiting n lines) → IsWaiting n (s ∷ lines)
    go (Here is waits free) ih =
        let same : (s.line.number == n) ≡ true = ap (λ k. k == n) is ∙ eq-eqb n n refl in
        record { line = s.line; stands = rw same (ap (λ p. Some (record { line = s.line; phase = p })) waits) }
    go (Below now e f) ih = let found = ih now e in record { line = found.line; stands = item_at-later number_of above n s lines (record { line = found.line; phase = Waiting }) r found.stands }

orderly-begun-cons : (busy : List ℕ) (line : Line) (phase : Phase) (lines : List Standing) → phase ≡ Waiting → is_among line.actor busy ≡ false → AreOrderly busy (record { line = line; phase = phase } ∷ lines) → AreOrderly busy (record { line = line; phase = Begun nothing_heard } ∷ lines)
orderly-begun-cons busy line Waiting lines is free o = (free, o)
orderly-begun-cons busy line (Begun heard) lines is free o = absurd (cc)
orderly-begun-cons busy line Replied lines is free o = absurd (cc)

pub orderly-begun : (above n : ℕ) (more less : List ℕ) (lines : List Standing) → Rises number_of above lines → Frees more less → is_among n (startable_from more lines) ≡ true → AreOrderly less lines → AreOrderly less (change_line n (λ phase. Begun nothing_heard) lines)
orderly-begun above n more less [] r f e o = tt
orderly-begun above n more less (s ∷ lines) r f e o = go (starts n more s.line s.phase lines e) (λ now later g. orderly-begun s.line.number n now (busy_below s.phase s.line.actor less) lines r.1 g later)
  where
    go : Starts n more s.line s.phase lines
        → ((now : List ℕ) → is_among n (startable_from now lines) ≡ true → Frees now (busy_below s.phase s.line.actor less) → AreOrderly (busy_below s.phase s.line.actor less) lines → AreOrderly (busy_below s.phase s.line.actor less) (change_line n (λ phase. Begun nothing_heard) lines))
        → AreOrderly less (change_line n (λ phase. Begun nothing_heard) (s ∷ lines))
    go (Here is waits free) ih =
        let same : (s.line.number == n) ≡ true = ap (λ k. k == n) is ∙ eq-eqb n n refl in
        let below : change_line n (λ phase. Begun nothing_heard) lines ≡ lines = change_at-none number_of (changed (λ phase. Begun nothing_heard)) s.line.number n lines (omega arith) r.1 in
        rw (same, below) (orderly-begun-cons less s.line s.phase lines waits (f.free s.line.actor free) o)
    go (Below now later g) ih =
        let past : s.line.number < n = startable-above s.line.number n now lines r.1 later in
        let other : (s.line.number == n) ≡ false = ne_eqb s.line.number n (omega arith) in
        rw other (orderly-tail less s lines (change_line n (λ phase. Begun nothing_heard) lines) (ih now later (g less f)) o)

-- two lines that have begun are of two processes

orderly-first : (busy : List ℕ) (line : Line) (phase : Phase) (heard : Heard) (lines : List Standing) → phase ≡ Begun heard → AreOrderly busy (record { line = line; phase = phase } ∷ lines) → is_among line.actor busy ≡ false
orderly-first busy line Waiting heard lines is o = absurd (cc)
orderly-first busy line (Begun others) heard lines is o = o.0
orderly-first busy line Replied heard lines is o = absurd (cc)

orderly-rest : (busy : List ℕ) (line : Line) (phase : Phase) (lines : List Standing) → AreOrderly busy (record { line = line; phase = phase } ∷ lines) → AreOrderly (busy_below phase line.actor busy) lines
orderly-rest busy line Waiting lines o = o
orderly-rest busy line (Begun heard) lines o = o.1
orderly-rest busy line Replied lines o = o.1

free-above : (busy : List ℕ) (phase : Phase) (actor other : ℕ) → is_among other (busy_below phase actor busy) ≡ false → is_among other busy ≡ false
free-above busy Waiting actor other free = (Frees-first actor busy).free other free
free-above busy (Begun heard) actor other free = (Frees-first actor busy).free other free
free-above busy Replied actor other free = free

orderly-free : (busy : List ℕ) (n : ℕ) (lines : List Standing) (s : Standing) (heard : Heard) → AreOrderly busy lines → line_at n lines ≡ Some s → s.phase ≡ Begun heard → is_among s.line.actor busy ≡ false
orderly-free busy n [] s heard o stands is = absurd (cc)
orderly-free busy n (first ∷ lines) s heard o stands is = go (first.line.number == n) stands (λ later. orderly-free (busy_below first.phase first.line.actor busy) n lines s heard (orderly-rest busy first.line first.phase lines o) later is)
  where
    go : (b : Bool) → cond b (Some first) (line_at n lines) ≡ Some s → (line_at n lines ≡ Some s → is_among s.line.actor (busy_below first.phase first.line.actor busy) ≡ false) → is_among s.line.actor busy ≡ false
    go true stands ih =
        let same : first ≡ s = cc in
        let begun : first.phase ≡ Begun heard = ap (λ (t : Standing). t.phase) same ∙ is in
        let free : is_among first.line.actor busy ≡ false = orderly-first busy first.line first.phase heard lines begun o in
        subst (λ (t : Standing). is_among t.line.actor busy ≡ false) same free
    go false stands ih = free-above busy first.phase first.line.actor s.line.actor (ih stands)

-- of a line that has begun and one further down
apart-below : (busy : List ℕ) (m : ℕ) (first : Standing) (lines : List Standing) (t : Standing) (a b : Heard) → AreOrderly busy (first ∷ lines) → first.phase ≡ Begun a → line_at m lines ≡ Some t → t.phase ≡ Begun b → first.line.actor ≢ t.line.actor
apart-below busy m first lines t a b o begun stands is e =
    let rest = orderly-rest busy first.line first.phase lines o in
    let busy_now : busy_below first.phase first.line.actor busy ≡ first.line.actor ∷ busy = ap (λ (p : Phase). busy_below p first.line.actor busy) begun in
    let free = subst (λ (x : List ℕ). is_among t.line.actor x ≡ false) busy_now (orderly-free (busy_below first.phase first.line.actor busy) m lines t b rest stands is) in
    let same : (first.line.actor == t.line.actor) ≡ true = eq-eqb first.line.actor t.line.actor e in
    let clash : (first.line.actor == t.line.actor || is_among t.line.actor busy) ≡ true = rw same refl in
    absurd (cc)

pub orderly-apart : (busy : List ℕ) (n m : ℕ) (lines : List Standing) (s t : Standing) (a b : Heard) → n ≢ m → AreOrderly busy lines → line_at n lines ≡ Some s → s.phase ≡ Begun a → line_at m lines ≡ Some t → t.phase ≡ Begun b → s.line.actor ≢ t.line.actor
orderly-apart busy n m [] s t a b apart o at_n is_n at_m is_m = absurd (cc)
orderly-apart busy n m (first ∷ lines) s t a b apart o at_n is_n at_m is_m = go (first.line.number == n) (first.line.number == m) refl refl at_n at_m (λ later_n later_m. orderly-apart (busy_below first.phase first.line.actor busy) n m lines s t a b apart (orderly-rest busy first.line first.phase lines o) later_n is_n later_m is_m)
  where
    go : (c d : Bool) → (first.line.number == n) ≡ c → (first.line.number == m) ≡ d → cond c (Some first) (line_at n lines) ≡ Some s → cond d (Some first) (line_at m lines) ≡ Some t → (line_at n lines ≡ Some s → line_at m lines ≡ Some t → s.line.actor ≢ t.line.actor) → s.line.actor ≢ t.line.actor
    go true true here there at_n at_m ih = absurd (apart (sym (eqb-true first.line.number n here) ∙ eqb-true first.line.number m there))
    go true false here there at_n at_m ih =
        let same : first ≡ s = cc in
        subst (λ (x : Standing). x.line.actor ≢ t.line.actor) same (apart-below busy m first lines t a b o (ap (λ (x : Standing). x.phase) same ∙ is_n) at_m is_m)
    go false true here there at_n at_m ih =
        let same : first ≡ t = cc in
        let actors : t.line.actor ≢ s.line.actor = subst (λ (x : Standing). x.line.actor ≢ s.line.actor) same (apart-below busy n first lines s b a o (ap (λ (x : Standing). x.phase) same ∙ is_m) at_n is_n) in
        λ e. actors (sym e)
    go false false here there at_n at_m ih = ih at_n at_m
