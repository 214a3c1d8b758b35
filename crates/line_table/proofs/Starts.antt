-- Which lines may begin, before and after a line begins, hears or has its reply.
use Rattle.std.proofs.Common.{◌≡◌, ℕ, zero, suc, ◌+◌, ◌<◌, ◌≤◌, List, [], ◌∷◌, length, Bool, true, false, ◌==◌, ◌||◌, if◌then◌else◌, Option, Some, None, slice_get, refl, sym, ap, subst, ◌∙◌, arith, inl, inr}
use Rattle.std.proofs.lemmas.Bool.{eq-eqb}
use Rattle.std.proofs.lemmas.Bool.Decides.{nat_tests, eqb_tells}
use Rattle.mount_model.specs.declared.standing.Heard.{Heard}
use Rattle.mount_model.specs.declared.standing.Told.{Told}
use Rattle.mount_model.specs.Heard.{nothing_heard}
use Rattle.mount_model.specs.declared.request.Line.{Line}
use Rattle.mount_model.specs.declared.standing.Phase.{Phase}
use Rattle.mount_model.specs.declared.standing.Phase.TheVariants.{Waiting, Begun, Replied}
use Rattle.mount_model.specs.declared.standing.Standing.{Standing}
use Rattle.mount_model.specs.State.{line_at, change_line, heard}
use Rattle.mount_model.specs.Run.{is_among, startable_from, AreRising}
use Rattle.line_table.specs.Table.{HasBegun, script_of, first_of, followers_of, RisingBy, AreAbove, put_in, with_follower, busy_after, OneEach}
use Rattle.line_table.proofs.Searches.{rising_lower, change_here, change_there, above_at, remove_first, none_among, put_in-front}

abbrev pub number_of : Standing → ℕ
number_of s = s.line.number

abbrev pub rephrase : (Phase → Phase) → Standing → Standing
rephrase f s = record { line = s.line; phase = f s.phase }

pub rising_lines : (above : ℕ) (lines : List Standing) → AreRising above (script_of lines) → RisingBy number_of above lines
rising_lines above [] rising = tt
rising_lines above (s ∷ lines) rising = (rising.0, rising_lines s.line.number lines rising.1)

-- what one line adds to the lines that may begin: same are those below where its actor is no busier, more where it is
abbrev pub start_head : ℕ → Phase → Bool → List ℕ → List ℕ → List ℕ
start_head n Waiting true same more = same
start_head n Waiting false same more = n ∷ more
start_head n (Begun before) busy same more = more
start_head n Replied busy same more = same

head_is : (busy : List ℕ) (line : Line) (p : Phase) (b : Bool) (lines : List Standing) → is_among line.actor busy ≡ b → startable_from busy (record { line = line; phase = p } ∷ lines) ≡ start_head line.number p b (startable_from busy lines) (startable_from (line.actor ∷ busy) lines)
head_is busy line Waiting true lines same = rw same
head_is busy line Waiting false lines same = rw same
head_is busy line (Begun before) b lines same = refl
head_is busy line Replied b lines same = refl

pub startable_step : (busy : List ℕ) (s : Standing) (lines : List Standing) → startable_from busy (s ∷ lines) ≡ start_head s.line.number s.phase (is_among s.line.actor busy) (startable_from busy lines) (startable_from (s.line.actor ∷ busy) lines)
startable_step busy s lines = head_is busy s.line s.phase (is_among s.line.actor busy) lines refl

-- the numbers rise

head_above : (above n : ℕ) (p : Phase) (b : Bool) (same more : List ℕ) → above < n → AreAbove n same → AreAbove n more → AreAbove above (start_head n p b same more)
head_above above n Waiting true same more lt r q = rising_lower (λ n. n) above n same (omega arith) r
head_above above n Waiting false same more lt r q = (lt, q)
head_above above n (Begun before) b same more lt r q = rising_lower (λ n. n) above n more (omega arith) q
head_above above n Replied b same more lt r q = rising_lower (λ n. n) above n same (omega arith) r

pub startable_above : (busy : List ℕ) (above : ℕ) (lines : List Standing) → RisingBy number_of above lines → AreAbove above (startable_from busy lines)
startable_above busy above [] rising = tt
startable_above busy above (s ∷ lines) rising =
    subst (AreAbove above) (sym (startable_step busy s lines))
    (head_above above s.line.number s.phase (is_among s.line.actor busy) (startable_from busy lines) (startable_from (s.line.actor ∷ busy) lines) rising.0 (startable_above busy s.line.number lines rising.1) (startable_above (s.line.actor ∷ busy) s.line.number lines rising.1))

-- and are at most as many as the lines

head_length : (n m : ℕ) (p : Phase) (b : Bool) (same more : List ℕ) → length same ≤ m → length more ≤ m → length (start_head n p b same more) ≤ m + 1
head_length n m Waiting true same more le le' = omega arith
head_length n m Waiting false same more le le' = omega arith
head_length n m (Begun before) b same more le le' = omega arith
head_length n m Replied b same more le le' = omega arith

pub startable_length : (busy : List ℕ) (lines : List Standing) → length (startable_from busy lines) ≤ length lines
startable_length busy [] = omega arith
startable_length busy (s ∷ lines) =
    rw (startable_step busy s lines)
    (omega (arith, head_length s.line.number (length lines) s.phase (is_among s.line.actor busy) (startable_from busy lines) (startable_from (s.line.actor ∷ busy) lines) (startable_length busy lines) (startable_length (s.line.actor ∷ busy) lines)))

-- a line begins

-- a line whose number is among those that may begin waits, and its actor isn't busy
pub record Starts (p : Phase) (b : Bool) : Type 0 where
  pub waits : p ≡ Waiting
  pub free : b ≡ false

head_starts : (n : ℕ) (p : Phase) (b : Bool) (same more : List ℕ) → is_among n same ≡ false → is_among n more ≡ false → is_among n (start_head n p b same more) ≡ true → Starts p b
head_starts n Waiting true same more r q among = absurd (cc)
head_starts n Waiting false same more r q among = record { waits = refl; free = refl }
head_starts n (Begun before) b same more r q among = absurd (cc)
head_starts n Replied b same more r q among = absurd (cc)

pub starts_here : (busy : List ℕ) (s : Standing) (lines : List Standing) → RisingBy number_of s.line.number lines → is_among s.line.number (startable_from busy (s ∷ lines)) ≡ true → Starts s.phase (is_among s.line.actor busy)
starts_here busy s lines rising among = head_starts s.line.number s.phase (is_among s.line.actor busy) (startable_from busy lines) (startable_from (s.line.actor ∷ busy) lines) (none_among s.line.number (startable_from busy lines) (startable_above busy s.line.number lines rising)) (none_among s.line.number (startable_from (s.line.actor ∷ busy) lines) (startable_above (s.line.actor ∷ busy) s.line.number lines rising)) (rw startable_step at among)

-- below a line of another number
head_begins : (n m : ℕ) (p : Phase) (b : Bool) (same more same' more' : List ℕ) → (m == n) ≡ false → (is_among n same ≡ true → same' ≡ remove_first n same) → (is_among n more ≡ true → more' ≡ remove_first n more) → is_among n (start_head m p b same more) ≡ true → start_head m p b same' more' ≡ remove_first n (start_head m p b same more)
head_begins n m Waiting true same more same' more' differs r q among = r among
head_begins n m Waiting false same more same' more' differs r q among = rw (differs, q (rw differs at among))
head_begins n m (Begun before) b same more same' more' differs r q among = q among
head_begins n m Replied b same more same' more' differs r q among = r among

begins_here : (n : ℕ) (p : Phase) (b : Bool) (same more : List ℕ) → Starts p b → more ≡ remove_first n (start_head n p b same more)
begins_here n p b same more starts = rw (starts.waits, starts.free, eq-eqb n n refl)

begin_here : (busy : List ℕ) (s : Standing) (lines : List Standing) → RisingBy number_of s.line.number lines → is_among s.line.number (startable_from busy (s ∷ lines)) ≡ true → startable_from busy (change_line s.line.number (λ phase. Begun nothing_heard) (s ∷ lines)) ≡ remove_first s.line.number (startable_from busy (s ∷ lines))
begin_here busy s lines rising among =
    ap (startable_from busy) (change_here number_of s.line.number (rephrase (λ phase. Begun nothing_heard)) s lines refl rising)
    ∙ begins_here s.line.number s.phase (is_among s.line.actor busy) (startable_from busy lines) (startable_from (s.line.actor ∷ busy) lines) (starts_here busy s lines rising among)
    ∙ ap (remove_first s.line.number) (sym (startable_step busy s lines))

-- the line is taken out of those that may begin
pub begin_numbers : (n above : ℕ) (busy : List ℕ) (lines : List Standing) → RisingBy number_of above lines → is_among n (startable_from busy lines) ≡ true → startable_from busy (change_line n (λ phase. Begun nothing_heard) lines) ≡ remove_first n (startable_from busy lines)
begin_numbers n above busy [] rising among = absurd (cc)
begin_numbers n above busy (s ∷ lines) rising among =
    let same_below = begin_numbers n s.line.number busy lines rising.1 in
    let more_below = begin_numbers n s.line.number (s.line.actor ∷ busy) lines rising.1 in
    elim (eqb_tells s.line.number n) [
      | inl same ↦ subst (λ m. is_among m (startable_from busy (s ∷ lines)) ≡ true → startable_from busy (change_line m (λ phase. Begun nothing_heard) (s ∷ lines)) ≡ remove_first m (startable_from busy (s ∷ lines))) same.1 (begin_here busy s lines rising.1) among
      | inr differs ↦ ap (startable_from busy) (change_there number_of n (rephrase (λ phase. Begun nothing_heard)) s lines differs.0) ∙ startable_step busy s (change_line n (λ phase. Begun nothing_heard) lines) ∙ head_begins n s.line.number s.phase (is_among s.line.actor busy) (startable_from busy lines) (startable_from (s.line.actor ∷ busy) lines) (startable_from busy (change_line n (λ phase. Begun nothing_heard) lines)) (startable_from (s.line.actor ∷ busy) (change_line n (λ phase. Begun nothing_heard) lines)) differs.0 same_below more_below (subst (λ xs. is_among n xs ≡ true) (startable_step busy s lines) among) ∙ ap (remove_first n) (sym (startable_step busy s lines))
    ]

-- a number that no line has isn't among them
head_absent : (n m : ℕ) (p : Phase) (b : Bool) (same more : List ℕ) → (m == n) ≡ false → is_among n same ≡ false → is_among n more ≡ false → is_among n (start_head m p b same more) ≡ false
head_absent n m Waiting true same more differs r q = r
head_absent n m Waiting false same more differs r q = rw (differs, q)
head_absent n m (Begun before) b same more differs r q = q
head_absent n m Replied b same more differs r q = r

absent_below : (n : ℕ) (busy : List ℕ) (s : Standing) (lines : List Standing) → (s.line.number == n) ≡ false → is_among n (startable_from busy lines) ≡ false → is_among n (startable_from (s.line.actor ∷ busy) lines) ≡ false → is_among n (startable_from busy (s ∷ lines)) ≡ false
absent_below n busy s lines differs same more = rw (startable_step busy s lines) (head_absent n s.line.number s.phase (is_among s.line.actor busy) (startable_from busy lines) (startable_from (s.line.actor ∷ busy) lines) differs same more)

pub absent_start : (n : ℕ) (busy : List ℕ) (lines : List Standing) → line_at n lines ≡ None → is_among n (startable_from busy lines) ≡ false
absent_start n busy [] none = refl
absent_start n busy (s ∷ lines) none =
    elim (eqb_tells s.line.number n) [
      | inl same ↦ absurd (cc (rw same.0 at none))
      | inr differs ↦ let below = rw differs.0 at none in absent_below n busy s lines differs.0 (absent_start n busy lines below) (absent_start n (s.line.actor ∷ busy) lines below)
    ]

-- which actors are busy matters, not how they are listed

pub same_busy : (busy other : List ℕ) (lines : List Standing) → ((x : ℕ) → is_among x busy ≡ is_among x other) → startable_from busy lines ≡ startable_from other lines
same_busy busy other [] alike = refl
same_busy busy other (s ∷ lines) alike =
    let same = same_busy busy other lines alike in
    let more = same_busy (s.line.actor ∷ busy) (s.line.actor ∷ other) lines (λ x. ap (λ b. (s.line.actor == x) || b) (alike x)) in
    startable_step busy s lines ∙ (rw (alike s.line.actor, same, more)) ∙ sym (startable_step other s lines)

or_more : (t b c : Bool) → (b ≡ true → c ≡ true) → (t || b) ≡ true → (t || c) ≡ true
or_more true b c more or = refl
or_more false b c more or = more or

after_fewer : (actor : ℕ) (p : Phase) (busy other : List ℕ) → ((x : ℕ) → is_among x busy ≡ true → is_among x other ≡ true) → (x : ℕ) → is_among x (busy_after actor p busy) ≡ true → is_among x (busy_after actor p other) ≡ true
after_fewer actor Waiting busy other fewer x among = or_more (actor == x) (is_among x busy) (is_among x other) (fewer x) among
after_fewer actor (Begun before) busy other fewer x among = or_more (actor == x) (is_among x busy) (is_among x other) (fewer x) among
after_fewer actor Replied busy other fewer x among = fewer x among

pub one_each_fewer : (busy other : List ℕ) (lines : List Standing) → ((x : ℕ) → is_among x busy ≡ true → is_among x other ≡ true) → OneEach other lines → OneEach busy lines
one_each_fewer busy other [] fewer one = tt
one_each_fewer busy other (s ∷ lines) fewer one = (λ among. one.0 (fewer s.line.actor among), one_each_fewer (busy_after s.line.actor s.phase busy) (busy_after s.line.actor s.phase other) lines (after_fewer s.line.actor s.phase busy other fewer) one.1)

or_right : (t b : Bool) → b ≡ true → (t || b) ≡ true
or_right true b is = refl
or_right false b is = is

one_each_same : (actor : ℕ) (p : Phase) (busy : List ℕ) (lines : List Standing) → OneEach (busy_after actor p busy) lines → OneEach busy lines
one_each_same actor Waiting busy lines one = one_each_fewer busy (actor ∷ busy) lines (λ x among. or_right (actor == x) (is_among x busy) among) one
one_each_same actor (Begun before) busy lines one = one_each_fewer busy (actor ∷ busy) lines (λ x among. or_right (actor == x) (is_among x busy) among) one
one_each_same actor Replied busy lines one = one

-- one more time among the busy actors tells nothing new
pub or_known : (x actor : ℕ) (busy : List ℕ) → is_among actor busy ≡ true → is_among x busy ≡ ((actor == x) || is_among x busy)
or_known x actor busy among = elim (eqb_tells actor x) [
  | inl same ↦ rw (same.0, ← same.1) among
  | inr differs ↦ rw differs.0 refl
]

-- a number that may begin and isn't this line's may begin below
among_after : (n m actor : ℕ) (p : Phase) (b : Bool) (busy : List ℕ) (lines : List Standing) → (m == n) ≡ false → is_among actor busy ≡ b → is_among n (start_head m p b (startable_from busy lines) (startable_from (actor ∷ busy) lines)) ≡ true → is_among n (startable_from (busy_after actor p busy) lines) ≡ true
among_after n m actor Waiting true busy lines differs is among = rw (same_busy busy (actor ∷ busy) lines (λ x. or_known x actor busy is)) at among
among_after n m actor Waiting false busy lines differs is among = rw differs at among
among_after n m actor (Begun before) b busy lines differs is among = among
among_after n m actor Replied b busy lines differs is among = among

pub among_below : (n : ℕ) (busy : List ℕ) (s : Standing) (lines : List Standing) → (s.line.number == n) ≡ false → is_among n (startable_from busy (s ∷ lines)) ≡ true → is_among n (startable_from (busy_after s.line.actor s.phase busy) lines) ≡ true
among_below n busy s lines differs among = among_after n s.line.number s.line.actor s.phase (is_among s.line.actor busy) busy lines differs refl (subst (λ xs. is_among n xs ≡ true) (startable_step busy s lines) among)

begin_one_here : (busy : List ℕ) (s : Standing) (lines : List Standing) → RisingBy number_of s.line.number lines → is_among s.line.number (startable_from busy (s ∷ lines)) ≡ true → OneEach busy (s ∷ lines) → OneEach busy (change_line s.line.number (λ phase. Begun nothing_heard) (s ∷ lines))
begin_one_here busy s lines rising among one =
    let starts = starts_here busy s lines rising among in
    subst (OneEach busy) (sym (change_here number_of s.line.number (rephrase (λ phase. Begun nothing_heard)) s lines refl rising))
    (λ is. absurd (cc (starts.free, is)), subst (λ p. OneEach (busy_after s.line.actor p busy) lines) starts.waits one.1)

pub begin_one_each : (n above : ℕ) (busy : List ℕ) (lines : List Standing) → RisingBy number_of above lines → is_among n (startable_from busy lines) ≡ true → OneEach busy lines → OneEach busy (change_line n (λ phase. Begun nothing_heard) lines)
begin_one_each n above busy [] rising among one = tt
begin_one_each n above busy (s ∷ lines) rising among one =
    let below = begin_one_each n s.line.number (busy_after s.line.actor s.phase busy) lines rising.1 in
    elim (eqb_tells s.line.number n) [
      | inl same ↦ subst (λ m. is_among m (startable_from busy (s ∷ lines)) ≡ true → OneEach busy (change_line m (λ phase. Begun nothing_heard) (s ∷ lines))) same.1 (λ is. begin_one_here busy s lines rising.1 is one) among
      | inr differs ↦ subst (OneEach busy) (sym (change_there number_of n (rephrase (λ phase. Begun nothing_heard)) s lines differs.0)) (one.0, below (among_below n busy s lines differs.0 among) one.1)
    ]

-- a line has its reply

-- the number of the next line of the same actor
abbrev pub next_of : ℕ → List Line → Option ℕ
next_of n [] = None
next_of n (line ∷ lines) = if line.number == n then first_of line.actor lines else next_of n lines

front_put : (m k : ℕ) (numbers : List ℕ) → m < k → put_in k (m ∷ numbers) ≡ m ∷ put_in k numbers
front_put m k numbers lt = grind (arith, nat_tests)

follower_front : (actor m above : ℕ) (lines : List Standing) (numbers : List ℕ) → m ≤ above → RisingBy number_of above lines → with_follower (first_of actor (script_of lines)) (m ∷ numbers) ≡ m ∷ with_follower (first_of actor (script_of lines)) numbers
follower_front actor m above [] numbers le rising = refl
follower_front actor m above (s ∷ lines) numbers le rising =
    elim (s.line.actor == actor) as (λ b. with_follower (if b then Some s.line.number else first_of actor (script_of lines)) (m ∷ numbers) ≡ m ∷ with_follower (if b then Some s.line.number else first_of actor (script_of lines)) numbers) [
      | true ↦ front_put m s.line.number numbers (omega (arith, rising.0))
      | false ↦ follower_front actor m s.line.number lines numbers (omega (arith, rising.0)) rising.1
    ]

next_front : (n m above : ℕ) (lines : List Standing) (numbers : List ℕ) → m ≤ above → RisingBy number_of above lines → with_follower (next_of n (script_of lines)) (m ∷ numbers) ≡ m ∷ with_follower (next_of n (script_of lines)) numbers
next_front n m above [] numbers le rising = refl
next_front n m above (s ∷ lines) numbers le rising =
    elim (s.line.number == n) as (λ b. with_follower (if b then first_of s.line.actor (script_of lines) else next_of n (script_of lines)) (m ∷ numbers) ≡ m ∷ with_follower (if b then first_of s.line.actor (script_of lines) else next_of n (script_of lines)) numbers) [
      | true ↦ follower_front s.line.actor m s.line.number lines numbers (omega (arith, rising.0)) rising.1
      | false ↦ next_front n m s.line.number lines numbers (omega (arith, rising.0)) rising.1
    ]

head_replies : (n actor : ℕ) (p : Phase) (b : Bool) (f : Option ℕ) (same more same' more' busy : List ℕ) (lines : List Standing) → OneEach (busy_after actor p busy) lines → same' ≡ with_follower f same → (OneEach (actor ∷ busy) lines → more' ≡ with_follower f more) → ((xs : List ℕ) → with_follower f (n ∷ xs) ≡ n ∷ with_follower f xs) → start_head n p b same' more' ≡ with_follower f (start_head n p b same more)
head_replies n actor Waiting true f same more same' more' busy lines one same_is more_is front = same_is
head_replies n actor Waiting false f same more same' more' busy lines one same_is more_is front = ap (λ xs. n ∷ xs) (more_is one) ∙ sym (front more)
head_replies n actor (Begun before) b f same more same' more' busy lines one same_is more_is front = more_is one
head_replies n actor Replied b f same more same' more' busy lines one same_is more_is front = same_is

-- the actor's first line below waits, and may begin once the actor isn't busy
freed_here : (busy other : List ℕ) (s : Standing) (lines : List Standing) → RisingBy number_of s.line.number lines → s.phase ≡ Waiting → is_among s.line.actor busy ≡ false → ((x : ℕ) → is_among x other ≡ ((s.line.actor == x) || is_among x busy)) → startable_from busy (s ∷ lines) ≡ put_in s.line.number (startable_from other (s ∷ lines))
freed_here busy other s lines rising waits free alike =
    let below : startable_from (s.line.actor ∷ busy) lines ≡ startable_from other lines = same_busy (s.line.actor ∷ busy) other lines (λ x. sym (alike x)) in
    let among : is_among s.line.actor other ≡ true = alike s.line.actor ∙ (rw (eq-eqb s.line.actor s.line.actor refl)) in
    startable_step busy s lines ∙ (rw (waits, free, below)) ∙ sym (put_in-front s.line.number (startable_from other lines) (startable_above other s.line.number lines rising)) ∙ ap (put_in s.line.number) (sym (startable_step other s lines ∙ (rw (waits, among))))

pub reply_below : (actor above : ℕ) (busy other : List ℕ) (lines : List Standing) → RisingBy number_of above lines → OneEach other lines → is_among actor busy ≡ false → ((x : ℕ) → is_among x other ≡ ((actor == x) || is_among x busy)) → startable_from busy lines ≡ with_follower (first_of actor (script_of lines)) (startable_from other lines)
reply_below actor above busy other [] rising one free alike = refl
reply_below actor above busy other (s ∷ lines) rising one free alike =
    let same_below = λ (q : OneEach other lines). reply_below actor s.line.number busy other lines rising.1 q free alike in
    let more_below = λ (q : OneEach (s.line.actor ∷ other) lines) (free' : is_among actor (s.line.actor ∷ busy) ≡ false) (alike' : (x : ℕ) → is_among x (s.line.actor ∷ other) ≡ ((actor == x) || is_among x (s.line.actor ∷ busy))). reply_below actor s.line.number (s.line.actor ∷ busy) (s.line.actor ∷ other) lines rising.1 q free' alike' in
    elim (eqb_tells s.line.actor actor) [
      | inl same ↦ freed same.0 same.1
      | inr differs ↦ kept differs.0 differs.1 same_below more_below
    ]
  where
    freed : (s.line.actor == actor) ≡ true → s.line.actor ≡ actor → startable_from busy (s ∷ lines) ≡ with_follower (first_of actor (script_of (s ∷ lines))) (startable_from other (s ∷ lines))
    freed is same =
        let among : is_among s.line.actor other ≡ true = alike s.line.actor ∙ (rw (same, eq-eqb actor actor refl)) in
        rw is (freed_here busy other s lines rising.1 (one.0 among) (rw same free) (λ x. alike x ∙ ap (λ a. (a == x) || is_among x busy) (sym same)))

    or_swap : (t u b : Bool) → (t || (u || b)) ≡ (u || (t || b))
    or_swap true true b = refl
    or_swap true false b = refl
    or_swap false u b = refl

    kept : (s.line.actor == actor) ≡ false → (s.line.actor ≡ actor → ⊥) → (OneEach other lines → startable_from busy lines ≡ with_follower (first_of actor (script_of lines)) (startable_from other lines)) → (OneEach (s.line.actor ∷ other) lines → is_among actor (s.line.actor ∷ busy) ≡ false → ((x : ℕ) → is_among x (s.line.actor ∷ other) ≡ ((actor == x) || is_among x (s.line.actor ∷ busy))) → startable_from (s.line.actor ∷ busy) lines ≡ with_follower (first_of actor (script_of lines)) (startable_from (s.line.actor ∷ other) lines)) → startable_from busy (s ∷ lines) ≡ with_follower (first_of actor (script_of (s ∷ lines))) (startable_from other (s ∷ lines))
    kept is differs same_below more_below =
        let is_back : (actor == s.line.actor) ≡ false = grind (arith, nat_tests) in
        let alike_here : is_among s.line.actor other ≡ is_among s.line.actor busy = alike s.line.actor ∙ (rw is_back) in
        rw is (startable_step busy s lines ∙ head_replies s.line.number s.line.actor s.phase (is_among s.line.actor busy) (first_of actor (script_of lines)) (startable_from other lines) (startable_from (s.line.actor ∷ other) lines) (startable_from busy lines) (startable_from (s.line.actor ∷ busy) lines) other lines one.1 (same_below (one_each_same s.line.actor s.phase other lines one.1)) (λ q. more_below q (rw (is, free)) (λ x. ap (λ b. (s.line.actor == x) || b) (alike x) ∙ or_swap (s.line.actor == x) (actor == x) (is_among x busy))) (λ xs. follower_front actor s.line.number s.line.number lines xs (omega arith) rising.1) ∙ ap (with_follower (first_of actor (script_of lines))) (rw (← alike_here) (sym (startable_step other s lines))))

-- the first line with the number is this one, or stands below
begun_here : (n : ℕ) (s : Standing) (lines : List Standing) → s.line.number ≡ n → (begun : HasBegun n (s ∷ lines)) → s.phase ≡ Begun begun.heard
begun_here n s lines same begun =
    let first : Some s ≡ Some begun.standing = sym (rw (eq-eqb s.line.number n same)) ∙ begun.stands in
    let is : s ≡ begun.standing = cc in
    ap (λ (t : Standing). t.phase) is ∙ begun.phase

begun_below : (n : ℕ) (s : Standing) (lines : List Standing) → (s.line.number == n) ≡ false → HasBegun n (s ∷ lines) → HasBegun n lines
begun_below n s lines differs begun = record { standing = begun.standing; stands = rw differs at (begun.stands); heard = begun.heard; phase = begun.phase }

-- a begun line's actor isn't busy above it
not_true : (b : Bool) → (b ≡ true → ⊥) → b ≡ false
not_true true no_way = absurd (no_way refl)
not_true false no_way = refl

free_of_begun : (b : Bool) (p : Phase) (before : Heard) → p ≡ Begun before → (b ≡ true → p ≡ Waiting) → b ≡ false
free_of_begun b p before begun waits = not_true b (λ is. let waiting : p ≡ Waiting = waits is in cc)

reply_here : (n : ℕ) (busy : List ℕ) (s : Standing) (lines : List Standing) → s.line.number ≡ n → RisingBy number_of s.line.number lines → OneEach busy (s ∷ lines) → HasBegun n (s ∷ lines) → startable_from busy (change_line n (λ phase. Replied) (s ∷ lines)) ≡ with_follower (next_of n (script_of (s ∷ lines))) (startable_from busy (s ∷ lines))
reply_here n busy s lines same rising one begun =
    let phase = begun_here n s lines same begun in
    let below : OneEach (s.line.actor ∷ busy) lines = subst (λ p. OneEach (busy_after s.line.actor p busy) lines) phase one.1 in
    let free : is_among s.line.actor busy ≡ false = free_of_begun (is_among s.line.actor busy) s.phase begun.heard phase one.0 in
    let next : next_of n (script_of (s ∷ lines)) ≡ first_of s.line.actor (script_of lines) = rw (eq-eqb s.line.number n same) in
    ap (startable_from busy) (change_here number_of n (rephrase (λ phase. Replied)) s lines same rising)
    ∙ reply_below s.line.actor s.line.number busy (s.line.actor ∷ busy) lines rising below free (λ x. refl)
    ∙ (rw next (ap (with_follower (first_of s.line.actor (script_of lines))) (sym (startable_step busy s lines ∙ (rw phase)))))

reply_there : (n : ℕ) (busy : List ℕ) (s : Standing) (lines : List Standing) → (s.line.number == n) ≡ false → RisingBy number_of s.line.number lines → OneEach busy (s ∷ lines) → (OneEach busy lines → startable_from busy (change_line n (λ phase. Replied) lines) ≡ with_follower (next_of n (script_of lines)) (startable_from busy lines)) → (OneEach (s.line.actor ∷ busy) lines → startable_from (s.line.actor ∷ busy) (change_line n (λ phase. Replied) lines) ≡ with_follower (next_of n (script_of lines)) (startable_from (s.line.actor ∷ busy) lines)) → startable_from busy (change_line n (λ phase. Replied) (s ∷ lines)) ≡ with_follower (next_of n (script_of (s ∷ lines))) (startable_from busy (s ∷ lines))
reply_there n busy s lines differs rising one same more =
    let next : next_of n (script_of (s ∷ lines)) ≡ next_of n (script_of lines) = rw differs in
    ap (startable_from busy) (change_there number_of n (rephrase (λ phase. Replied)) s lines differs)
    ∙ startable_step busy s (change_line n (λ phase. Replied) lines)
    ∙ head_replies s.line.number s.line.actor s.phase (is_among s.line.actor busy) (next_of n (script_of lines)) (startable_from busy lines) (startable_from (s.line.actor ∷ busy) lines) (startable_from busy (change_line n (λ phase. Replied) lines)) (startable_from (s.line.actor ∷ busy) (change_line n (λ phase. Replied) lines)) busy lines one.1 (same (one_each_same s.line.actor s.phase busy lines one.1)) more (λ xs. next_front n s.line.number s.line.number lines xs (omega arith) rising)
    ∙ (rw next (ap (with_follower (next_of n (script_of lines))) (sym (startable_step busy s lines))))

-- the next line of the same actor is put among those that may begin
pub reply_numbers : (n above : ℕ) (busy : List ℕ) (lines : List Standing) → RisingBy number_of above lines → OneEach busy lines → HasBegun n lines → startable_from busy (change_line n (λ phase. Replied) lines) ≡ with_follower (next_of n (script_of lines)) (startable_from busy lines)
reply_numbers n above busy [] rising one begun = absurd (cc (begun.stands))
reply_numbers n above busy (s ∷ lines) rising one begun =
    elim (eqb_tells s.line.number n) [
      | inl same ↦ reply_here n busy s lines same.1 rising.1 one begun
      | inr differs ↦ reply_there n busy s lines differs.0 rising.1 one (λ q. reply_numbers n s.line.number busy lines rising.1 q (begun_below n s lines differs.0 begun)) (λ q. reply_numbers n s.line.number (s.line.actor ∷ busy) lines rising.1 q (begun_below n s lines differs.0 begun))
    ]

reply_one_here : (n : ℕ) (busy : List ℕ) (s : Standing) (lines : List Standing) → s.line.number ≡ n → RisingBy number_of s.line.number lines → OneEach busy (s ∷ lines) → HasBegun n (s ∷ lines) → OneEach busy (change_line n (λ phase. Replied) (s ∷ lines))
reply_one_here n busy s lines same rising one begun =
    let phase = begun_here n s lines same begun in
    let free : is_among s.line.actor busy ≡ false = free_of_begun (is_among s.line.actor busy) s.phase begun.heard phase one.0 in
    subst (OneEach busy) (sym (change_here number_of n (rephrase (λ phase. Replied)) s lines same rising))
    (λ is. absurd (cc (free, is)), one_each_same s.line.actor s.phase busy lines one.1)

pub reply_one_each : (n above : ℕ) (busy : List ℕ) (lines : List Standing) → RisingBy number_of above lines → OneEach busy lines → HasBegun n lines → OneEach busy (change_line n (λ phase. Replied) lines)
reply_one_each n above busy [] rising one begun = tt
reply_one_each n above busy (s ∷ lines) rising one begun =
    elim (eqb_tells s.line.number n) [
      | inl same ↦ reply_one_here n busy s lines same.1 rising.1 one begun
      | inr differs ↦ subst (OneEach busy) (sym (change_there number_of n (rephrase (λ phase. Replied)) s lines differs.0)) (one.0, reply_one_each n s.line.number (busy_after s.line.actor s.phase busy) lines rising.1 one.1 (begun_below n s lines differs.0 begun))
    ]

-- the follower that stands at a line's place
pub next_at : (n above : ℕ) (lines : List Standing) → RisingBy number_of above lines → (i : ℕ) (s : Standing) → slice_get lines i ≡ Some s → s.line.number ≡ n → slice_get (followers_of (script_of lines)) i ≡ Some (next_of n (script_of lines))
next_at n above [] rising i s stands has = absurd (cc)
next_at n above (x ∷ lines) rising zero s stands has =
    let same : x ≡ s = cc in
    rw (eq-eqb x.line.number n (ap number_of same ∙ has)) refl
next_at n above (x ∷ lines) rising (suc i) s stands has =
    let lower : x.line.number < s.line.number = above_at number_of x.line.number lines rising.1 i s stands in
    let differs : (x.line.number == n) ≡ false = grind (arith, nat_tests) in
    rw differs (next_at n x.line.number lines rising.1 i s stands has)

-- a line hears

-- a change of one line's phase, where it is made and where it isn't
pub change_cases : (P : List Standing → Type 0) (n : ℕ) (f : Phase → Phase) (s : Standing) (lines : List Standing) → P (rephrase f s ∷ change_line n f lines) → P (s ∷ change_line n f lines) → P (change_line n f (s ∷ lines))
change_cases P n f s lines here there = elim (s.line.number == n) as (λ b. P ((if b then rephrase f s else s) ∷ change_line n f lines)) [ true ↦ here | false ↦ there ]

head_hears : (told : Told) (n : ℕ) (p : Phase) (b : Bool) (same more : List ℕ) → start_head n (heard told p) b same more ≡ start_head n p b same more
head_hears told n Waiting b same more = refl
head_hears told n (Begun before) b same more = refl
head_hears told n Replied b same more = refl

pub hear_numbers : (n : ℕ) (told : Told) (busy : List ℕ) (lines : List Standing) → startable_from busy (change_line n (heard told) lines) ≡ startable_from busy lines
hear_numbers n told busy [] = refl
hear_numbers n told busy (s ∷ lines) =
    let same = hear_numbers n told busy lines in
    let more = hear_numbers n told (s.line.actor ∷ busy) lines in
    let below = change_line n (heard told) lines in
    change_cases (λ xs. startable_from busy xs ≡ startable_from busy (s ∷ lines)) n (heard told) s lines
    (startable_step busy (rephrase (heard told) s) below ∙ head_hears told s.line.number s.phase (is_among s.line.actor busy) (startable_from busy below) (startable_from (s.line.actor ∷ busy) below) ∙ (rw (same, more)) ∙ sym (startable_step busy s lines))
    (startable_step busy s below ∙ (rw (same, more)) ∙ sym (startable_step busy s lines))

hear_busy : (told : Told) (actor : ℕ) (p : Phase) (busy : List ℕ) → busy_after actor (heard told p) busy ≡ busy_after actor p busy
hear_busy told actor Waiting busy = refl
hear_busy told actor (Begun before) busy = refl
hear_busy told actor Replied busy = refl

hear_waits : (told : Told) (p : Phase) → p ≡ Waiting → heard told p ≡ Waiting
hear_waits told p waits = rw waits

pub hear_one_each : (n : ℕ) (told : Told) (busy : List ℕ) (lines : List Standing) → OneEach busy lines → OneEach busy (change_line n (heard told) lines)
hear_one_each n told busy [] one = tt
hear_one_each n told busy (s ∷ lines) one =
    let below = hear_one_each n told (busy_after s.line.actor s.phase busy) lines one.1 in
    change_cases (OneEach busy) n (heard told) s lines
    (λ among. hear_waits told s.phase (one.0 among), subst (λ b. OneEach b (change_line n (heard told) lines)) (sym (hear_busy told s.line.actor s.phase busy)) below)
    (one.0, below)

-- the lines themselves stay
pub change_script : (n : ℕ) (f : Phase → Phase) (lines : List Standing) → script_of (change_line n f lines) ≡ script_of lines
change_script n f [] = refl
change_script n f (s ∷ lines) =
    let below = ap (λ xs. s.line ∷ xs) (change_script n f lines) in
    change_cases (λ xs. script_of xs ≡ script_of (s ∷ lines)) n f s lines below below

-- a line that may begin stands and waits
pub record StandsWaiting (n : ℕ) (lines : List Standing) : Type 0 where
  pub standing : Standing
  pub stands : line_at n lines ≡ Some standing
  pub waits : standing.phase ≡ Waiting

waiting_here : (n : ℕ) (busy : List ℕ) (s : Standing) (lines : List Standing) → s.line.number ≡ n → RisingBy number_of s.line.number lines → is_among n (startable_from busy (s ∷ lines)) ≡ true → StandsWaiting n (s ∷ lines)
waiting_here n busy s lines same rising among = record {
  standing = s;
  stands = rw (eq-eqb s.line.number n same) refl;
  waits = (starts_here busy s lines rising (rw (← same) at among)).waits;
}

waiting_below : (n : ℕ) (s : Standing) (lines : List Standing) → (s.line.number == n) ≡ false → StandsWaiting n lines → StandsWaiting n (s ∷ lines)
waiting_below n s lines differs below = record { standing = below.standing; stands = rw differs below.stands; waits = below.waits }

pub stands_waiting : (n above : ℕ) (busy : List ℕ) (lines : List Standing) → RisingBy number_of above lines → is_among n (startable_from busy lines) ≡ true → StandsWaiting n lines
stands_waiting n above busy [] rising among = absurd (cc)
stands_waiting n above busy (s ∷ lines) rising among =
    elim (eqb_tells s.line.number n) [
      | inl same ↦ waiting_here n busy s lines same.1 rising.1 among
      | inr differs ↦ waiting_below n s lines differs.0 (stands_waiting n s.line.number (busy_after s.line.actor s.phase busy) lines rising.1 (among_below n busy s lines differs.0 among))
    ]
