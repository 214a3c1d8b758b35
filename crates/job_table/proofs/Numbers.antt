-- The numbers of the jobs that pass a test.
use Rattle.std.proofs.Common.{◌≡◌, ℕ, ◌<◌, ◌≤◌, inl, inr, Bool, true, false, ◌&&◌, ◌||◌, not, List, [], ◌∷◌, ◌++◌, Option, Some, None, slice_get, refl, sym, ap, ◌∙◌, subst, arith}
use Rattle.std.proofs.lemmas.Bool.{eq-eqb}
use Rattle.std.proofs.lemmas.Bool.Decides.{eqb_tells, nat_tests}
use Rattle.std.proofs.lemmas.List.{map-append}
use Rattle.std.proofs.lemmas.List.Elements.{filter-append}
use Rattle.std.proofs.lemmas.List.Folds.{list_any-append}
use Rattle.std.specs.List.{AllByRecursion, filter}
use Rattle.std.specs.Prelude.{◌==◌, if◌then◌else◌, map}
use Rattle.bucket_model.specs.declared.call.Call.{Call}
use Rattle.mount_model.specs.Run.{is_among}
use Rattle.job_table.specs.LiveJobs.{Held, IsReadyIn, held_at, taken, with_taken, without, numbers_by, is_ready, is_of_writer, is_ready_of_writer, ready_of_writer}
use Rattle.job_table.specs.Kept.{IsBetween}
use Rattle.job_table.specs.ReadyNumbers.{without_number}
use Rattle.job_table.proofs.Rising.{IsSame, IsOther, same_or_other, all_above}

-- lists of numbers

pub among-without_number : (k n : ℕ) (ns : List ℕ) → is_among n (without_number k ns) ≡ (is_among n ns && not (k == n))
among-without_number k n [] = refl
among-without_number k n (x ∷ ns) = by_test (x == k) refl (among-without_number k n ns)
  where
    by_test : (b : Bool) → (x == k) ≡ b → is_among n (without_number k ns) ≡ (is_among n ns && not (k == n)) → is_among n (without_number k (x ∷ ns)) ≡ (((x == n) || is_among n ns) && not (k == n))
    by_test true e rest = rw (e, rest) (grind (arith, nat_tests, e))
    by_test false e rest = rw (e, rest) (grind (arith, nat_tests, e))

-- a number that is none of them is no loss
pub without_number-none : (k : ℕ) (ns : List ℕ) → AllByRecursion (λ n. k < n) ns → without_number k ns ≡ ns
without_number-none k [] all = refl
without_number-none k (x ∷ ns) all =
    let apart : (x == k) ≡ false = grind (arith, nat_tests, all.0) in
    rw apart (ap (λ t. x ∷ t) (without_number-none k ns all.1))

-- the last one goes as it came
pub without_number-last : (k : ℕ) (ns : List ℕ) → AllByRecursion (λ n. n < k) ns → without_number k (ns ++ k ∷ []) ≡ ns
without_number-last k [] all = rw (eq-eqb k k refl) refl
without_number-last k (x ∷ ns) all =
    let apart : (x == k) ≡ false = grind (arith, nat_tests, all.0) in
    rw apart (ap (λ t. x ∷ t) (without_number-last k ns all.1))

pub none_among-below : (k : ℕ) (ns : List ℕ) → AllByRecursion (λ n. n < k) ns → is_among k ns ≡ false
none_among-below k [] all = refl
none_among-below k (x ∷ ns) all =
    let apart : (x == k) ≡ false = grind (arith, nat_tests, all.0) in
    rw apart (none_among-below k ns all.1)

pub none_among-above : (k : ℕ) (ns : List ℕ) → AllByRecursion (λ n. k < n) ns → is_among k ns ≡ false
none_among-above k [] all = refl
none_among-above k (x ∷ ns) all =
    let apart : (x == k) ≡ false = grind (arith, nat_tests, all.0) in
    rw apart (none_among-above k ns all.1)

pub or_false : (b : Bool) → (b || false) ≡ b
or_false true = refl
or_false false = refl

pub and_true : (b : Bool) → b ≡ (b && true)
and_true true = refl
and_true false = refl

pub among_last : (n k : ℕ) (ns : List ℕ) → is_among n (ns ++ k ∷ []) ≡ (is_among n ns || (k == n))
among_last n k ns = list_any-append (λ m. m == n) ns (k ∷ []) ∙ ap (λ b. is_among n ns || b) (or_false (k == n))

-- what holds of all holds of one of them
all_among : (P : ℕ → Type 0) (k : ℕ) (ns : List ℕ) → AllByRecursion P ns → is_among k ns ≡ true → P k
all_among P k [] all among = absurd (cc)
all_among P k (x ∷ ns) all among =
    elim (eqb_tells x k) [
      | inl same ↦ subst P same.1 all.0
      | inr differs ↦ all_among P k ns all.1 (rw differs.0 at among)
    ]

pub none_first : (ns : List ℕ) → ((n : ℕ) → is_among n ns ≡ false) → None ≡ slice_get ns 0
none_first [] none = refl
none_first (x ∷ ns) none =
    let here : is_among x (x ∷ ns) ≡ true = rw (eq-eqb x x refl) refl in
    let nowhere : is_among x (x ∷ ns) ≡ false = none x in
    absurd (cc)

module _ (passes : Held → Bool) where
  -- one job more in front
  numbers_by-yes : (h : Held) (held : List Held) → passes h ≡ true → numbers_by passes (h ∷ held) ≡ h.number ∷ numbers_by passes held
  numbers_by-yes h held e = rw e refl

  numbers_by-no : (h : Held) (held : List Held) → passes h ≡ false → numbers_by passes (h ∷ held) ≡ numbers_by passes held
  numbers_by-no h held e = rw e refl

  -- and behind
  pub numbers_by-push : (held : List Held) (h : Held) → numbers_by passes (held ++ h ∷ []) ≡ numbers_by passes held ++ (if passes h then h.number ∷ [] else [])
  numbers_by-push held h =
      ap (map (λ (j : Held). j.number)) (filter-append passes held (h ∷ [])) ∙ (map-append (λ (j : Held). j.number) (filter passes held) (filter passes (h ∷ [])) ∙ ap (λ t. numbers_by passes held ++ t) (by_test (passes h) refl))
    where
      by_test : (b : Bool) → passes h ≡ b → numbers_by passes (h ∷ []) ≡ (if b then h.number ∷ [] else [])
      by_test true e = numbers_by-yes h [] e
      by_test false e = numbers_by-no h [] e

  -- what holds of each job's number holds of each of these
  pub numbers_by-all : (P : ℕ → Type 0) (held : List Held) → AllByRecursion (λ (h : Held). P h.number) held → AllByRecursion P (numbers_by passes held)
  numbers_by-all P [] all = tt
  numbers_by-all P (h ∷ held) all = by_test (passes h) refl (numbers_by-all P held all.1)
    where
      by_test : (b : Bool) → passes h ≡ b → AllByRecursion P (numbers_by passes held) → AllByRecursion P (numbers_by passes (h ∷ held))
      by_test true e rest = subst (AllByRecursion P) (sym (numbers_by-yes h held e)) (all.0, rest)
      by_test false e rest = subst (AllByRecursion P) (sym (numbers_by-no h held e)) rest

  -- one job less
  pub numbers_by-without : (k : ℕ) (held : List Held) → numbers_by passes (without k held) ≡ without_number k (numbers_by passes held)
  numbers_by-without k [] = refl
  numbers_by-without k (h ∷ held) = by_tests (passes h) refl (h.number == k) refl (numbers_by-without k held)
    where
      by_tests : (b : Bool) → passes h ≡ b → (c : Bool) → (h.number == k) ≡ c → numbers_by passes (without k held) ≡ without_number k (numbers_by passes held) → numbers_by passes (without k (h ∷ held)) ≡ without_number k (numbers_by passes (h ∷ held))
      by_tests true e true same rest = rw (same, e, same) rest
      by_tests true e false same rest = rw (same, e, same) (ap (λ t. h.number ∷ t) rest)
      by_tests false e true same rest = rw (same, e) rest
      by_tests false e false same rest = rw (same, e) rest

  -- and one that doesn't pass once it is taken
  pub numbers_by-taken : ((h : Held) → passes (taken h) ≡ false) → (k : ℕ) (held : List Held) → numbers_by passes (with_taken k held) ≡ without_number k (numbers_by passes held)
  numbers_by-taken leaves k [] = refl
  numbers_by-taken leaves k (h ∷ held) = by_tests (passes h) refl (h.number == k) refl (numbers_by-taken leaves k held)
    where
      by_tests : (b : Bool) → passes h ≡ b → (c : Bool) → (h.number == k) ≡ c → numbers_by passes (with_taken k held) ≡ without_number k (numbers_by passes held) → numbers_by passes (with_taken k (h ∷ held)) ≡ without_number k (numbers_by passes (h ∷ held))
      by_tests true e true same rest = rw (same, e, same, leaves h) rest
      by_tests true e false same rest = rw (same, e, same) (ap (λ t. h.number ∷ t) rest)
      by_tests false e true same rest = rw (same, e, leaves h) rest
      by_tests false e false same rest = rw (same, e) rest

  numbers_by-above : (first last : ℕ) (held : List Held) → IsBetween first held last → AllByRecursion (λ n. first < n) (numbers_by passes held)
  numbers_by-above first last held rises = numbers_by-all (λ n. first < n) held (all_above first last held rises)

  -- a job that doesn't pass has no number among them
  pub numbers_by-other : (k first last : ℕ) (held : List Held) (job : Held) → IsBetween first held last → held_at k held ≡ Some job → passes job ≡ false → without_number k (numbers_by passes held) ≡ numbers_by passes held
  numbers_by-other k first last [] job rises stands fails = refl
  numbers_by-other k first last (h ∷ held) job rises stands fails =
      elim (same_or_other k h.number) [
        | inl w ↦
            let here : Some h ≡ Some job = rw w.test at stands in
            let same : h ≡ job = cc in
            rw (ap passes same ∙ fails) (without_number-none k (numbers_by passes held) (subst (λ m. AllByRecursion (λ n. m < n) (numbers_by passes held)) w.same (numbers_by-above h.number last held rises.1)))
        | inr w ↦
            let below : held_at k held ≡ Some job = rw w.test at stands in
            by_test w (passes h) refl (numbers_by-other k h.number last held job rises.1 below fails)
      ]
    where
      by_test : IsOther k h.number → (b : Bool) → passes h ≡ b → without_number k (numbers_by passes held) ≡ numbers_by passes held → without_number k (numbers_by passes (h ∷ held)) ≡ numbers_by passes (h ∷ held)
      by_test w true e rest = rw (e, w.test) (ap (λ t. h.number ∷ t) rest)
      by_test w false e rest = rw e rest

  -- whose number it is
  pub record IsNumberOf (k : ℕ) (held : List Held) : Type 0 where
    pub job : Held
    pub stands : held_at k held ≡ Some job
    pub pass : passes job ≡ true

  pub number_of : (k first last : ℕ) (held : List Held) → IsBetween first held last → is_among k (numbers_by passes held) ≡ true → IsNumberOf k held
  number_of k first last [] rises among = absurd (cc)
  number_of k first last (h ∷ held) rises among =
      elim (same_or_other k h.number) [
        | inl w ↦ here w (passes h) refl
        | inr w ↦ there w (number_of k h.number last held rises.1 (below w (passes h) refl))
      ]
    where
      here : IsSame k h.number → (b : Bool) → passes h ≡ b → IsNumberOf k (h ∷ held)
      here w true e = record { job = h; stands = rw w.test refl; pass = e }
      here w false e =
          let none : is_among k (numbers_by passes held) ≡ false = none_among-above k (numbers_by passes held) (subst (λ m. AllByRecursion (λ n. m < n) (numbers_by passes held)) w.same (numbers_by-above h.number last held rises.1)) in
          let some : is_among k (numbers_by passes held) ≡ true = rw e at among in
          absurd (cc)

      there : IsOther k h.number → IsNumberOf k held → IsNumberOf k (h ∷ held)
      there w found = record { job = found.job; stands = rw w.test found.stands; pass = found.pass }

      below : IsOther k h.number → (b : Bool) → passes h ≡ b → is_among k (numbers_by passes held) ≡ true
      below w true e = rw (e, w.test) at among
      below w false e = rw e at among

  -- the least of them is the first
  pub first_least : (k first last : ℕ) (held : List Held) → IsBetween first held last → is_among k (numbers_by passes held) ≡ true → ((n : ℕ) → is_among n (numbers_by passes held) ≡ true → k ≤ n) → Some k ≡ slice_get (numbers_by passes held) 0
  first_least k first last [] rises among least = absurd (cc)
  first_least k first last (h ∷ held) rises among least = by_test (passes h) refl (first_least k h.number last held rises.1)
    where
      by_test : (b : Bool) → passes h ≡ b → (is_among k (numbers_by passes held) ≡ true → ((n : ℕ) → is_among n (numbers_by passes held) ≡ true → k ≤ n) → Some k ≡ slice_get (numbers_by passes held) 0) → Some k ≡ slice_get (numbers_by passes (h ∷ held)) 0
      by_test true e below =
          let first : is_among h.number (numbers_by passes (h ∷ held)) ≡ true = rw (e, eq-eqb h.number h.number refl) refl in
          let le : k ≤ h.number = least h.number first in
          elim (eqb_tells h.number k) [
            | inl same ↦ rw e (ap Some (sym same.1))
            | inr differs ↦
                let later : is_among k (numbers_by passes held) ≡ true = rw (e, differs.0) at among in
                let less : h.number < k = all_among (λ n. h.number < n) k (numbers_by passes held) (numbers_by-above h.number last held rises.1) later in
                absurd (omega (arith, le, less))
          ]
      by_test false e below = rw e (below (rw e at among) (λ n is. least n (rw e is)))

-- the jobs of a writer

-- a job that goes leaves the numbers of its own writer, and no other's
pub left_of_writer : (line k n first last : ℕ) (held : List Held) (job : Held) → IsBetween first held last → held_at k held ≡ Some job → is_among n (without_number k (ready_of_writer line held)) ≡ (is_among n (ready_of_writer line held) && not (is_of_writer line job.owner && (k == n)))
left_of_writer line k n first last held job rises stands = by_owner (is_of_writer line job.owner) refl
  where
    ns : List ℕ
    ns = ready_of_writer line held

    and_false : (a b : Bool) → b ≡ false → (a && b) ≡ false
    and_false true b e = e
    and_false false b e = refl

    by_owner : (b : Bool) → is_of_writer line job.owner ≡ b → is_among n (without_number k ns) ≡ (is_among n ns && not (b && (k == n)))
    by_owner true e = among-without_number k n ns
    by_owner false e = ap (is_among n) (numbers_by-other (is_ready_of_writer line) k first last held job rises stands (and_false (is_ready job) (is_of_writer line job.owner) e)) ∙ and_true (is_among n ns)

-- each of its numbers is that of a ready job
pub ready_in_of_writer : (line k first last : ℕ) (held : List Held) → IsBetween first held last → is_among k (ready_of_writer line held) ≡ true → IsReadyIn k held
ready_in_of_writer line k first last held rises among =
    let found : IsNumberOf (is_ready_of_writer line) k held = number_of (is_ready_of_writer line) k first last held rises among in
    by_call found.job found.job.call refl found.stands found.pass
  where
    by_call : (job : Held) (call : Option Call) → job.call ≡ call → held_at k held ≡ Some job → is_ready_of_writer line job ≡ true → IsReadyIn k held
    by_call job None e stands pass = absurd (cc (rw e at pass))
    by_call job (Some called) e stands pass = record { job = job; stands = stands; called = called; waits = e }
