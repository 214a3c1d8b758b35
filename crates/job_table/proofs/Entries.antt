-- The jobs as a map's entries, beside the numbers of the ready ones.
use Rattle.std.proofs.Common.{◌≡◌, ℕ, ◌+◌, ◌<◌, inl, inr, Bool, true, false, ◌&&◌, ◌||◌, not, List, [], ◌∷◌, ◌++◌, Option, Some, None, refl, sym, ap, ◌∙◌, subst, arith, append-nil, nat_cmp, Ordering, Less, Equal, Greater}
use Rattle.std.proofs.lemmas.Bool.{eqb-true}
use Rattle.std.proofs.lemmas.Cmp.{ranked}
use Rattle.std.proofs.lemmas.List.{map-append}
use Rattle.std.specs.BTreeMap.{is_at, insert_entry}
use Rattle.std.specs.List.{AllByRecursion}
use Rattle.std.specs.Map.{lookup, remove_entry, set_value}
use Rattle.std.specs.Ordering.{MatchOrdering}
use Rattle.std.specs.Prelude.{◌==◌, if◌then◌else◌, is_some, slice_get, MatchOption, IfSome}
use Rattle.bucket_model.specs.declared.call.Call.{Call}
use Rattle.mount_model.specs.declared.event.Owner.{Owner}
use Rattle.mount_model.specs.Run.{is_among}
use Rattle.job_table.specs.declared.jobs.Live.{Live}
use Rattle.job_table.specs.declared.purpose.Purpose.{Purpose}
use Rattle.job_table.specs.LiveJobs.{Held, LiveJobs, IsReadyIn, IsOutIn, held_at, taken, with_taken, without, numbers_by, is_ready, is_of_writer, is_ready_of_writer, ready_of_writer}
use Rattle.job_table.specs.Kept.{held_entry, held_in, IsBetween, IsKept}
use Rattle.job_table.specs.ReadyNumbers.{ReadyNumbers, stands_behind, IsLeastBehind, without_number}
use Rattle.job_table.proofs.Numbers.{or_false, among_last, none_among-below, without_number-last, numbers_by-push, numbers_by-all, numbers_by-without, numbers_by-taken, numbers_by-other, left_of_writer, none_first, first_least, ready_in_of_writer}
use Rattle.job_table.proofs.Rising.{same_or_other, upto, taken_none, without_none, between_taken, between_without, between_push, all_below}

abbrev jobs_of : ℕ → List Held → LiveJobs
jobs_of count held = record { count = count; held = held }

-- a new number goes to the end

is_greater : (k x : ℕ) (o : Ordering) → o ≡ nat_cmp k x → MatchOrdering o (k < x) (k ≡ x) (x < k) → x < k → nat_cmp k x ≡ Greater
is_greater k x Less is ranks less = absurd (omega (arith, ranks, less))
is_greater k x Equal is ranks less = absurd (omega (arith, ranks, less))
is_greater k x Greater is ranks less = sym is

pub above : (k x : ℕ) → x < k → nat_cmp k x ≡ Greater
above k x less = is_greater k x (nat_cmp k x) refl (ranked k x (nat_cmp k x) refl) less

insert_last : (k : ℕ) (live : Live) (first last : ℕ) (es : List (ℕ × Live)) → IsBetween first (held_in es) last → last < k → insert_entry nat_cmp es k live ≡ es ++ (k, live) ∷ []
insert_last k live first last [] rises less = refl
insert_last k live first last (e ∷ es) rises less =
    rw (above k e.0 (omega (arith, upto e.0 last (held_in es) rises.1, less))) (ap (λ t. e ∷ t) (insert_last k live e.0 last es rises.1 less))

-- what a look-up finds

pub found_in : (k : ℕ) (es : List (ℕ × Live)) (live : Live) → lookup (is_at (nat_cmp k)) es ≡ Some live → held_at k (held_in es) ≡ Some (held_entry (k, live))
found_in k [] live finds = absurd (cc)
found_in k (e ∷ es) live finds =
    elim (same_or_other k e.0) [
      | inl w ↦
          let here : Some e.1 ≡ Some live = rw w.by_order at finds in
          let same : e.1 ≡ live = cc in
          rw (w.test, w.same, same) refl
      | inr w ↦
          let later : lookup (is_at (nat_cmp k)) es ≡ Some live = rw w.by_order at finds in
          rw w.test (found_in k es live later)
    ]

pub missing_in : (k : ℕ) (es : List (ℕ × Live)) → lookup (is_at (nat_cmp k)) es ≡ None → held_at k (held_in es) ≡ None
missing_in k [] finds = refl
missing_in k (e ∷ es) finds =
    elim (same_or_other k e.0) [
      | inl w ↦
          let here : Some e.1 ≡ None = rw w.by_order at finds in
          absurd (cc)
      | inr w ↦
          let later : lookup (is_at (nat_cmp k)) es ≡ None = rw w.by_order at finds in
          rw w.test (missing_in k es later)
    ]

-- what a change leaves

removed_in : (k first last : ℕ) (es : List (ℕ × Live)) → IsBetween first (held_in es) last → held_in (remove_entry (is_at (nat_cmp k)) es) ≡ without k (held_in es)
removed_in k first last [] rises = refl
removed_in k first last (e ∷ es) rises =
    elim (same_or_other k e.0) [
      | inl w ↦ rw (w.test, w.by_order) (sym (without_none k e.0 last (held_in es) (omega (arith, w.same)) rises.1))
      | inr w ↦ rw (w.test, w.by_order) (ap (λ t. held_entry e ∷ t) (removed_in k e.0 last es rises.1))
    ]

set_in : (k first last : ℕ) (es : List (ℕ × Live)) (old new : Live) → IsBetween first (held_in es) last → lookup (is_at (nat_cmp k)) es ≡ Some old → held_entry (k, new) ≡ taken (held_entry (k, old)) → held_in (set_value (is_at (nat_cmp k)) es new) ≡ with_taken k (held_in es)
set_in k first last [] old new rises finds out = refl
set_in k first last (e ∷ es) old new rises finds out =
    elim (same_or_other k e.0) [
      | inl w ↦
          let here : Some e.1 ≡ Some old = rw w.by_order at finds in
          let same : e.1 ≡ old = cc in
          rw (w.test, w.by_order, w.same, same, taken_none k e.0 last (held_in es) (omega (arith, w.same)) rises.1) (ap (λ h. h ∷ held_in es) out)
      | inr w ↦
          let later : lookup (is_at (nat_cmp k)) es ≡ Some old = rw w.by_order at finds in
          rw (w.test, w.by_order) (ap (λ t. held_entry e ∷ t) (set_in k e.0 last es old new rises.1 later out))
    ]

-- one job more

abbrev pub ready_live : Owner → ℕ → Call → Purpose → Live
ready_live owner line called purpose = record { owner = owner; line = line; call = Some called; purpose = purpose }

held_more : (es more : List (ℕ × Live)) (ready : ReadyNumbers) (count number : ℕ) (live : Live) → IsKept es ready count → number ≡ count + 1 → more ≡ insert_entry nat_cmp es number live → held_in more ≡ held_in es ++ held_entry (number, live) ∷ []
held_more es more ready count number live kept next is =
    ap held_in (is ∙ insert_last number live 0 count es kept.rises (omega (arith, next))) ∙ map-append held_entry es ((number, live) ∷ [])

pub adds_one : (es more : List (ℕ × Live)) (ready : ReadyNumbers) (count number : ℕ) (live : Live) → IsKept es ready count → number ≡ count + 1 → more ≡ insert_entry nat_cmp es number live → jobs_of number (held_in more) ≡ jobs_of (count + 1) (held_in es ++ held_entry (count + 1, live) ∷ [])
adds_one es more ready count number live kept next is = rw (held_more es more ready count number live kept next is, next) refl

-- the new number is above all
pub numbers_below : (es : List (ℕ × Live)) (ready : ReadyNumbers) (count number : ℕ) → IsKept es ready count → number ≡ count + 1 → AllByRecursion (λ n. n < number) ready.numbers
numbers_below es ready count number kept next = subst (AllByRecursion (λ n. n < number)) (sym kept.numbers) (numbers_by-all is_ready (λ n. n < number) (held_in es) (all_below number 0 count (held_in es) kept.rises (omega (arith, next))))

none_behind : (es : List (ℕ × Live)) (ready : ReadyNumbers) (count number line : ℕ) → IsKept es ready count → number ≡ count + 1 → stands_behind line number ready.of_writers ≡ false
none_behind es ready count number line kept next =
    kept.of_writers line number ∙ none_among-below number (ready_of_writer line (held_in es)) (numbers_by-all (is_ready_of_writer line) (λ n. n < number) (held_in es) (all_below number 0 count (held_in es) kept.rises (omega (arith, next))))

-- what one number more in the sets means
pub record HasMore (owner : Owner) (number : ℕ) (old new : ReadyNumbers) : Type 0 where
  pub numbers : new.numbers ≡ old.numbers ++ number ∷ []
  pub of_writers : (line n : ℕ) → stands_behind line n new.of_writers ≡ (stands_behind line n old.of_writers || (is_of_writer line owner && (number == n)))

-- and one less
pub record HasLess (owner : Owner) (number : ℕ) (old new : ReadyNumbers) : Type 0 where
  pub numbers : new.numbers ≡ without_number number old.numbers
  pub of_writers : (line n : ℕ) → stands_behind line n new.of_writers ≡ (stands_behind line n old.of_writers && not (is_of_writer line owner && (number == n)))

among_more : (n number line : ℕ) (owner : Owner) (ns : List ℕ) (b : Bool) → is_of_writer line owner ≡ b → is_among n (ns ++ (if b then number ∷ [] else [])) ≡ (is_among n ns || (is_of_writer line owner && (number == n)))
among_more n number line owner ns true e = rw e (among_last n number ns)
among_more n number line owner ns false e = rw (e, append-nil ns) (sym (or_false (is_among n ns)))

pub keeps_more : (es more : List (ℕ × Live)) (ready now : ReadyNumbers) (count number line : ℕ) (owner : Owner) (called : Call) (purpose : Purpose) → IsKept es ready count → number ≡ count + 1 → HasMore owner number ready now → more ≡ insert_entry nat_cmp es number (ready_live owner line called purpose) → IsKept more now number
keeps_more es more ready now count number line owner called purpose kept next added is =
    let h : Held = held_entry (number, ready_live owner line called purpose) in
    let same : held_in more ≡ held_in es ++ h ∷ [] = held_more es more ready count number (ready_live owner line called purpose) kept next is in
    record {
      rises = rw same (between_push 0 count (held_in es) h kept.rises (omega (arith, next)));
      numbers = rw same (added.numbers ∙ ap (λ t. t ++ number ∷ []) kept.numbers ∙ sym (numbers_by-push is_ready (held_in es) h));
      of_writers = λ opened n.
          rw same
          (added.of_writers opened n
          ∙ ap (λ b. b || (is_of_writer opened owner && (number == n))) (kept.of_writers opened n)
          ∙ sym (ap (is_among n) (numbers_by-push (is_ready_of_writer opened) (held_in es) h) ∙ among_more n number opened owner (ready_of_writer opened (held_in es)) (is_of_writer opened owner) refl));
    }

and_right : (a b : Bool) → (a && b) ≡ true → b ≡ true
and_right true b e = e
and_right false b e = absurd (cc)

back : (a x : Bool) → (x ≡ true → a ≡ false) → ((a || x) && not x) ≡ a
back true true new = sym (new refl)
back false true new = refl
back true false new = refl
back false false new = refl

-- a number that was added goes again
pub keeps_undone : (es same : List (ℕ × Live)) (ready now left : ReadyNumbers) (count number : ℕ) (owner : Owner) → IsKept es ready count → number ≡ count + 1 → HasMore owner number ready now → same ≡ es → HasLess owner number now left → IsKept same left count
keeps_undone es same ready now left count number owner kept next added is removed = record {
  rises = rw is kept.rises;
  numbers = rw is (removed.numbers ∙ ap (without_number number) added.numbers ∙ without_number-last number ready.numbers (numbers_below es ready count number kept next) ∙ kept.numbers);
  of_writers = λ line n.
      let this : Bool = is_of_writer line owner && (number == n) in
      let new : this ≡ true → stands_behind line n ready.of_writers ≡ false = λ e. subst (λ m. stands_behind line m ready.of_writers ≡ false) (eqb-true number n (and_right (is_of_writer line owner) (number == n) e)) (none_behind es ready count number line kept next) in
      rw is (removed.of_writers line n ∙ ap (λ b. b && not this) (added.of_writers line n) ∙ back (stands_behind line n ready.of_writers) this new ∙ kept.of_writers line n);
}

-- one job less that is ready

keeps_less : (k : ℕ) (es after : List (ℕ × Live)) (ready now : ReadyNumbers) (count : ℕ) (live : Live) → IsKept es ready count → held_at k (held_in es) ≡ Some (held_entry (k, live)) → HasLess live.owner k ready now → IsBetween 0 (held_in after) count → ((passes : Held → Bool) → ((h : Held) → passes (taken h) ≡ false) → numbers_by passes (held_in after) ≡ without_number k (numbers_by passes (held_in es))) → IsKept after now count
keeps_less k es after ready now count live kept stands removed rises lose = record {
  rises = rises;
  numbers = removed.numbers ∙ ap (without_number k) kept.numbers ∙ sym (lose is_ready (λ h. refl));
  of_writers = λ line n.
      removed.of_writers line n
      ∙ ap (λ b. b && not (is_of_writer line live.owner && (k == n))) (kept.of_writers line n)
      ∙ sym (ap (is_among n) (lose (is_ready_of_writer line) (λ h. refl)) ∙ left_of_writer line k n 0 count (held_in es) (held_entry (k, live)) kept.rises stands);
}

abbrev pub with_call : Option Call → Live → Live
with_call called live = record { owner = live.owner; line = live.line; call = called; purpose = live.purpose }

pub held_taken : (k : ℕ) (es after : List (ℕ × Live)) (ready : ReadyNumbers) (count : ℕ) (old new : Live) → IsKept es ready count → lookup (is_at (nat_cmp k)) es ≡ Some old → after ≡ set_value (is_at (nat_cmp k)) es new → held_entry (k, new) ≡ taken (held_entry (k, old)) → held_in after ≡ with_taken k (held_in es)
held_taken k es after ready count old new kept finds is out = ap held_in is ∙ set_in k 0 count es old new kept.rises finds out

pub keeps_taken : (k : ℕ) (es after : List (ℕ × Live)) (ready now : ReadyNumbers) (count : ℕ) (live : Live) → IsKept es ready count → held_in after ≡ with_taken k (held_in es) → lookup (is_at (nat_cmp k)) es ≡ Some live → HasLess live.owner k ready now → IsKept after now count
keeps_taken k es after ready now count live kept same finds removed =
    keeps_less k es after ready now count live kept (found_in k es live finds) removed
    (rw same (between_taken k 0 count (held_in es) kept.rises))
    (λ passes leaves. rw same (numbers_by-taken passes leaves k (held_in es)))

pub held_without : (k : ℕ) (es after : List (ℕ × Live)) (ready : ReadyNumbers) (count : ℕ) → IsKept es ready count → after ≡ remove_entry (is_at (nat_cmp k)) es → held_in after ≡ without k (held_in es)
held_without k es after ready count kept is = ap held_in is ∙ removed_in k 0 count es kept.rises

pub keeps_dropped : (k : ℕ) (es after : List (ℕ × Live)) (ready now : ReadyNumbers) (count : ℕ) (live : Live) → IsKept es ready count → after ≡ remove_entry (is_at (nat_cmp k)) es → lookup (is_at (nat_cmp k)) es ≡ Some live → HasLess live.owner k ready now → IsKept after now count
keeps_dropped k es after ready now count live kept is finds removed =
    let same : held_in after ≡ without k (held_in es) = held_without k es after ready count kept is in
    keeps_less k es after ready now count live kept (found_in k es live finds) removed
    (rw same (between_without k 0 count (held_in es) kept.rises))
    (λ passes leaves. rw same (numbers_by-without passes k (held_in es)))

-- one job less that is out
pub keeps_done : (k : ℕ) (es after : List (ℕ × Live)) (ready : ReadyNumbers) (count : ℕ) → IsKept es ready count → IsOutIn k (held_in es) → after ≡ remove_entry (is_at (nat_cmp k)) es → IsKept after ready count
keeps_done k es after ready count kept out is =
    let same : held_in after ≡ without k (held_in es) = held_without k es after ready count kept is in
    let stay : (passes : Held → Bool) → passes out.job ≡ false → numbers_by passes (without k (held_in es)) ≡ numbers_by passes (held_in es) = λ passes fails. numbers_by-without passes k (held_in es) ∙ numbers_by-other passes k 0 count (held_in es) out.job kept.rises out.stands fails in
    record {
      rises = rw same (between_without k 0 count (held_in es) kept.rises);
      numbers = rw same (kept.numbers ∙ sym (stay is_ready (ap is_some out.is_out)));
      of_writers = λ line n. rw same (kept.of_writers line n ∙ sym (ap (is_among n) (stay (is_ready_of_writer line) (ap (λ called. is_some called && is_of_writer line out.job.owner) out.is_out))));
    }

pub entry_stands : (k : ℕ) (es : List (ℕ × Live)) (job : Held) → held_at k (held_in es) ≡ Some job → None ≡ lookup (is_at (nat_cmp k)) es → ⊥
entry_stands k es job stands finds =
    let none : held_at k (held_in es) ≡ None = missing_in k es (sym finds) in
    absurd (cc)

pub entry_is : (k : ℕ) (es : List (ℕ × Live)) (job : Held) (live : Live) → held_at k (held_in es) ≡ Some job → Some live ≡ lookup (is_at (nat_cmp k)) es → job ≡ held_entry (k, live)
entry_is k es job live stands finds =
    let some : held_at k (held_in es) ≡ Some (held_entry (k, live)) = found_in k es live (sym finds) in
    cc

-- the first job of a writer

pub first_of : (line : ℕ) (es : List (ℕ × Live)) (ready : ReadyNumbers) (count : ℕ) (first : Option ℕ) → IsKept es ready count → MatchOption first ((n : ℕ) → stands_behind line n ready.of_writers ≡ false) (λ n. IsLeastBehind line ready.of_writers n) → first ≡ slice_get (ready_of_writer line (held_in es)) 0
first_of line es ready count None kept none = none_first (ready_of_writer line (held_in es)) (λ n. sym (kept.of_writers line n) ∙ none n)
first_of line es ready count (Some k) kept is =
    first_least (is_ready_of_writer line) k 0 count (held_in es) kept.rises (sym (kept.of_writers line k) ∙ is.stands) (λ n there. is.least n (kept.of_writers line n ∙ there))

pub first_is_ready : (line : ℕ) (es : List (ℕ × Live)) (ready : ReadyNumbers) (count : ℕ) (first : Option ℕ) → IsKept es ready count → MatchOption first ((n : ℕ) → stands_behind line n ready.of_writers ≡ false) (λ n. IsLeastBehind line ready.of_writers n) → IfSome first (λ k. IsReadyIn k (held_in es))
first_is_ready line es ready count None kept none = tt
first_is_ready line es ready count (Some k) kept is = ready_in_of_writer line k 0 count (held_in es) kept.rises (sym (kept.of_writers line k) ∙ is.stands)
