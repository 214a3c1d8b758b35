-- What a line's begin, a job's take with its call, and a job's end leave between two turns.
use Rattle.std.proofs.Common.{◌≡◌, ◌≢◌, ℕ, ◌<◌, ◌≤◌, Bool, true, false, ◌==◌, ◌||◌, if◌then◌else◌, List, [], ◌∷◌, ◌++◌, fold, Option, Some, None, refl, sym, ap, ◌∙◌, subst, inl, inr, arith, ne_eqb, append-nil}
use Rattle.mp_types.specs.declared.options.Opts.{Opts}
use Rattle.mp_types.proofs.Lists.{each-push}
use Rattle.std.specs.List.{AllByRecursion}
use Rattle.bucket_model.specs.declared.call.Call.{Call}
use Rattle.bucket_model.specs.Answers.{brief_of, bytes_in, fits, is_counted}
use Rattle.bucket_model.specs.History.{History}
use Rattle.bucket_model.proofs.Along.{Along-push}
use Rattle.store_trait.specs.Told.{BringsSlice, Tells}
use Rattle.mount_model.specs.declared.event.Event.TheVariants.{Begin, Take, Done}
use Rattle.mount_model.specs.declared.event.Ask.{Ask}
use Rattle.mount_model.specs.declared.event.Answered.{Answered}
use Rattle.mount_model.specs.declared.request.Line.{Line}
use Rattle.mount_model.specs.Step.{Step}
use Rattle.mount_model.specs.State.{ClientState, Job, Out, Gone, NoTurn, opening, after, state_after, job_at, change_job, in_phase, turn_at}
use Rattle.mount_model.specs.Reads.{GivesOnly, IsReadReply}
use Rattle.mount_model.specs.Run.{IsLegalStep, is_among}
use Rattle.run_laws.proofs.Slices.{run_begun_reads, run_done_reads, run_taken_reads}
use Rattle.run_laws.proofs.Alive.{alive}
use Rattle.run_laws.proofs.Dropped.{drop_one}
use Rattle.mp_driver.specs.declared.held.HeldAnswer.{HeldAnswer}
use Rattle.mount_model.specs.Reads.{ReadsOver}
use Rattle.mp_driver.specs.Held.{IsWith}
use Rattle.mp_driver.proofs.Positions.{not_among-below, below-more}
use Rattle.mp_driver.proofs.ByJob.{answer_for-job}
use Rattle.mp_driver.proofs.Between.{HasToldEntry, IsOwed, IsBetween}
use Rattle.mp_driver.proofs.Growth.{grows-none, owed-more, reads-more, tells-grow, tells-entry}
use Rattle.mp_driver.proofs.Jobs.{job_at-change, job_at-other, ready_stands, known-taken, known-done, known-after}
use Rattle.mp_driver.proofs.Stays.{out_stays}
use Rattle.mp_driver.proofs.Ties.{in_less, in_more, tied-begun, tied-taken, tied-done}

-- reads, at first and one step more

pub reads-none : (told : Option History) (options : Opts) (script : List Line) → ReadsOver told options script []
reads-none None options script = tt
reads-none (Some told) options script = tt

reads-push : (told : Option History) (options : Opts) (script : List Line) (steps : List Step) (step : Step) → ((history : History) → told ≡ Some history → AllByRecursion (IsReadReply history.versions (state_after options script steps)) step.replies) → ReadsOver told options script steps → ReadsOver told options script (steps ++ step ∷ [])
reads-push None options script steps step fine reads = tt
reads-push (Some told) options script steps step fine reads = Along-push (λ state (step : Step). AllByRecursion (IsReadReply told.versions state) step.replies) after (opening options script) steps step reads (fine told refl)

-- a line begins
pub begun-at : (told : Option History) (position start : ℕ) (is_alone : Type 0) (held : List HeldAnswer) (options : Opts) (script : List Line) (steps : List Step) (line time : ℕ) (drops : List ℕ) (asks : List Ask) (replies : List Answered) →
    IsLegalStep (state_after options script steps) (record { event = Begin line time; drops = drops; asks = asks; replies = replies }) →
    AllByRecursion (GivesOnly []) replies →
    IsBetween told position start is_alone held options script steps (state_after options script steps) →
    IsBetween told position start is_alone held options script (steps ++ record { event = Begin line time; drops = drops; asks = asks; replies = replies } ∷ []) (after (state_after options script steps) (record { event = Begin line time; drops = drops; asks = asks; replies = replies }))
begun-at told position start is_alone held options script steps line time drops asks replies legal gives between =
    let state : ClientState = state_after options script steps in
    let step : Step = record { event = Begin line time; drops = drops; asks = asks; replies = replies } in
    record {
      so_far = Along-push IsLegalStep after (opening options script) steps step between.so_far legal;
      grown = between.grown;
      known = known-after held state.jobs step (turn_at state step.event) between.known;
      owed = λ served job got stands. owed-more told told state.jobs _ got (grows-none told) (λ j from is out. out_stays state step got.job from j (alive options script steps served.0 served.1 between.so_far) legal is out) (between.owed served job got stands);
      behind = between.behind;
      below = between.below;
      fresh = between.fresh;
      apart = between.apart;
      tied = tied-begun told options script start is_alone held steps step state.positions line time refl between.tied;
      reads = λ served. reads-push told options script steps step (λ history is. run_begun_reads history.versions options script steps step line time served.0 served.1 between.so_far legal refl gives) (between.reads served);
    }

-- a job is taken: it is out, and nothing else is asked for or dropped

taken-jobs : (job before time : ℕ) (state : ClientState) (drops : List ℕ) (asks : List Ask) (replies : List Answered) → IsLegalStep state (record { event = Take job time before; drops = drops; asks = asks; replies = replies }) → (after state (record { event = Take job time before; drops = drops; asks = asks; replies = replies })).jobs ≡ change_job job (Out before) state.jobs
taken-jobs job before time state drops asks replies legal = ap (fold drop_one (change_job job (Out before) state.jobs ++ [])) legal.turn.2 ∙ append-nil (change_job job (Out before) state.jobs)

-- its answer is owed
pub taken-owed : (was now : Option History) (before behind : ℕ) (alone_then : Type 0) (asked : Call) (got : HeldAnswer) (state : ClientState) (time : ℕ) (drops : List ℕ) (asks : List Ask) (replies : List Answered) →
    IsLegalStep state (record { event = Take got.job time before; drops = drops; asks = asks; replies = replies }) →
    ((j : Job) → job_at got.job state.jobs ≡ Some j → asked ≡ j.call) →
    fits asked (brief_of got.answer) ≡ true →
    before ≤ got.position →
    Tells alone_then asked got.position (brief_of got.answer) was now →
    BringsSlice asked got.answer now →
    IsOwed now (after state (record { event = Take got.job time before; drops = drops; asks = asks; replies = replies })).jobs got
taken-owed was now before behind alone_then asked got state time drops asks replies legal calls kind above tells slice =
    let there = ready_stands got.job state.jobs legal.may_come.1 in
    let is : asked ≡ there.0.call = calls there.0 there.1 in
    record {
      job = in_phase (Out before) there.0;
      stands = ap (job_at got.job) (taken-jobs got.job before time state drops asks replies legal) ∙ job_at-change got.job (Out before) state.jobs there.0 there.1;
      from = before;
      is_out = refl;
      kind = subst (λ (c : Call). fits c (brief_of got.answer) ≡ true) is kind;
      behind = above;
      slice = subst (λ (c : Call). BringsSlice c got.answer now) is slice;
      entry = λ counted. subst (λ (c : Call). HasToldEntry now got.position c (brief_of got.answer)) is (tells-entry alone_then asked got.position (brief_of got.answer) was now counted tells);
    }

-- and its call's answer is held
pub taken-at : (was now : Option History) (before behind start : ℕ) (is_alone alone_then : Type 0) (asked : Call) (got : HeldAnswer) (less more : List HeldAnswer) (options : Opts) (script : List Line) (steps : List Step) (time : ℕ) (drops : List ℕ) (asks : List Ask) (replies : List Answered) →
    IsLegalStep (state_after options script steps) (record { event = Take got.job time before; drops = drops; asks = asks; replies = replies }) →
    ((j : Job) → job_at got.job (state_after options script steps).jobs ≡ Some j → asked ≡ j.call) →
    fits asked (brief_of got.answer) ≡ true →
    before ≤ got.position →
    (is_counted (brief_of got.answer) ≡ true → got.position < behind) →
    before ≤ behind →
    (is_alone → alone_then) →
    Tells alone_then asked got.position (brief_of got.answer) was now →
    BringsSlice asked got.answer now →
    IsWith got less more →
    IsBetween was before start is_alone less options script steps (state_after options script steps) →
    IsBetween now behind start is_alone more options script (steps ++ record { event = Take got.job time before; drops = drops; asks = asks; replies = replies } ∷ []) (after (state_after options script steps) (record { event = Take got.job time before; drops = drops; asks = asks; replies = replies }))
taken-at was now before behind start is_alone alone_then asked got less more options script steps time drops asks replies legal calls kind above counted grows alone tells slice with between = record {
  so_far = Along-push IsLegalStep after (opening options script) steps step between.so_far legal;
  grown = omega (arith, between.grown);
  known = known-after more state.jobs step NoTurn (known-taken got less more before state.jobs with between.known);
  owed = λ served job h stands. elim (in_more got less more job h with stands) [
    | inl own ↦ subst (IsOwed now (after state step).jobs) (sym own.1) (taken-owed was now before behind alone_then asked got state time drops asks replies legal calls kind above tells slice)
    | inr other ↦
        let apart : h.job ≢ got.job = λ same. other.0 (sym (answer_for-job job less h other.1) ∙ same) in
        owed-more was now state.jobs (after state step).jobs h (tells-grow alone_then asked got.position (brief_of got.answer) was now tells) (λ j from is out. ap (job_at h.job) (taken-jobs got.job before time state drops asks replies legal) ∙ (job_at-other got.job h.job (Out before) state.jobs apart ∙ is)) (between.owed served job h other.1)
  ];
  behind = below-more before behind state.positions grows between.behind;
  below = λ job h stands is. elim (in_more got less more job h with stands) [
    | inl own ↦ subst (λ (k : HeldAnswer). k.position < behind) (sym own.1) (counted (ap (λ (k : HeldAnswer). is_counted (brief_of k.answer)) (sym own.1) ∙ is))
    | inr other ↦ let low = between.below job h other.1 is in omega arith
  ];
  fresh = λ job h stands is. elim (in_more got less more job h with stands) [
    | inl own ↦ subst (λ (k : HeldAnswer). is_among k.position state.positions ≡ false) (sym own.1) (not_among-below got.position before state.positions above between.behind)
    | inr other ↦ between.fresh job h other.1 is
  ];
  apart = λ i j one two first second other one_counted two_counted. elim (in_more got less more i one with first) [
    | inl own ↦ elim (in_more got less more j two with second) [
      | inl too ↦ absurd (other (own.0 ∙ sym too.0))
      | inr there ↦ λ same.
          let low = between.below j two there.1 two_counted in
          let place : one.position ≡ got.position = ap (λ (k : HeldAnswer). k.position) own.1 in
          absurd (omega arith)
    ]
    | inr here ↦ elim (in_more got less more j two with second) [
      | inl own ↦ λ same.
          let low = between.below i one here.1 one_counted in
          let place : two.position ≡ got.position = ap (λ (k : HeldAnswer). k.position) own.1 in
          absurd (omega arith)
      | inr there ↦ between.apart i j one two here.1 there.1 other one_counted two_counted
    ]
  ];
  tied = tied-taken was now options script start is_alone alone_then asked got less more steps step state.positions time before refl between.grown alone tells with between.tied;
  reads = λ served. reads-push now options script steps step (λ history is. run_taken_reads history.versions options script steps step got.job time before legal refl) (reads-more was now options script steps (tells-grow alone_then asked got.position (brief_of got.answer) was now tells) (between.reads served));
}
  where
    state : ClientState
    state = state_after options script steps

    step : Step
    step = record { event = Take got.job time before; drops = drops; asks = asks; replies = replies }

-- a held answer is handed in

not_among-push : (b : Bool) (n position : ℕ) (positions : List ℕ) → is_among n positions ≡ false → (b ≡ true → n ≢ position) → is_among n (if b then positions ++ position ∷ [] else positions) ≡ false
not_among-push false n position positions none other = none
not_among-push true n position positions none other = go positions none
  where
    last : (position == n) ≡ false
    last = ne_eqb position n (λ same. other refl (sym same))

    go : (xs : List ℕ) → is_among n xs ≡ false → is_among n (xs ++ position ∷ []) ≡ false
    go [] none = rw last refl
    go (x ∷ xs) none = by_test (x == n) (is_among n xs) (is_among n (xs ++ position ∷ [])) none (go xs)
      where
        by_test : (b c d : Bool) → (b || c) ≡ false → (c ≡ false → d ≡ false) → (b || d) ≡ false
        by_test true c d none later = none
        by_test false c d none later = later none

behind-done : (b : Bool) (position bound : ℕ) (positions : List ℕ) → (b ≡ true → position < bound) → AllByRecursion (λ p. p < bound) positions → AllByRecursion (λ p. p < bound) (if b then positions ++ position ∷ [] else positions)
behind-done true position bound positions below all = each-push (λ p. p < bound) positions position all (below refl)
behind-done false position bound positions below all = all

pub done-at : (told : Option History) (position start : ℕ) (is_alone : Type 0) (got : HeldAnswer) (less more : List HeldAnswer) (options : Opts) (script : List Line) (steps : List Step) (drops : List ℕ) (asks : List Ask) (replies : List Answered) →
    IsLegalStep (state_after options script steps) (record { event = Done got.job got.position (brief_of got.answer); drops = drops; asks = asks; replies = replies }) →
    AllByRecursion (GivesOnly (bytes_in got.answer)) replies →
    IsOwed told (state_after options script steps).jobs got →
    IsWith got less more →
    IsBetween told position start is_alone more options script steps (state_after options script steps) →
    IsBetween told position start is_alone less options script (steps ++ record { event = Done got.job got.position (brief_of got.answer); drops = drops; asks = asks; replies = replies } ∷ []) (after (state_after options script steps) (record { event = Done got.job got.position (brief_of got.answer); drops = drops; asks = asks; replies = replies }))
done-at told position start is_alone got less more options script steps drops asks replies legal gives owed with between =
    let state : ClientState = state_after options script steps in
    let step : Step = record { event = Done got.job got.position (brief_of got.answer); drops = drops; asks = asks; replies = replies } in
    record {
      so_far = Along-push IsLegalStep after (opening options script) steps step between.so_far legal;
      grown = between.grown;
      known = known-after less state.jobs step (turn_at state step.event) (known-done got less more state.jobs with between.known);
      owed = λ served job h stands.
          let there = in_less got less more job h with stands in
          let apart : h.job ≢ got.job = λ same. there.0 (sym (answer_for-job job more h there.1) ∙ same) in
          owed-more told told state.jobs _ h (grows-none told) (λ j from is out. out_stays state step h.job from j (alive options script steps served.0 served.1 between.so_far) legal (job_at-other got.job h.job Gone state.jobs apart ∙ is) out) (between.owed served job h there.1);
      behind = behind-done (is_counted (brief_of got.answer)) got.position position state.positions (between.below got.job got with.own) between.behind;
      below = λ job h stands is. between.below job h (in_less got less more job h with stands).1 is;
      fresh = λ job h stands is.
          let there = in_less got less more job h with stands in
          not_among-push (is_counted (brief_of got.answer)) h.position got.position state.positions (between.fresh job h there.1 is) (λ counted. between.apart job got.job h got there.1 with.own there.0 is counted);
      apart = λ i j one two first second other one_counted two_counted. between.apart i j one two (in_less got less more i one with first).1 (in_less got less more j two with second).1 other one_counted two_counted;
      tied = tied-done told options script start is_alone got less more steps step state.positions refl (λ counted job stands. entry-of job stands counted) with between.tied;
      reads = λ served. reads-push told options script steps step (λ history is. run_done_reads history.versions options script steps step got.job got.position got.answer owed.job served.0 served.1 between.so_far legal refl owed.stands (subst (BringsSlice owed.job.call got.answer) is owed.slice) gives) (between.reads served);
    }
  where
    entry-of : (job : Job) → job_at got.job (state_after options script steps).jobs ≡ Some job → is_counted (brief_of got.answer) ≡ true → HasToldEntry told got.position job.call (brief_of got.answer)
    entry-of job stands counted =
        let own = owed.stands in
        let both : Some owed.job ≡ Some job = sym own ∙ stands in
        let same : owed.job ≡ job = cc in
        subst (λ (j : Job). HasToldEntry told got.position j.call (brief_of got.answer)) same (owed.entry counted)
