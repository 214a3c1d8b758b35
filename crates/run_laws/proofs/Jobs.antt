-- Jobs under the changes that a step makes.
use Rattle.std.proofs.Common.{◌≡◌, ◌≢◌, ℕ, ◌+◌, ◌-◌, ◌≤◌, List, [], ◌∷◌, ◌++◌, length, cond, Bool, true, false, ◌||◌, ◌==◌, if◌then◌else◌, Some, ◌⊎◌, inl, inr, refl, ap, ◌∙◌, arith, eq-eqb, ne_eqb}
use Rattle.std.proofs.lemmas.List.{length-append}
use Rattle.bucket_model.specs.declared.call.Call.{Call}
use Rattle.bucket_model.specs.declared.call.Call.TheVariants as call
use Rattle.mount_model.specs.declared.event.Owner.{Owner}
use Rattle.mount_model.specs.declared.event.Owner.TheVariants as owner
use Rattle.mount_model.specs.State.{Job, JobPhase, Ready, Out, Gone, job_at, change_job, in_phase, AreNumbered}
use Rattle.mount_model.specs.Run.{is_among, ready}
use Rattle.run_laws.specs.Counts.{if_live, if_ready, if_line, any_call, is_create, is_part, is_complete, is_abort, if_writer, made_job, out_job, ready_job, calls_made, calls_out, calls_ready, if_of_writer, part_in, parts_made}
use Rattle.run_laws.specs.Alive.{if_of_line, live_job, live_jobs}
use Rattle.run_laws.proofs.Keyed.{Rises, Rises-below, item_at-later, total-change, total-at, total-most}
use Rattle.run_laws.proofs.Uploads.{kinds}

abbrev pub job_number : Job → ℕ
job_number job = job.number

pub Rises-jobs : (above : ℕ) (jobs : List Job) → AreNumbered (above + 1) jobs → Rises job_number above jobs
Rises-jobs above [] r = tt
Rises-jobs above (job ∷ jobs) r = let is = r.0 in (omega arith, Rises-below job_number job.number (above + 1) jobs (omega arith) (Rises-jobs (above + 1) jobs r.1))

pub length-change_job : (n : ℕ) (phase : JobPhase) (jobs : List Job) → length (change_job n phase jobs) ≡ length jobs
length-change_job n phase [] = refl
length-change_job n phase (job ∷ jobs) = let more = length-change_job n phase jobs in omega arith

-- a job that may be taken stands, and is ready
pub record IsReady (n : ℕ) (jobs : List Job) : Type 0 where
  pub job : Job
  pub stands : job_at n jobs ≡ Some job
  pub phase : job.phase ≡ Ready

IsReady-later : (above n : ℕ) (first : Job) (jobs : List Job) → Rises job_number above (first ∷ jobs) → IsReady n jobs → IsReady n (first ∷ jobs)
IsReady-later above n first jobs r found = record { job = found.job; stands = item_at-later job_number above n first jobs found.job r found.stands; phase = found.phase }

-- a job in this phase
abbrev as_job : ℕ → Owner → ℕ → Call → JobPhase → Job
as_job number owner line call phase = record { number = number; owner = owner; line = line; call = call; phase = phase }

ready-cons : (above n number : ℕ) (owner : Owner) (line : ℕ) (call : Call) (phase : JobPhase) (jobs : List Job) → Rises job_number above (as_job number owner line call phase ∷ jobs) → (is_among n (ready jobs) ≡ true → IsReady n jobs) → is_among n (ready (as_job number owner line call phase ∷ jobs)) ≡ true → IsReady n (as_job number owner line call phase ∷ jobs)
ready-cons above n number owner line call Ready jobs r more e = go (number == n) refl e
  where
    first : Job
    first = as_job number owner line call Ready

    go : (b : Bool) → (number == n) ≡ b → (b || is_among n (ready jobs)) ≡ true → IsReady n (first ∷ jobs)
    go true is e = record { job = first; stands = rw is refl; phase = refl }
    go false is e = IsReady-later above n first jobs r (more e)
ready-cons above n number owner line call (Out from) jobs r more e = IsReady-later above n (as_job number owner line call (Out from)) jobs r (more e)
ready-cons above n number owner line call Gone jobs r more e = IsReady-later above n (as_job number owner line call Gone) jobs r (more e)

pub ready-found : (above n : ℕ) (jobs : List Job) → Rises job_number above jobs → is_among n (ready jobs) ≡ true → IsReady n jobs
ready-found above n [] r e = absurd (cc)
ready-found above n (job ∷ jobs) r e = ready-cons above n job.number job.owner job.line job.call job.phase jobs r (ready-found job.number n jobs r.1) e

-- how many live jobs a line has after a job was taken, or its answer came

abbrev pub own_job : ℕ → Job → ℕ
own_job m job = if_of_line job.owner (if_line m job.line)

pub live-taken : (above n m from : ℕ) (jobs : List Job) (job : Job) → Rises job_number above jobs → job_at n jobs ≡ Some job → job.phase ≡ Ready → live_jobs m (change_job n (Out from) jobs) ≡ live_jobs m jobs
live-taken above n m from jobs job r stands is =
    let moved = total-change job_number (live_job m) (in_phase (Out from)) above n jobs job r stands in
    let old : live_job m job ≡ own_job m job = ap (λ p. if_live p (own_job m job)) is in
    omega arith

pub live-gone : (above n m from : ℕ) (jobs : List Job) (job : Job) → Rises job_number above jobs → job_at n jobs ≡ Some job → job.phase ≡ Out from → live_jobs m (change_job n Gone jobs) + own_job m job ≡ live_jobs m jobs
live-gone above n m from jobs job r stands is =
    let moved = total-change job_number (live_job m) (in_phase Gone) above n jobs job r stands in
    let old : live_job m job ≡ own_job m job = ap (λ p. if_live p (own_job m job)) is in
    omega arith

-- and how many calls of a writer are out, or ready, or were made

pub out-taken : (above n from : ℕ) (kind : Call → ℕ) (opened : ℕ) (jobs : List Job) (job : Job) → Rises job_number above jobs → job_at n jobs ≡ Some job → job.phase ≡ Ready → calls_out kind opened (change_job n (Out from) jobs) ≡ calls_out kind opened jobs
out-taken above n from kind opened jobs job r stands is =
    let moved = total-change job_number (out_job kind opened) (in_phase (Out from)) above n jobs job r stands in
    let old : out_job kind opened job ≡ made_job kind opened job = ap (λ p. if_live p (made_job kind opened job)) is in
    omega arith

pub ready-taken : (above n from : ℕ) (kind : Call → ℕ) (opened : ℕ) (jobs : List Job) (job : Job) → Rises job_number above jobs → job_at n jobs ≡ Some job → calls_ready kind opened (change_job n (Out from) jobs) ≤ calls_ready kind opened jobs
ready-taken above n from kind opened jobs job r stands =
    let moved = total-change job_number (ready_job kind opened) (in_phase (Out from)) above n jobs job r stands in
    omega arith

pub out-gone : (above n from : ℕ) (kind : Call → ℕ) (opened : ℕ) (jobs : List Job) (job : Job) → Rises job_number above jobs → job_at n jobs ≡ Some job → job.phase ≡ Out from → calls_out kind opened (change_job n Gone jobs) + made_job kind opened job ≡ calls_out kind opened jobs
out-gone above n from kind opened jobs job r stands is =
    let moved = total-change job_number (out_job kind opened) (in_phase Gone) above n jobs job r stands in
    let old : out_job kind opened job ≡ made_job kind opened job = ap (λ p. if_live p (made_job kind opened job)) is in
    omega arith

pub ready-gone : (above n from : ℕ) (kind : Call → ℕ) (opened : ℕ) (jobs : List Job) (job : Job) → Rises job_number above jobs → job_at n jobs ≡ Some job → job.phase ≡ Out from → calls_ready kind opened (change_job n Gone jobs) ≡ calls_ready kind opened jobs
ready-gone above n from kind opened jobs job r stands is =
    let moved = total-change job_number (ready_job kind opened) (in_phase Gone) above n jobs job r stands in
    let old : ready_job kind opened job ≡ 0 = ap (λ p. if_ready p (made_job kind opened job)) is in
    omega arith

pub made-change : (n : ℕ) (phase : JobPhase) (kind : Call → ℕ) (opened : ℕ) (jobs : List Job) → calls_made kind opened (change_job n phase jobs) ≡ calls_made kind opened jobs
made-change n phase kind opened [] = refl
made-change n phase kind opened (job ∷ jobs) = go (job.number == n) (made-change n phase kind opened jobs)
  where
    go : (b : Bool) → calls_made kind opened (change_job n phase jobs) ≡ calls_made kind opened jobs → calls_made kind opened ((if b then in_phase phase job else job) ∷ change_job n phase jobs) ≡ calls_made kind opened (job ∷ jobs)
    go true e = omega arith
    go false e = omega arith

pub parts-change : (n : ℕ) (phase : JobPhase) (opened : ℕ) (jobs : List Job) → parts_made opened (change_job n phase jobs) ≡ parts_made opened jobs
parts-change n phase opened [] = refl
parts-change n phase opened (job ∷ jobs) = go (job.number == n) (parts-change n phase opened jobs)
  where
    go : (b : Bool) → parts_made opened (change_job n phase jobs) ≡ parts_made opened jobs → parts_made opened ((if b then in_phase phase job else job) ∷ change_job n phase jobs) ≡ parts_made opened (job ∷ jobs)
    go true e = ap (λ t. if_of_writer opened job.owner (part_in job.call) ++ t) e
    go false e = ap (λ t. if_of_writer opened job.owner (part_in job.call) ++ t) e

-- each job that is out or ready was made
if_live-most : (phase : JobPhase) (count : ℕ) → if_live phase count ≤ count
if_live-most Gone count = omega arith
if_live-most other count = omega arith

pub out-made : (kind : Call → ℕ) (opened : ℕ) (jobs : List Job) → calls_out kind opened jobs ≤ calls_made kind opened jobs
out-made kind opened jobs = total-most (out_job kind opened) (made_job kind opened) (λ job. if_live-most job.phase (made_job kind opened job)) jobs

if_ready-most : (phase : JobPhase) (count : ℕ) → if_ready phase count ≤ if_live phase count
if_ready-most Ready count = omega arith
if_ready-most (Out from) count = omega arith
if_ready-most Gone count = omega arith

pub ready-out : (kind : Call → ℕ) (opened : ℕ) (jobs : List Job) → calls_ready kind opened jobs ≤ calls_out kind opened jobs
ready-out kind opened jobs = total-most (ready_job kind opened) (out_job kind opened) (λ job. if_ready-most job.phase (made_job kind opened job)) jobs

-- kinds of calls add up

if_writer-sum : (opened : ℕ) (who : Owner) (a b : ℕ) → if_writer opened who (a + b) ≡ if_writer opened who a + if_writer opened who b
if_writer-sum opened (owner.Writer line) a b = go (line == opened)
  where
    go : (same : Bool) → (if same then a + b else 0) ≡ (if same then a else 0) + (if same then b else 0)
    go true = refl
    go false = omega arith
if_writer-sum opened other a b = omega arith

if_live-sum : (phase : JobPhase) (a b : ℕ) → if_live phase (a + b) ≡ if_live phase a + if_live phase b
if_live-sum Gone a b = omega arith
if_live-sum other a b = refl

pub out-sum : (kind first second : Call → ℕ) → ((called : Call) → kind called ≡ first called + second called) → (opened : ℕ) (jobs : List Job) → calls_out kind opened jobs ≡ calls_out first opened jobs + calls_out second opened jobs
out-sum kind first second same opened [] = refl
out-sum kind first second same opened (job ∷ jobs) =
    let made : made_job kind opened job ≡ made_job first opened job + made_job second opened job = ap (if_writer opened job.owner) (same job.call) ∙ if_writer-sum opened job.owner (first job.call) (second job.call) in
    let here : out_job kind opened job ≡ out_job first opened job + out_job second opened job = ap (if_live job.phase) made ∙ if_live-sum job.phase (made_job first opened job) (made_job second opened job) in
    let more = out-sum kind first second same opened jobs in
    omega arith

pub made-sum : (kind first second : Call → ℕ) → ((called : Call) → kind called ≡ first called + second called) → (opened : ℕ) (jobs : List Job) → calls_made kind opened jobs ≡ calls_made first opened jobs + calls_made second opened jobs
made-sum kind first second same opened [] = refl
made-sum kind first second same opened (job ∷ jobs) =
    let made : made_job kind opened job ≡ made_job first opened job + made_job second opened job = ap (if_writer opened job.owner) (same job.call) ∙ if_writer-sum opened job.owner (first job.call) (second job.call) in
    let more = made-sum kind first second same opened jobs in
    omega arith

if_ready-sum : (phase : JobPhase) (a b : ℕ) → if_ready phase (a + b) ≡ if_ready phase a + if_ready phase b
if_ready-sum Ready a b = refl
if_ready-sum other a b = omega arith

pub ready-sum : (kind first second : Call → ℕ) → ((called : Call) → kind called ≡ first called + second called) → (opened : ℕ) (jobs : List Job) → calls_ready kind opened jobs ≡ calls_ready first opened jobs + calls_ready second opened jobs
ready-sum kind first second same opened [] = refl
ready-sum kind first second same opened (job ∷ jobs) =
    let made : made_job kind opened job ≡ made_job first opened job + made_job second opened job = ap (if_writer opened job.owner) (same job.call) ∙ if_writer-sum opened job.owner (first job.call) (second job.call) in
    let here : ready_job kind opened job ≡ ready_job first opened job + ready_job second opened job = ap (if_ready job.phase) made ∙ if_ready-sum job.phase (made_job first opened job) (made_job second opened job) in
    let more = ready-sum kind first second same opened jobs in
    omega arith

-- calls that are no writer's
abbrev pub is_other : Call → ℕ
is_other called = 1 - kinds called

abbrev create_or_part : Call → ℕ
create_or_part called = is_create called + is_part called

abbrev complete_or_abort : Call → ℕ
complete_or_abort called = is_complete called + is_abort called

kinds-part : (called : Call) → kinds called ≡ create_or_part called + complete_or_abort called
kinds-part called = omega arith

pub kinds-most : (called : Call) → kinds called ≤ 1
kinds-most (call.Create key) = omega arith
kinds-most (call.Part id number bytes) = omega arith
kinds-most (call.Complete id parts) = omega arith
kinds-most (call.Abort id) = omega arith
kinds-most other = omega arith

any-kind : (called : Call) → any_call called ≡ kinds called + is_other called
any-kind called = let most = kinds-most called in omega arith

-- where all calls that are out are of a writer's kinds, each is
pub out-kinds : (opened : ℕ) (jobs : List Job) → calls_out any_call opened jobs ≡ calls_out is_create opened jobs + calls_out is_part opened jobs + calls_out is_complete opened jobs + calls_out is_abort opened jobs → calls_out is_other opened jobs ≡ 0
out-kinds opened jobs all =
    let any = out-sum any_call kinds is_other any-kind opened jobs in
    let four = out-sum kinds create_or_part complete_or_abort kinds-part opened jobs in
    let first = out-sum create_or_part is_create is_part (λ called. refl) opened jobs in
    let second = out-sum complete_or_abort is_complete is_abort (λ called. refl) opened jobs in
    omega arith

pub ready-kinds : (opened : ℕ) (jobs : List Job) → calls_out is_other opened jobs ≡ 0 → calls_ready any_call opened jobs ≡ calls_ready is_create opened jobs + calls_ready is_part opened jobs + calls_ready is_complete opened jobs + calls_ready is_abort opened jobs
ready-kinds opened jobs none =
    let other = ready-out is_other opened jobs in
    let any = ready-sum any_call kinds is_other any-kind opened jobs in
    let four = ready-sum kinds create_or_part complete_or_abort kinds-part opened jobs in
    let first = ready-sum create_or_part is_create is_part (λ called. refl) opened jobs in
    let second = ready-sum complete_or_abort is_complete is_abort (λ called. refl) opened jobs in
    omega arith

-- a job that is ready or out counts
pub if_writer-own : (opened count : ℕ) → if_writer opened (owner.Writer opened) count ≡ count
if_writer-own opened count = let same : (opened == opened) ≡ true = eq-eqb opened opened refl in rw same refl

pub if_writer-other : (opened other count : ℕ) → (other ≡ opened → ⊥) → if_writer opened (owner.Writer other) count ≡ 0
if_writer-other opened other count apart = let differ : (other == opened) ≡ false = ne_eqb other opened apart in rw differ refl

pub if_live-live : (phase : JobPhase) (count : ℕ) → phase ≢ Gone → if_live phase count ≡ count
if_live-live Gone count live = absurd (live refl)
if_live-live other count live = refl

pub out-one : (kind : Call → ℕ) (n opened : ℕ) (jobs : List Job) (job : Job) → job_at n jobs ≡ Some job → job.owner ≡ owner.Writer opened → job.phase ≢ Gone → kind job.call ≤ calls_out kind opened jobs
out-one kind n opened jobs job stands owned live =
    let least = total-at job_number (out_job kind opened) n jobs job stands in
    let made : made_job kind opened job ≡ kind job.call = ap (λ (o : Owner). if_writer opened o (kind job.call)) owned ∙ if_writer-own opened (kind job.call) in
    let out : out_job kind opened job ≡ kind job.call = if_live-live job.phase (made_job kind opened job) live ∙ made in
    omega arith

pub made-one : (kind : Call → ℕ) (n opened : ℕ) (jobs : List Job) (job : Job) → job_at n jobs ≡ Some job → job.owner ≡ owner.Writer opened → kind job.call ≤ calls_made kind opened jobs
made-one kind n opened jobs job stands owned =
    let least = total-at job_number (made_job kind opened) n jobs job stands in
    let made : made_job kind opened job ≡ kind job.call = ap (λ (o : Owner). if_writer opened o (kind job.call)) owned ∙ if_writer-own opened (kind job.call) in
    omega arith

pub ready-one : (kind : Call → ℕ) (n opened : ℕ) (jobs : List Job) (job : Job) → job_at n jobs ≡ Some job → job.owner ≡ owner.Writer opened → job.phase ≡ Ready → kind job.call ≤ calls_ready kind opened jobs
ready-one kind n opened jobs job stands owned is =
    let least = total-at job_number (ready_job kind opened) n jobs job stands in
    let made : made_job kind opened job ≡ kind job.call = ap (λ (o : Owner). if_writer opened o (kind job.call)) owned ∙ if_writer-own opened (kind job.call) in
    let here : ready_job kind opened job ≡ kind job.call = ap (λ p. if_ready p (made_job kind opened job)) is ∙ made in
    omega arith

-- as many parts as numbers of parts
parts-one : (opened : ℕ) (who : Owner) (called : Call) → length (if_of_writer opened who (part_in called)) ≡ if_writer opened who (is_part called)
parts-one opened (owner.Writer line) called = go (line == opened) called
  where
    go : (same : Bool) (called : Call) → length (if same then part_in called else []) ≡ (if same then is_part called else 0)
    go true (call.Part id number bytes) = refl
    go true other = refl
    go false called = refl
parts-one opened other called = refl

pub parts-length : (opened : ℕ) (jobs : List Job) → length (parts_made opened jobs) ≡ calls_made is_part opened jobs
parts-length opened [] = refl
parts-length opened (job ∷ jobs) =
    let here = parts-one opened job.owner job.call in
    let sum = length-append (if_of_writer opened job.owner (part_in job.call)) (parts_made opened jobs) in
    let more = parts-length opened jobs in
    omega arith

-- a job is among the first ones or the others
pub found-of-two : (k : ℕ) (jobs more : List Job) (job : Job) → job_at k (jobs ++ more) ≡ Some job → (job_at k jobs ≡ Some job) ⊎ (job_at k more ≡ Some job)
found-of-two k [] more job is = inr is
found-of-two k (first ∷ jobs) more job is = go (first.number == k) is (found-of-two k jobs more job)
  where
    go : (b : Bool) → cond b (Some first) (job_at k (jobs ++ more)) ≡ Some job → (job_at k (jobs ++ more) ≡ Some job → (job_at k jobs ≡ Some job) ⊎ (job_at k more ≡ Some job)) → (cond b (Some first) (job_at k jobs) ≡ Some job) ⊎ (job_at k more ≡ Some job)
    go true is ih = inl is
    go false is ih = ih is

-- no call at all is none of any kind
pub kinds-made : (kind : Call → ℕ) → ((called : Call) → kind called ≤ 1) → (opened : ℕ) (jobs : List Job) → calls_made kind opened jobs ≤ calls_made any_call opened jobs
kinds-made kind most opened jobs = let sum = made-sum any_call kind (λ called. 1 - kind called) (λ called. (let m = most called in let same : 1 ≡ kind called + (1 - kind called) = omega arith in same)) opened jobs in omega arith

pub kinds-out : (kind : Call → ℕ) → ((called : Call) → kind called ≤ 1) → (opened : ℕ) (jobs : List Job) → calls_out kind opened jobs ≤ calls_made any_call opened jobs
kinds-out kind most opened jobs = let made = kinds-made kind most opened jobs in let out = out-made kind opened jobs in omega arith
