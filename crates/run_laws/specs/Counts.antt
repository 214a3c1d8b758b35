-- Counting jobs.
use Rattle.std.specs.Prelude.{ℕ, ◌+◌, List, [], ◌∷◌, flat_map, ◌==◌, if◌then◌else◌}
use Rattle.bucket_model.specs.declared.call.Call.{Call}
use Rattle.bucket_model.specs.declared.call.Call.TheVariants as call
use Rattle.mount_model.specs.declared.event.Owner.{Owner}
use Rattle.mount_model.specs.declared.event.Owner.TheVariants as owner
use Rattle.mount_model.specs.State.{Job, JobPhase, Ready, Gone}

-- the weights of all items, added up
abbrev pub total : {X : Type 0} → (X → ℕ) → List X → ℕ
total weight [] = 0
total weight (x ∷ xs) = weight x + total weight xs

abbrev pub if_live : JobPhase → ℕ → ℕ
if_live Gone count = 0
if_live other count = count

abbrev pub if_ready : JobPhase → ℕ → ℕ
if_ready Ready count = count
if_ready other count = 0

abbrev pub if_line : ℕ → ℕ → ℕ
if_line number line = if line == number then 1 else 0

-- kinds of calls

abbrev pub any_call : Call → ℕ
any_call called = 1

abbrev pub is_create : Call → ℕ
is_create (call.Create key) = 1
is_create other = 0

abbrev pub is_part : Call → ℕ
is_part (call.Part upload number bytes) = 1
is_part other = 0

abbrev pub is_complete : Call → ℕ
is_complete (call.Complete upload parts) = 1
is_complete other = 0

abbrev pub is_abort : Call → ℕ
is_abort (call.Abort upload) = 1
is_abort other = 0

abbrev pub is_no_abort : Call → ℕ
is_no_abort (call.Abort upload) = 0
is_no_abort other = 1

-- the jobs of the writer of the handle that a line opened: all so far, those that are ready or out, and those that are ready

abbrev pub if_writer : ℕ → Owner → ℕ → ℕ
if_writer opened (owner.Writer line) count = if line == opened then count else 0
if_writer opened other count = 0

abbrev pub made_job : (Call → ℕ) → ℕ → Job → ℕ
made_job kind opened job = if_writer opened job.owner (kind job.call)

abbrev pub out_job : (Call → ℕ) → ℕ → Job → ℕ
out_job kind opened job = if_live job.phase (made_job kind opened job)

abbrev pub ready_job : (Call → ℕ) → ℕ → Job → ℕ
ready_job kind opened job = if_ready job.phase (made_job kind opened job)

-- how many of those make a call of this kind

abbrev pub calls_made : (Call → ℕ) → ℕ → List Job → ℕ
calls_made kind opened jobs = total (made_job kind opened) jobs

abbrev pub calls_out : (Call → ℕ) → ℕ → List Job → ℕ
calls_out kind opened jobs = total (out_job kind opened) jobs

abbrev pub calls_ready : (Call → ℕ) → ℕ → List Job → ℕ
calls_ready kind opened jobs = total (ready_job kind opened) jobs

-- the numbers of its parts so far, in order

abbrev pub if_of_writer : ℕ → Owner → List ℕ → List ℕ
if_of_writer opened (owner.Writer line) numbers = if line == opened then numbers else []
if_of_writer opened other numbers = []

abbrev pub part_in : Call → List ℕ
part_in (call.Part upload number bytes) = number ∷ []
part_in other = []

abbrev pub parts_made : ℕ → List Job → List ℕ
parts_made opened jobs = flat_map (λ (job : Job). if_of_writer opened job.owner (part_in job.call)) jobs
