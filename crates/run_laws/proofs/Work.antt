-- What each part of a step does to the work that is left.
use Rattle.std.proofs.Common.{◌≡◌, ℕ, ◌+◌, ◌*◌, ◌<◌, ◌≤◌, List, [], ◌∷◌, map, true, false, ◌==◌, if◌then◌else◌, Option, Some, None, inl, inr, refl, sym, ap, ◌∙◌, arith, eq-eqb, ne_eqb}
use Rattle.mp_types.specs.HandleName.{HandleName}
use Rattle.mount_model.specs.declared.handle.Handle.TheVariants.{Reading, Writing}
use Rattle.mount_model.specs.declared.request.Line.{Line}
use Rattle.mount_model.specs.declared.standing.Heard.{Heard}
use Rattle.mount_model.specs.declared.standing.Phase.TheVariants.{Waiting, Begun, Replied}
use Rattle.mount_model.specs.declared.standing.Standing.{Standing}
use Rattle.mount_model.specs.declared.standing.Told.{Told}
use Rattle.mount_model.specs.Heard.{nothing_heard, with_told}
use Rattle.mount_model.specs.Handles.{Handle, Writer}
use Rattle.mount_model.specs.State.{Job, Ready, Out, Gone, line_at, job_at, change_line, change_job, in_phase, heard, handle_name}
use Rattle.run_laws.specs.Counts.{total}
use Rattle.run_laws.specs.Uploads.{Tally, calls_left_of}
use Rattle.run_laws.specs.Writers.{tally}
use Rattle.run_laws.specs.Work.{calls_left, writer_calls, line_work, job_work, phase_work, handle_calls, writer_work}
use Rattle.run_laws.proofs.Keyed.{Rises, total-change, total-same, total-weights}
use Rattle.run_laws.proofs.Lines.{number_of, line_in, changed}
use Rattle.run_laws.proofs.Settled.{settled, First, Stops, Answers, Passes, first}
use Rattle.run_laws.proofs.Jobs.{job_number}
use Rattle.run_laws.proofs.Handles.{Look, with_at, at-same, at-other, names}
use Rattle.run_laws.proofs.Writers.{SameFor, tally-same}

-- a line that begins
pub begin-work : (above n : ℕ) (line : Line) (lines : List Standing) → Rises number_of above lines → line_at n lines ≡ Some (record { line = line; phase = Waiting }) → total line_work (change_line n (λ phase. Begun nothing_heard) lines) + 3 ≡ total line_work lines
begin-work above n line lines r stands = let moved = total-change number_of line_work (changed (λ phase. Begun nothing_heard)) above n lines (record { line = line; phase = Waiting }) r stands in omega arith

-- an answer that leaves fewer calls
pub heard-work : (above n : ℕ) (line : Line) (before : Heard) (told : Told) (lines : List Standing) → Rises number_of above lines → line_at n lines ≡ Some (record { line = line; phase = Begun before }) → calls_left line.request (with_told told before) < calls_left line.request before → total line_work (change_line n (heard told) lines) + 2 ≤ total line_work lines
heard-work above n line before told lines r stands falls = let moved = total-change number_of line_work (changed (heard told)) above n lines (record { line = line; phase = Begun before }) r stands in omega arith

-- a reply
pub replied-work : (above n : ℕ) (line : Line) (before : Heard) (lines : List Standing) → Rises number_of above lines → line_at n lines ≡ Some (record { line = line; phase = Begun before }) → total line_work (change_line n (λ phase. Replied) lines) + 2 * (calls_left line.request before + writer_calls line.request) ≡ total line_work lines
replied-work above n line before lines r stands = let moved = total-change number_of line_work (changed (λ phase. Replied)) above n lines (record { line = line; phase = Begun before }) r stands in omega arith

pub settled-work : (lines : List Standing) → total line_work (settled lines) ≤ total line_work lines
settled-work [] = omega arith
settled-work (s ∷ lines) = go (first s lines) (settled-work lines)
  where
    go : First s lines → total line_work (settled lines) ≤ total line_work lines → total line_work (settled (s ∷ lines)) ≤ total line_work (s ∷ lines)
    go (Stops due same) h = let is : total line_work (settled (s ∷ lines)) ≡ total line_work (s ∷ lines) = ap (total line_work) same in omega arith
    go (Answers before begun awaits due same) h = let is : total line_work (settled (s ∷ lines)) ≡ 0 + total line_work (settled lines) = ap (total line_work) same in omega arith
    go (Passes replied due same) h = let is : total line_work (settled (s ∷ lines)) ≡ line_work s + total line_work (settled lines) = ap (total line_work) same in omega arith

pub taken-work : (above n from : ℕ) (job : Job) (jobs : List Job) → Rises job_number above jobs → job_at n jobs ≡ Some job → job.phase ≡ Ready → total job_work (change_job n (Out from) jobs) + 1 ≡ total job_work jobs
taken-work above n from job jobs r stands is =
    let moved = total-change job_number job_work (in_phase (Out from)) above n jobs job r stands in
    let old : job_work job ≡ 2 = ap phase_work is in
    omega arith

pub gone-work : (above n from : ℕ) (job : Job) (jobs : List Job) → Rises job_number above jobs → job_at n jobs ≡ Some job → job.phase ≡ Out from → total job_work (change_job n Gone jobs) + 1 ≡ total job_work jobs
gone-work above n from job jobs r stands is =
    let moved = total-change job_number job_work (in_phase Gone) above n jobs job r stands in
    let old : job_work job ≡ 1 = ap phase_work is in
    omega arith

-- the calls of writers

abbrev pub writers_work : List Job → Look → List Standing → ℕ
writers_work jobs look lines = total (λ s. writer_work jobs look s.line) lines

total-lines : (weight : Line → ℕ) (lines now : List Standing) → map line_in lines ≡ map line_in now → total (λ s. weight s.line) lines ≡ total (λ s. weight s.line) now
total-lines weight lines now same = by_map lines ∙ ap (total weight) same ∙ sym (by_map now)
  where
    by_map : (xs : List Standing) → total (λ s. weight s.line) xs ≡ total weight (map line_in xs)
    by_map [] = refl
    by_map (s ∷ xs) = ap (λ t. weight s.line + t) (by_map xs)

-- they don't hang on how far lines have come
pub writers_work-lines : (jobs : List Job) (look : Look) (lines now : List Standing) → map line_in lines ≡ map line_in now → writers_work jobs look lines ≡ writers_work jobs look now
writers_work-lines jobs look lines now same = total-lines (writer_work jobs look) lines now same

pub writers_work-look : (jobs : List Job) (look other : Look) (lines : List Standing) → ((q : HandleName) → look q ≡ other q) → writers_work jobs look lines ≡ writers_work jobs other lines
writers_work-look jobs look other lines same = total-same (λ s. writer_work jobs look s.line) (λ s. writer_work jobs other s.line) (λ s. ap (λ (o : Option Handle). 2 * handle_calls s.line.number jobs o) (same (handle_name s.line))) lines

-- what the handle of a writer counts for the line that opened it
pub calls-own : (jobs : List Job) (w : Writer) (n : ℕ) → w.line ≡ n → handle_calls n jobs (Some (Writing w)) ≡ calls_left_of w.upload (tally n jobs)
calls-own jobs w n is = let same : (w.line == n) ≡ true = eq-eqb w.line n is in rw same refl

-- and for any other
pub calls-other : (jobs : List Job) (w : Writer) (n : ℕ) → (w.line ≡ n → ⊥) → handle_calls n jobs (Some (Writing w)) ≡ 0
calls-other jobs w n apart = let differ : (w.line == n) ≡ false = ne_eqb w.line n apart in rw differ refl

-- a handle that isn't of this line's writer counts nothing for it
pub calls-none : (jobs : List Job) (n : ℕ) (o : Option Handle) → ((v : Writer) → o ≡ Some (Writing v) → v.line ≡ n → ⊥) → handle_calls n jobs o ≡ 0
calls-none jobs n None none = refl
calls-none jobs n (Some (Reading line version)) none = refl
calls-none jobs n (Some (Writing w)) none = calls-other jobs w n (none w refl)

-- other jobs that count the same
pub calls-same : (jobs behind : List Job) (n : ℕ) (o : Option Handle) → SameFor n jobs behind → handle_calls n behind o ≡ handle_calls n jobs o
calls-same jobs behind n None same = refl
calls-same jobs behind n (Some (Reading line version)) same = refl
calls-same jobs behind n (Some (Writing w)) same = ap (λ (t : Tally). if w.line == n then calls_left_of w.upload t else 0) (sym (tally-same n jobs behind same))

pub writers_work-jobs : (jobs behind : List Job) (look : Look) (lines : List Standing) → ((m : ℕ) → SameFor m jobs behind) → writers_work behind look lines ≡ writers_work jobs look lines
writers_work-jobs jobs behind look lines same = total-same (λ s. writer_work behind look s.line) (λ s. writer_work jobs look s.line) (λ s. ap (λ (k : ℕ). 2 * k) (calls-same jobs behind s.line.number (look (handle_name s.line)) (same s.line.number))) lines

-- where one handle changes, the work of one line does
pub writers_work-one : (lines : List Standing) (jobs behind : List Job) (look : Look) (opened : ℕ) (name : HandleName) (o : Option Handle) (s : Standing) → Rises number_of 0 lines → line_at opened lines ≡ Some s → ((m : ℕ) → (opened ≡ m → ⊥) → SameFor m jobs behind) → ((v : Writer) → look name ≡ Some (Writing v) → v.line ≡ opened) → ((v : Writer) → o ≡ Some (Writing v) → v.line ≡ opened)
    → writers_work behind (with_at name o look) lines + writer_work jobs look s.line ≡ writers_work jobs look lines + writer_work behind (with_at name o look) s.line
writers_work-one lines jobs behind look opened name o s rises stands same before now =
    total-weights number_of (λ t. writer_work behind (with_at name o look) t.line) (λ t. writer_work jobs look t.line) 0 opened lines s rises stands
    (λ t apart. ap (λ (k : ℕ). 2 * k) (others t.line apart))
  where
    others : (line : Line) → (line.number ≡ opened → ⊥) → handle_calls line.number behind (with_at name o look (handle_name line)) ≡ handle_calls line.number jobs (look (handle_name line))
    others line apart = elim (names (handle_name line) name) [
      | inl same_name ↦ (let new : handle_calls line.number behind (with_at name o look (handle_name line)) ≡ 0 = calls-none behind line.number (with_at name o look (handle_name line)) (λ v is e. apart (sym e ∙ now v (sym (ap (with_at name o look) same_name ∙ at-same name o look) ∙ is))) in
          let old : handle_calls line.number jobs (look (handle_name line)) ≡ 0 = calls-none jobs line.number (look (handle_name line)) (λ v is e. apart (sym e ∙ before v (sym (ap look same_name) ∙ is))) in
          new ∙ sym old)
      | inr other_name ↦ ap (handle_calls line.number behind) (at-other name o look (handle_name line) other_name) ∙ calls-same jobs behind line.number (look (handle_name line)) (same line.number (λ e. apart (sym e)))
    ]
