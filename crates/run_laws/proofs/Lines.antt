-- Lines under changes of how far they have come.
use Rattle.std.proofs.Common.{◌≡◌, ℕ, List, [], ◌∷◌, ◌++◌, map, fold, Bool, true, false, ◌==◌, if◌then◌else◌, Option, Some, None, refl, ap, ◌∙◌}
use Rattle.std.specs.List.{AllByRecursion}
use Rattle.mp_types.specs.declared.options.Opts.{Opts}
use Rattle.bucket_model.specs.declared.answer.Brief.{Brief}
use Rattle.mount_model.specs.declared.request.Line.{Line}
use Rattle.mount_model.specs.declared.event.Event.{Event}
use Rattle.mount_model.specs.declared.event.Event.TheVariants.{Begin, Take, Done}
use Rattle.mount_model.specs.declared.event.Owner.{Owner}
use Rattle.mount_model.specs.declared.event.Owner.TheVariants as owner
use Rattle.mount_model.specs.declared.event.Answered.{Answered}
use Rattle.mount_model.specs.declared.standing.Phase.{Phase}
use Rattle.mount_model.specs.declared.standing.Phase.TheVariants.{Begun, Replied}
use Rattle.mount_model.specs.declared.standing.Standing.{Standing}
use Rattle.mount_model.specs.Heard.{nothing_heard, question_of, told_by}
use Rattle.mount_model.specs.Step.{Step}
use Rattle.mount_model.specs.State.{ClientState, Job, line_at, job_at, change_line, hears, heard, lines_at, with_answered, with_replies, after, opening, state_after}
use Rattle.mount_model.specs.Run.{AreRising}
use Rattle.run_laws.proofs.Keyed.{Rises, change_at-same, change_at-other, item_at-first, item_at-later}

abbrev pub number_of : Standing → ℕ
number_of s = s.line.number

abbrev pub line_in : Standing → Line
line_in s = s.line

abbrev pub changed : (Phase → Phase) → Standing → Standing
changed f s = record { line = s.line; phase = f s.phase }

pub Rises-lines : (above : ℕ) (lines : List Standing) → AreRising above (map line_in lines) → Rises number_of above lines
Rises-lines above [] r = tt
Rises-lines above (s ∷ lines) r = (r.0, Rises-lines s.line.number lines r.1)

-- changes leave the lines themselves

pub lines-change : (n : ℕ) (f : Phase → Phase) (lines : List Standing) → map line_in (change_line n f lines) ≡ map line_in lines
lines-change n f [] = refl
lines-change n f (s ∷ lines) = go (s.line.number == n) (lines-change n f lines)
  where
    go : (b : Bool) → map line_in (change_line n f lines) ≡ map line_in lines → map line_in ((if b then changed f s else s) ∷ change_line n f lines) ≡ map line_in (s ∷ lines)
    go true more = ap (λ t. s.line ∷ t) more
    go false more = ap (λ t. s.line ∷ t) more

pub lines-replies : (lines : List Standing) (replies : List Answered) → map line_in (with_replies lines replies) ≡ map line_in lines
lines-replies lines [] = refl
lines-replies lines (reply ∷ replies) = lines-replies (with_answered lines reply) replies ∙ lines-change reply.line (λ phase. Replied) lines

pub lines-heard : (job : Option Job) (answer : Brief) (lines : List Standing) → map line_in (hears job answer lines) ≡ map line_in lines
lines-heard None answer lines = refl
lines-heard (Some job) answer lines = by_owner job.owner
  where
    by_owner : (who : Owner) → map line_in (hears (Some (record { number = job.number; owner = who; line = job.line; call = job.call; phase = job.phase })) answer lines) ≡ map line_in lines
    by_owner (owner.Writer opened) = refl
    by_owner other = lines-change job.line (heard (told_by (question_of job.call) answer)) lines

pub lines-event : (lines : List Standing) (jobs : List Job) (event : Event) → map line_in (lines_at lines jobs event) ≡ map line_in lines
lines-event lines jobs (Begin line time) = lines-change line (λ phase. Begun nothing_heard) lines
lines-event lines jobs (Take job time from) = refl
lines-event lines jobs (Done job position answer) = lines-heard (job_at job jobs) answer lines

pub lines-after : (state : ClientState) (step : Step) → map line_in (after state step).lines ≡ map line_in state.lines
lines-after state step = lines-replies (lines_at state.lines state.jobs step.event) step.replies ∙ lines-event state.lines state.jobs step.event

pub lines-steps : (state : ClientState) (steps : List Step) → map line_in (fold after state steps).lines ≡ map line_in state.lines
lines-steps state [] = refl
lines-steps state (step ∷ steps) = lines-steps (after state step) steps ∙ lines-after state step

pub lines-opening : (options : Opts) (script : List Line) → map line_in (opening options script).lines ≡ script
lines-opening options [] = refl
lines-opening options (line ∷ script) = ap (λ t. line ∷ t) (lines-opening options script)

-- the lines of each state are those of the script
pub lines_of_run : (options : Opts) (script : List Line) (steps : List Step) → map line_in (state_after options script steps).lines ≡ script
lines_of_run options script steps = lines-steps (opening options script) steps ∙ lines-opening options script

-- looking up after a change

pub line_at-same : (n : ℕ) (f : Phase → Phase) (lines : List Standing) (s : Standing) → line_at n lines ≡ Some s → line_at n (change_line n f lines) ≡ Some (changed f s)
line_at-same n f lines s e = change_at-same number_of (changed f) (λ s. refl) n lines s e

pub line_at-other : (n m : ℕ) (f : Phase → Phase) (lines : List Standing) → (m ≡ n → ⊥) → line_at m (change_line n f lines) ≡ line_at m lines
line_at-other n m f lines apart = change_at-other number_of (changed f) (λ s. refl) n m lines apart

pub with_replies-append : (lines : List Standing) (replies more : List Answered) → with_replies lines (replies ++ more) ≡ with_replies (with_replies lines replies) more
with_replies-append lines [] more = refl
with_replies-append lines (reply ∷ replies) more = with_replies-append (with_answered lines reply) replies more

-- of two changes of a line the second one is seen, where it looks at nothing
pub change-twice : (n : ℕ) (f : Phase → Phase) (lines : List Standing) → change_line n (λ phase. Replied) (change_line n f lines) ≡ change_line n (λ phase. Replied) lines
change-twice n f [] = refl
change-twice n f (s ∷ lines) = go (s.line.number == n) refl (change-twice n f lines)
  where
    go : (b : Bool) → (s.line.number == n) ≡ b → change_line n (λ phase. Replied) (change_line n f lines) ≡ change_line n (λ phase. Replied) lines → change_line n (λ phase. Replied) ((if b then changed f s else s) ∷ change_line n f lines) ≡ (if b then changed (λ phase. Replied) s else s) ∷ change_line n (λ phase. Replied) lines
    go true is more = rw is (ap (λ t. changed (λ phase. Replied) s ∷ t) more)
    go false is more = rw is (ap (λ t. s ∷ t) more)

-- what holds of each line by its number holds of all in order
pub each-line : (P : Standing → Type 0) (above : ℕ) (lines : List Standing) → Rises number_of above lines → ((n : ℕ) (s : Standing) → line_at n lines ≡ Some s → P s) → AllByRecursion P lines
each-line P above [] r all = tt
each-line P above (s ∷ lines) r all = (all s.line.number s (item_at-first number_of s lines), each-line P s.line.number lines r.1 (λ n t e. all n t (item_at-later number_of above n s lines t r e)))

pub each-map : (P : Line → Type 0) (lines : List Standing) → AllByRecursion (λ s. P s.line) lines → AllByRecursion P (map line_in lines)
each-map P [] all = tt
each-map P (s ∷ lines) all = (all.0, each-map P lines all.1)
