-- The turn of a line: all is served but this line, until it asks, replies, waits or has its writer go on.
use Rattle.std.proofs.Common.{◌≡◌, ℕ, ◌+◌, List, [], ◌∷◌, ◌++◌, map, length, Bool, true, false, ◌==◌, Some, inl, inr, refl, sym, ap, ◌∙◌, subst, arith, eqb-true, eq-eqb, ne_eqb}
use Rattle.std.proofs.lemmas.Bool.{eqb-false}
use Rattle.mp_types.specs.declared.errno.Errno.TheVariants.{Enomem}
use Rattle.mp_rules.specs.declared.entry.DirEntry.{DirEntry}
use Rattle.bucket_model.specs.declared.call.Call.{Call}
use Rattle.mount_model.specs.declared.request.Reply.{Reply}
use Rattle.mount_model.specs.declared.request.Reply.TheVariants as reply
use Rattle.mount_model.specs.declared.request.Line.{Line}
use Rattle.mount_model.specs.declared.event.Owner.{Owner}
use Rattle.mount_model.specs.declared.event.Owner.TheVariants as owner
use Rattle.mount_model.specs.declared.event.Answered.{Answered}
use Rattle.mount_model.specs.declared.standing.Heard.{Heard}
use Rattle.mount_model.specs.declared.standing.Phase.TheVariants.{Begun, Replied}
use Rattle.mount_model.specs.declared.standing.Standing.{Standing}
use Rattle.mount_model.specs.declared.handle.Version.{Version}
use Rattle.mount_model.specs.Step.{Step}
use Rattle.mount_model.specs.Handles.{Writer}
use Rattle.mount_model.specs.State.{ClientState, Job, Ready, line_at, change_line, AreNumbered}
use Rattle.mount_model.specs.Conversation.{Next, Asks, Replies, Makes, Removes, Opens, Creates, Lists, Gives, Writes, Ends, Waits}
use Rattle.mount_model.specs.Run.{AreRising, asked_of, TakesTurnOfLine, TakesTurnOfWriter}
use Rattle.mount_model.proofs.Numbered.{numbered-push}
use Rattle.run_laws.specs.Counts.{if_line}
use Rattle.run_laws.specs.Alive.{if_of_line, live_job, live_jobs, jobs_at_once, jobs_wanted, AreOrderly}
use Rattle.run_laws.specs.Served.{IsOfLine}
use Rattle.run_laws.proofs.Keyed.{total-append}
use Rattle.run_laws.proofs.Lines.{line_in, Rises-lines, lines-change, line_at-same, line_at-other}
use Rattle.run_laws.proofs.Orderly.{orderly-replied}

-- how a line's turn ends

-- where there may be no memory for what it does next
abbrev pub MayLack : Next → Type 0
MayLack (Asks called) = Unit {0}
MayLack (Makes key) = Unit {0}
MayLack (Opens version) = Unit {0}
MayLack (Creates key) = Unit {0}
MayLack (Lists entries) = Unit {0}
MayLack (Writes count writer) = Unit {0}
MayLack other = ⊥

-- the reply that it gives, by what it does next
pub data SaysSo : Next → Reply → Type 0 where
  ByItself : (said : Reply) → SaysSo (Replies said) said
  MakesDir : (key : List ℕ) → SaysSo (Makes key) reply.Success
  RemovesDir : (key : List ℕ) → SaysSo (Removes key) reply.Success
  OpensHandle : (version : Version) → SaysSo (Opens version) (reply.Open version.size)
  CreatesFile : (key : List ℕ) → SaysSo (Creates key) (reply.Open 0)
  ListsEntries : (entries : List DirEntry) → SaysSo (Lists entries) (reply.Listed entries)
  GivesData : (count : ℕ) (bytes : List ℕ) → SaysSo (Gives count) (reply.Data bytes)
  HasNoMemory : (next : Next) → MayLack next → SaysSo next (reply.Failed Enomem)

pub data Ending (state : ClientState) (step : Step) (line : Line) (who : Owner) (next : Next) (own : List Answered) : Type 0 where
  AsksOne : (called : Call) → next ≡ Asks called → step.asks ≡ record { job = length state.jobs + 1; owner = who; call = asked_of called } ∷ [] → own ≡ [] → step.drops ≡ [] → Ending state step line who next own
  RepliesOne : (said : Reply) → SaysSo next said → step.asks ≡ [] → own ≡ record { line = line.number; reply = said } ∷ [] → step.drops ≡ [] → Ending state step line who next own
  WritesOn : (count : ℕ) (writer : Writer) (answers : List Answered) → next ≡ Writes count writer → TakesTurnOfWriter state step writer answers → own ≡ record { line = line.number; reply = reply.Wrote count } ∷ answers → Ending state step line who next own
  EndsIt : (writer : Writer) → next ≡ Ends writer → TakesTurnOfWriter state step writer own → Ending state step line who next own
  Rests : next ≡ Waits → step.asks ≡ [] → own ≡ [] → step.drops ≡ [] → Ending state step line who next own

pub ending : (state : ClientState) (step : Step) (line : Line) (who : Owner) (next : Next) (own : List Answered) → TakesTurnOfLine state step line who next own → Ending state step line who next own
ending state step line who (Asks called) own (inl t) = AsksOne called refl t.0 t.1 t.2
ending state step line who (Asks called) own (inr t) = RepliesOne (reply.Failed Enomem) (HasNoMemory (Asks called) tt) t.0 t.1 t.2
ending state step line who (Replies said) own t = RepliesOne said (ByItself said) t.0 t.1 t.2
ending state step line who (Makes key) own (inl t) = RepliesOne reply.Success (MakesDir key) t.0 t.1 t.2
ending state step line who (Makes key) own (inr t) = RepliesOne (reply.Failed Enomem) (HasNoMemory (Makes key) tt) t.0 t.1 t.2
ending state step line who (Removes key) own t = RepliesOne reply.Success (RemovesDir key) t.0 t.1 t.2
ending state step line who (Opens version) own (inl t) = RepliesOne (reply.Open version.size) (OpensHandle version) t.0 t.1 t.2
ending state step line who (Opens version) own (inr t) = RepliesOne (reply.Failed Enomem) (HasNoMemory (Opens version) tt) t.0 t.1 t.2
ending state step line who (Creates key) own (inl t) = RepliesOne (reply.Open 0) (CreatesFile key) t.0 t.1 t.2
ending state step line who (Creates key) own (inr t) = RepliesOne (reply.Failed Enomem) (HasNoMemory (Creates key) tt) t.0 t.1 t.2
ending state step line who (Lists entries) own (inl t) = RepliesOne (reply.Listed entries) (ListsEntries entries) t.0 t.1 t.2
ending state step line who (Lists entries) own (inr t) = RepliesOne (reply.Failed Enomem) (HasNoMemory (Lists entries) tt) t.0 t.1 t.2
ending state step line who (Gives count) own t = RepliesOne (reply.Data t.0) (GivesData count t.0) t.2.0 t.2.1 t.2.2
ending state step line who (Writes count writer) own (inl t) = WritesOn count writer t.0 refl t.1 t.2
ending state step line who (Writes count writer) own (inr t) = RepliesOne (reply.Failed Enomem) (HasNoMemory (Writes count writer) tt) t.0 t.1 t.2
ending state step line who (Ends writer) own t = EndsIt writer refl t
ending state step line who Waits own t = Rests refl t.0 t.1 t.2

-- it is the turn of this line, which has heard this: all is served but it
pub record IsOpen (n : ℕ) (line : Line) (heard : Heard) (lines : List Standing) (jobs : List Job) : Type 0 where
  pub rising : AreRising 0 (map line_in lines)
  pub numbered : AreNumbered 1 jobs
  pub orderly : AreOrderly [] lines
  pub stands : line_at n lines ≡ Some (record { line = line; phase = Begun heard })
  pub none : live_jobs n jobs ≡ 0
  pub balanced : (m : ℕ) → (m ≡ n → ⊥) → live_jobs m jobs ≡ jobs_wanted (line_at m lines)

-- each line is served
pub record IsClosed (lines : List Standing) (jobs : List Job) : Type 0 where
  pub rising : AreRising 0 (map line_in lines)
  pub numbered : AreNumbered 1 jobs
  pub orderly : AreOrderly [] lines
  pub balanced : (m : ℕ) → live_jobs m jobs ≡ jobs_wanted (line_at m lines)

-- the ends of a turn

-- what holds of this number, and of each other, holds of all
pub by_number : (n : ℕ) (P : ℕ → Type 0) → P n → ((m : ℕ) → (m ≡ n → ⊥) → P m) → (m : ℕ) → P m
by_number n P here others m = go (m == n) refl
  where
    go : (b : Bool) → (m == n) ≡ b → P m
    go true is = subst P (sym (eqb-true m n is)) here
    go false is = others m (eqb-false m n is)

-- a job of a line's own
abbrev pub line_job : ℕ → Owner → ℕ → Call → Job
line_job number who line called = record { number = number; owner = who; line = line; call = called; phase = Ready }

pub of-line : (who : Owner) (count : ℕ) → IsOfLine who → if_of_line who count ≡ count
of-line (owner.Writer opened) count own = absurd own
of-line other count own = refl

one-job : (n number : ℕ) (who : Owner) (call : Call) (jobs : List Job) → IsOfLine who → live_jobs n jobs ≡ 0 → live_jobs n (jobs ++ line_job number who n call ∷ []) ≡ 1
one-job n number who call jobs of_line none =
    let sum = total-append (live_job n) jobs (line_job number who n call ∷ []) in
    let same : (n == n) ≡ true = eq-eqb n n refl in
    let own : if_line n n ≡ 1 = rw same refl in
    let here = of-line who (if_line n n) of_line in
    omega arith

other-job : (n m number : ℕ) (who : Owner) (call : Call) (jobs : List Job) → IsOfLine who → (m ≡ n → ⊥) → live_jobs m (jobs ++ line_job number who n call ∷ []) ≡ live_jobs m jobs
other-job n m number who call jobs of_line apart =
    let sum = total-append (live_job m) jobs (line_job number who n call ∷ []) in
    let other : (n == m) ≡ false = ne_eqb n m (λ e. apart (sym e)) in
    let own : if_line m n ≡ 0 = rw other refl in
    let here = of-line who (if_line m n) of_line in
    omega arith

pub close-asks : (n number : ℕ) (who : Owner) (line : Line) (heard : Heard) (lines : List Standing) (jobs : List Job) (call : Call) → IsOfLine who → IsOpen n line heard lines jobs → jobs_at_once line.request ≡ 1 → number ≡ length jobs + 1 → IsClosed lines (jobs ++ line_job number who n call ∷ [])
close-asks n number who line heard lines jobs call of_line opened wants is = record {
  rising = opened.rising;
  numbered = numbered-push 1 jobs (line_job number who n call) (omega arith) opened.numbered;
  orderly = opened.orderly;
  balanced = by_number n (λ m. live_jobs m (jobs ++ line_job number who n call ∷ []) ≡ jobs_wanted (line_at m lines))
      (one-job n number who call jobs of_line opened.none ∙ sym (ap jobs_wanted opened.stands ∙ wants))
      (λ m apart. other-job n m number who call jobs of_line apart ∙ opened.balanced m apart);
}

pub close-reply : (n : ℕ) (line : Line) (heard : Heard) (lines : List Standing) (jobs : List Job) → IsOpen n line heard lines jobs → IsClosed (change_line n (λ phase. Replied) lines) jobs
close-reply n line heard lines jobs opened = record {
  rising = rw (lines-change n (λ phase. Replied) lines) opened.rising;
  numbered = opened.numbered;
  orderly = orderly-replied 0 n [] lines (record { line = line; phase = Begun heard }) heard (Rises-lines 0 lines opened.rising) opened.stands refl opened.orderly;
  balanced = by_number n (λ m. live_jobs m jobs ≡ jobs_wanted (line_at m (change_line n (λ phase. Replied) lines)))
      (opened.none ∙ sym (ap jobs_wanted (line_at-same n (λ phase. Replied) lines (record { line = line; phase = Begun heard }) opened.stands)))
      (λ m apart. opened.balanced m apart ∙ sym (ap jobs_wanted (line_at-other n m (λ phase. Replied) lines apart)));
}

pub close-wait : (n : ℕ) (line : Line) (heard : Heard) (lines : List Standing) (jobs : List Job) → IsOpen n line heard lines jobs → jobs_at_once line.request ≡ 0 → IsClosed lines jobs
close-wait n line heard lines jobs opened waits = record {
  rising = opened.rising;
  numbered = opened.numbered;
  orderly = opened.orderly;
  balanced = by_number n (λ m. live_jobs m jobs ≡ jobs_wanted (line_at m lines)) (opened.none ∙ sym (ap jobs_wanted opened.stands ∙ waits)) opened.balanced;
}

-- a line that waits for a writer is answered
pub reply-closed : (n : ℕ) (line : Line) (heard : Heard) (lines : List Standing) (jobs : List Job) → IsClosed lines jobs → line_at n lines ≡ Some (record { line = line; phase = Begun heard }) → jobs_at_once line.request ≡ 0 → IsClosed (change_line n (λ phase. Replied) lines) jobs
reply-closed n line heard lines jobs closed stands waits =
    close-reply n line heard lines jobs (record { rising = closed.rising; numbered = closed.numbered; orderly = closed.orderly; stands = stands; none = closed.balanced n ∙ ap jobs_wanted stands ∙ waits; balanced = λ m apart. closed.balanced m })

-- other jobs, as many of each line
pub closed-jobs : (lines : List Standing) (jobs now : List Job) → AreNumbered 1 now → ((m : ℕ) → live_jobs m now ≡ live_jobs m jobs) → IsClosed lines jobs → IsClosed lines now
closed-jobs lines jobs now numbers same closed = record { rising = closed.rising; numbered = numbers; orderly = closed.orderly; balanced = λ m. same m ∙ closed.balanced m }
