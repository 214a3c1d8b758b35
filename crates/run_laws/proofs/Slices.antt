-- The bytes that a read gives are those of the version that its handle opened.
use Rattle.std.proofs.Common.{◌≡◌, ℕ, List, [], ◌∷◌, true, Option, Some, None, refl, sym, ap, ◌∙◌, subst}
use Rattle.std.specs.List.{AllByRecursion}
use Rattle.mp_types.specs.declared.options.Opts.{Opts}
use Rattle.mp_types.specs.Options.{AreWithin}
use Rattle.mp_rules.specs.declared.facts.Known.{Known}
use Rattle.bucket_model.specs.declared.call.Call.{Call}
use Rattle.bucket_model.specs.declared.call.Call.TheVariants as call
use Rattle.bucket_model.specs.declared.answer.Answer.{Answer}
use Rattle.bucket_model.specs.declared.answer.Answer.TheVariants as answer
use Rattle.bucket_model.specs.declared.answer.Brief.{Brief}
use Rattle.bucket_model.specs.declared.answer.Brief.TheVariants.{Missing, Bytes, Changed}
use Rattle.bucket_model.specs.Answers.{brief_of, bytes_in}
use Rattle.bucket_model.specs.Bucket.{ObjectVersion, IsSlice}
use Rattle.mount_model.specs.declared.handle.Handle.TheVariants.{Reading, Writing}
use Rattle.mount_model.specs.declared.handle.Version.{Version}
use Rattle.mount_model.specs.declared.request.Request.{Request}
use Rattle.mount_model.specs.declared.request.Request.TheVariants.{Read}
use Rattle.mount_model.specs.declared.request.Reply.{Reply}
use Rattle.mount_model.specs.declared.request.Reply.TheVariants as reply
use Rattle.mount_model.specs.declared.request.Line.{Line}
use Rattle.mount_model.specs.declared.event.Event.{Event}
use Rattle.mount_model.specs.declared.event.Event.TheVariants.{Begin, Take, Done}
use Rattle.mount_model.specs.declared.event.Owner.{Owner}
use Rattle.mount_model.specs.declared.event.Ask.{Ask}
use Rattle.mount_model.specs.declared.event.Answered.{Answered}
use Rattle.mount_model.specs.declared.standing.Heard.{Heard}
use Rattle.mount_model.specs.declared.standing.Phase.TheVariants.{Begun}
use Rattle.mount_model.specs.declared.standing.Standing.{Standing}
use Rattle.mount_model.specs.Heard.{nothing_heard, with_told, question_of, told_by}
use Rattle.mount_model.specs.Step.{Step}
use Rattle.mount_model.specs.Conversation.{Next, Asks, Gives, View, Range, range_in, range_next, read_next, next_of}
use Rattle.mount_model.specs.Handles.{Handle, handle_of}
use Rattle.mount_model.specs.State.{ClientState, Job, Out, line_at, job_at, view_of, TurnOf, turn_at, state_after}
use Rattle.mount_model.specs.Run.{AreRising, is_among, startable, MayDone, due_awaits, IsLegalStep, IsRunSoFar}
use Rattle.mount_model.specs.Reads.{IsRangeOf, IsReadOf, IsDataFor, IsReadReply, GivesOnly}
use Rattle.run_laws.specs.Alive.{IsAlive}
use Rattle.run_laws.specs.Faithful.{IsRead, IsFaithful}
use Rattle.run_laws.proofs.Keyed.{all-append, all-front}
use Rattle.run_laws.proofs.Conversation.{IsPlain, gives-read}
use Rattle.run_laws.proofs.Writers.{stands_as}
use Rattle.run_laws.specs.Served.{IsOfLine}
use Rattle.run_laws.proofs.Settled.{First, Stops, Answers, Passes, first}
use Rattle.run_laws.proofs.Opened.{OwnerIs, OfWriter, OfLine, owner-is, IsOpened, hears-opens, answers-line, begins-line}
use Rattle.run_laws.proofs.Steps.{next_now}
use Rattle.run_laws.proofs.Alive.{lines_behind, alive}
use Rattle.run_laws.proofs.Own.{IsSaid, SaysPlain, SaysData, OwnIs, NoOwn, OneOwn, own-is}
use Rattle.run_laws.proofs.Faithful.{faithful}

-- what a read gives behind the answer to its call

first-slice : (versions : List ObjectVersion) (version : Version) (range : Range) (said : Answer) (count : ℕ) → range_next version (Some range) (brief_of said ∷ []) ≡ Gives count → IsSlice versions (call.Get version.key version.etag range.from range.to) said → IsRangeOf versions version (Some range) (bytes_in said)
first-slice versions version range (answer.Bytes bytes) count gives slice = slice
first-slice versions version range answer.Changed count gives slice = absurd (cc)
first-slice versions version range answer.Missing count gives slice = absurd (cc)
first-slice versions version range other count gives slice = absurd (cc)

-- the answers behind one more, to this call
abbrev answers_behind : List Known → List Brief → Call → Brief → List Brief
answers_behind facts before called answer = (with_told (told_by (question_of called) answer) (record { facts = facts; answers = before })).answers

range-slice : (versions : List ObjectVersion) (version : Version) (o : Option Range) (facts : List Known) (before : List Brief) (called : Call) (said : Answer) (count : ℕ) → range_next version o before ≡ Asks called → range_next version o (answers_behind facts before called (brief_of said)) ≡ Gives count → IsSlice versions called said → IsRangeOf versions version o (bytes_in said)
range-slice versions version None facts before called said count asks gives slice = absurd (cc)
range-slice versions version (Some range) facts [] called said count asks gives slice =
    let is : called ≡ call.Get version.key version.etag range.from range.to = cc in
    first-slice versions version range said count
    (subst (λ (c : Call). range_next version (Some range) (answers_behind facts [] c (brief_of said)) ≡ Gives count) is gives)
    (subst (λ (c : Call). IsSlice versions c said) is slice)
range-slice versions version (Some range) facts (Bytes some ∷ before) called said count asks gives slice = absurd (cc)
range-slice versions version (Some range) facts (Changed ∷ before) called said count asks gives slice = absurd (cc)
range-slice versions version (Some range) facts (Missing ∷ before) called said count asks gives slice = absurd (cc)
range-slice versions version (Some range) facts (other ∷ before) called said count asks gives slice = absurd (cc)

read-slice : (versions : List ObjectVersion) (handle : Option Handle) (offset asked : ℕ) (before : Heard) (called : Call) (said : Answer) (count : ℕ) → read_next handle offset asked before.answers ≡ Asks called → read_next handle offset asked (with_told (told_by (question_of called) (brief_of said)) before).answers ≡ Gives count → IsSlice versions called said → IsReadOf versions handle offset asked (bytes_in said)
read-slice versions None offset asked before called said count asks gives slice = absurd (cc)
read-slice versions (Some (Writing w)) offset asked before called said count asks gives slice = absurd (cc)
read-slice versions (Some (Reading line version)) offset asked before called said count asks gives slice = range-slice versions version (range_in offset asked version.size) before.facts before.answers called said count asks gives slice

request-slice : (versions : List ObjectVersion) (view : View) (request : Request) (before : Heard) (called : Call) (said : Answer) (count : ℕ) → IsRead request → next_of view request before ≡ Asks called → next_of view request (with_told (told_by (question_of called) (brief_of said)) before) ≡ Gives count → IsSlice versions called said → IsDataFor versions request view.handle (bytes_in said)
request-slice versions view (Read name offset asked) before called said count read asks gives slice = read-slice versions view.handle offset asked before called said count asks gives slice
request-slice versions view other before called said count read asks gives slice = absurd read

-- a read that asks for nothing gives nothing

range-nothing : (versions : List ObjectVersion) (version : Version) (o : Option Range) (count : ℕ) → range_next version o [] ≡ Gives count → IsRangeOf versions version o []
range-nothing versions version None count gives = refl
range-nothing versions version (Some range) count gives = absurd (cc)

read-nothing : (versions : List ObjectVersion) (handle : Option Handle) (offset asked : ℕ) (count : ℕ) → read_next handle offset asked [] ≡ Gives count → IsReadOf versions handle offset asked []
read-nothing versions None offset asked count gives = absurd (cc)
read-nothing versions (Some (Writing w)) offset asked count gives = absurd (cc)
read-nothing versions (Some (Reading line version)) offset asked count gives = range-nothing versions version (range_in offset asked version.size) count gives

request-nothing : (versions : List ObjectVersion) (view : View) (request : Request) (count : ℕ) → IsRead request → next_of view request nothing_heard ≡ Gives count → IsDataFor versions request view.handle []
request-nothing versions view (Read name offset asked) count read gives = read-nothing versions view.handle offset asked count gives
request-nothing versions view other count read gives = absurd read

-- the replies of a step

-- a reply without data
plain-reply : (versions : List ObjectVersion) (now : ClientState) (line : ℕ) (said : Reply) → IsPlain said → IsReadReply versions now (record { line = line; reply = said })
plain-reply versions now line (reply.Data bytes) plain = absurd plain
plain-reply versions now line other plain = tt

-- nor have those to awaits
due-plain : (versions : List ObjectVersion) (now : ClientState) (lines : List Standing) → AllByRecursion (IsReadReply versions now) (due_awaits lines)
due-plain versions now [] = tt
due-plain versions now (s ∷ lines) = go (first s lines) (due-plain versions now lines)
  where
    go : First s lines → AllByRecursion (IsReadReply versions now) (due_awaits lines) → AllByRecursion (IsReadReply versions now) (due_awaits (s ∷ lines))
    go (Stops due same) more = rw due tt
    go (Answers heard begun awaits due same) more = rw due (tt, more)
    go (Passes replied due same) more = rw due more

-- so that the own ones decide
own-decide : (versions : List ObjectVersion) (now : ClientState) (step : Step) → (legal : IsLegalStep now step) → AllByRecursion (IsReadReply versions now) legal.own → AllByRecursion (IsReadReply versions now) step.replies
own-decide versions now step legal own =
    let dues : List Answered = due_awaits (lines_behind now step legal.own) in
    subst (AllByRecursion (IsReadReply versions now)) (sym legal.replies) (all-append (IsReadReply versions now) legal.own dues own (due-plain versions now (lines_behind now step legal.own)))

-- where a line whose turn it is may give these bytes alone
turn-reads : (versions : List ObjectVersion) (now : ClientState) (step : Step) (wanted : List ℕ) → IsAlive now → (legal : IsLegalStep now step) → ((opened : IsOpened now step.event) (count : ℕ) → next_now now step.event opened ≡ Gives count → IsDataFor versions opened.line.request (handle_of opened.line now.shared.handles) wanted) → AllByRecursion (GivesOnly wanted) step.replies → AllByRecursion (IsReadReply versions now) step.replies
turn-reads versions now step wanted alive legal gives only = own-decide versions now step legal (go (own-is now step alive legal))
  where
    own_only : AllByRecursion (GivesOnly wanted) legal.own
    own_only = all-front (GivesOnly wanted) legal.own (due_awaits (lines_behind now step legal.own)) (subst (AllByRecursion (GivesOnly wanted)) legal.replies only)

    by_said : (n : ℕ) (said : Reply) → legal.own ≡ record { line = n; reply = said } ∷ [] → IsSaid now step.event n said → IsReadReply versions now (record { line = n; reply = said })
    by_said n said one (SaysPlain plain) = plain-reply versions now n said plain
    by_said n said one (SaysData opened count bytes here is data_is) =
        let given : GivesOnly wanted (record { line = n; reply = said }) = (subst (AllByRecursion (GivesOnly wanted)) one own_only).0 in
        let same : bytes ≡ wanted = subst (λ (r : Reply). GivesOnly wanted (record { line = n; reply = r })) data_is given in
        let found : line_at n now.lines ≡ stands_as opened.line opened.old = ap (λ (k : ℕ). line_at k now.lines) here ∙ opened.found in
        subst (λ (r : Reply). IsReadReply versions now (record { line = n; reply = r })) (sym data_is) (rw (found, same) (gives opened count is))

    go : OwnIs now step.event legal.own → AllByRecursion (IsReadReply versions now) legal.own
    go (NoOwn none) = subst (AllByRecursion (IsReadReply versions now)) (sym none) tt
    go (OneOwn n line heard said one stands no_await same is_said whose) = subst (AllByRecursion (IsReadReply versions now)) (sym one) (by_said n said one is_said, tt)

-- each kind of step

-- a turn is of one line
same-turn : (state : ClientState) (event : Event) (opened : IsOpened state event) (line : Line) (who : Owner) (next : Next) → turn_at state event ≡ TurnOf line who next → (opened.line ≡ line) × (next_now state event opened ≡ next)
same-turn state event opened line who next turn =
    let both : TurnOf opened.line opened.who (next_now state event opened) ≡ TurnOf line who next = sym opened.turn ∙ turn in
    (let line_is : opened.line ≡ line = cc in line_is, let next_is : next_now state event opened ≡ next = cc in next_is)

-- behind an answer a read gives the answer's bytes: the line whose turn it is has heard it
done-gives : (versions : List ObjectVersion) (now : ClientState) (number position : ℕ) (said : Answer) (job : Job) → IsAlive now → IsFaithful now → (may : MayDone now number position (brief_of said)) → job_at number now.jobs ≡ Some job → IsSlice versions job.call said → (opened : IsOpened now (Done number position (brief_of said))) (count : ℕ) → next_now now (Done number position (brief_of said)) opened ≡ Gives count → IsDataFor versions opened.line.request (handle_of opened.line now.shared.handles) (bytes_in said)
done-gives versions now number position said job alive faithful may stands slice opened count is = by_owner (owner-is may.job.owner)
  where
    event : Event
    event = Done number position (brief_of said)

    by_line : IsOfLine may.job.owner → IsDataFor versions opened.line.request (handle_of opened.line now.shared.handles) (bytes_in said)
    by_line of_line =
        let both : Some may.job ≡ Some job = sym may.stands ∙ stands in
        let same_job : may.job ≡ job = cc in
        let out : may.job.phase ≡ Out may.from = may.is_out in
        let mine = answers-line now number position (brief_of said) alive may of_line in
        let due = mine.due in
        let view : View = view_of now.shared due.line in
        let same = same-turn now event opened due.line mine.who (next_of view due.line.request (with_told (told_by (question_of may.job.call) (brief_of said)) due.heard)) mine.turn in
        let gives : next_of view due.line.request (with_told (told_by (question_of may.job.call) (brief_of said)) due.heard) ≡ Gives count = sym same.1 ∙ is in
        let read = gives-read view due.line.request (with_told (told_by (question_of may.job.call) (brief_of said)) due.heard) count gives in
        let asks : next_of view due.line.request due.heard ≡ Asks may.job.call = faithful.reads number may.job may.stands of_line (λ gone. absurd (cc)) (record { line = due.line; phase = Begun due.heard }) due.stands read in
        subst (λ (l : Line). IsDataFor versions l.request (handle_of l now.shared.handles) (bytes_in said)) (sym same.0)
        (request-slice versions view due.line.request due.heard may.job.call said count read asks gives (subst (λ (j : Job). IsSlice versions j.call said) (sym same_job) slice))

    by_owner : OwnerIs may.job.owner → IsDataFor versions opened.line.request (handle_of opened.line now.shared.handles) (bytes_in said)
    by_owner (OfLine of_line) = by_line of_line
    by_owner (OfWriter line owned) =
        let heard = hears-opens now number position line (brief_of said) alive may owned in
        absurd (let both = sym opened.turn ∙ heard.turn in cc)

-- a line that begins has no answer yet
begun-gives : (versions : List ObjectVersion) (now : ClientState) (n time : ℕ) → IsAlive now → is_among n (startable now.lines) ≡ true → (opened : IsOpened now (Begin n time)) (count : ℕ) → next_now now (Begin n time) opened ≡ Gives count → IsDataFor versions opened.line.request (handle_of opened.line now.shared.handles) []
begun-gives versions now n time alive may opened count is =
    let mine = begins-line now n time alive may in
    let view : View = view_of now.shared mine.line in
    let same = same-turn now (Begin n time) opened mine.line mine.who (next_of view mine.line.request nothing_heard) mine.turn in
    let gives : next_of view mine.line.request nothing_heard ≡ Gives count = sym same.1 ∙ is in
    let read = gives-read view mine.line.request nothing_heard count gives in
    subst (λ (l : Line). IsDataFor versions l.request (handle_of l now.shared.handles) []) (sym same.0) (request-nothing versions view mine.line.request count read gives)

done-at : (versions : List ObjectVersion) (now : ClientState) (number position : ℕ) (said : Answer) (job : Job) (drops : List ℕ) (asks : List Ask) (replies : List Answered) → IsAlive now → IsFaithful now → IsLegalStep now (record { event = Done number position (brief_of said); drops = drops; asks = asks; replies = replies }) → job_at number now.jobs ≡ Some job → IsSlice versions job.call said → AllByRecursion (GivesOnly (bytes_in said)) replies → AllByRecursion (IsReadReply versions now) replies
done-at versions now number position said job drops asks replies alive faithful legal stands slice only = turn-reads versions now (record { event = Done number position (brief_of said); drops = drops; asks = asks; replies = replies }) (bytes_in said) alive legal (done-gives versions now number position said job alive faithful legal.may_come stands slice) only

begun-at : (versions : List ObjectVersion) (now : ClientState) (line time : ℕ) (drops : List ℕ) (asks : List Ask) (replies : List Answered) → IsAlive now → IsLegalStep now (record { event = Begin line time; drops = drops; asks = asks; replies = replies }) → AllByRecursion (GivesOnly []) replies → AllByRecursion (IsReadReply versions now) replies
begun-at versions now line time drops asks replies alive legal only = turn-reads versions now (record { event = Begin line time; drops = drops; asks = asks; replies = replies }) [] alive legal (begun-gives versions now line time alive legal.may_come.1) only

taken-at : (versions : List ObjectVersion) (now : ClientState) (number time from : ℕ) (drops : List ℕ) (asks : List Ask) (replies : List Answered) → IsLegalStep now (record { event = Take number time from; drops = drops; asks = asks; replies = replies }) → AllByRecursion (IsReadReply versions now) replies
taken-at versions now number time from drops asks replies legal = own-decide versions now (record { event = Take number time from; drops = drops; asks = asks; replies = replies }) legal (subst (AllByRecursion (IsReadReply versions now)) (sym legal.turn.1) tt)

-- a legal step, by its event

pub done_reads : (versions : List ObjectVersion) (now : ClientState) (step : Step) (number position : ℕ) (said : Answer) (job : Job) → IsAlive now → IsFaithful now → IsLegalStep now step → step.event ≡ Done number position (brief_of said) → job_at number now.jobs ≡ Some job → IsSlice versions job.call said → AllByRecursion (GivesOnly (bytes_in said)) step.replies → AllByRecursion (IsReadReply versions now) step.replies
done_reads versions now step number position said job alive faithful legal is stands slice only =
    done-at versions now number position said job step.drops step.asks step.replies alive faithful (subst (λ (e : Event). IsLegalStep now (record { event = e; drops = step.drops; asks = step.asks; replies = step.replies })) is legal) stands slice only

pub begun_reads : (versions : List ObjectVersion) (now : ClientState) (step : Step) (line time : ℕ) → IsAlive now → IsLegalStep now step → step.event ≡ Begin line time → AllByRecursion (GivesOnly []) step.replies → AllByRecursion (IsReadReply versions now) step.replies
begun_reads versions now step line time alive legal is only =
    begun-at versions now line time step.drops step.asks step.replies alive (subst (λ (e : Event). IsLegalStep now (record { event = e; drops = step.drops; asks = step.asks; replies = step.replies })) is legal) only

pub taken_reads : (versions : List ObjectVersion) (now : ClientState) (step : Step) (number time from : ℕ) → IsLegalStep now step → step.event ≡ Take number time from → AllByRecursion (IsReadReply versions now) step.replies
taken_reads versions now step number time from legal is =
    taken-at versions now number time from step.drops step.asks step.replies (subst (λ (e : Event). IsLegalStep now (record { event = e; drops = step.drops; asks = step.asks; replies = step.replies })) is legal)

-- and behind a run

pub run_done_reads : (versions : List ObjectVersion) (options : Opts) (script : List Line) (steps : List Step) (step : Step) (number position : ℕ) (said : Answer) (job : Job) → AreWithin options → AreRising 0 script → IsRunSoFar options script steps → IsLegalStep (state_after options script steps) step → step.event ≡ Done number position (brief_of said) → job_at number (state_after options script steps).jobs ≡ Some job → IsSlice versions job.call said → AllByRecursion (GivesOnly (bytes_in said)) step.replies → AllByRecursion (IsReadReply versions (state_after options script steps)) step.replies
run_done_reads versions options script steps step number position said job within rising run legal is stands slice only =
    done_reads versions (state_after options script steps) step number position said job (alive options script steps within rising run) (faithful options script steps within rising run) legal is stands slice only

pub run_begun_reads : (versions : List ObjectVersion) (options : Opts) (script : List Line) (steps : List Step) (step : Step) (line time : ℕ) → AreWithin options → AreRising 0 script → IsRunSoFar options script steps → IsLegalStep (state_after options script steps) step → step.event ≡ Begin line time → AllByRecursion (GivesOnly []) step.replies → AllByRecursion (IsReadReply versions (state_after options script steps)) step.replies
run_begun_reads versions options script steps step line time within rising run legal is only = begun_reads versions (state_after options script steps) step line time (alive options script steps within rising run) legal is only

pub run_taken_reads : (versions : List ObjectVersion) (options : Opts) (script : List Line) (steps : List Step) (step : Step) (number time from : ℕ) → IsLegalStep (state_after options script steps) step → step.event ≡ Take number time from → AllByRecursion (IsReadReply versions (state_after options script steps)) step.replies
run_taken_reads versions options script steps step number time from legal is = taken_reads versions (state_after options script steps) step number time from legal is
