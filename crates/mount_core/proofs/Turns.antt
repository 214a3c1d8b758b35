-- The ways in which a line's turn ends.
use Rattle.std.proofs.Common.{◌≡◌, ℕ, ◌+◌, List, [], ◌∷◌, ◌++◌, length, Option, Some, None, Ok, refl, sym, ap, ◌∙◌, subst, inl, inr, false, ◌⊎◌, append-nil, append_assoc, length-append}
use Rattle.std.specs.FinMap as table
use Rattle.std.proofs.lemmas.List.Sums.{fold-append}
use Rattle.bucket_model.specs.declared.call.Call.{Call}
use Rattle.mp_types.specs.Path.{joined}
use Rattle.mp_types.specs.declared.errno.Errno.TheVariants.{Enomem}
use Rattle.mp_rules.specs.Local.{LocalNames}
use Rattle.local_names.specs.Names.{is_name}
use Rattle.mount_model.specs.declared.handle.Version.{Version}
use Rattle.mount_model.specs.declared.handle.Handle.TheVariants.{Writing}
use Rattle.mount_model.specs.declared.handle.Waiter.{Waiter}
use Rattle.mount_model.specs.declared.handle.Waiter.TheVariants as waiter
use Rattle.mount_model.specs.declared.request.Request.{Request}
use Rattle.mount_model.specs.declared.request.Request.TheVariants.{RemoveDir}
use Rattle.mount_model.specs.declared.request.Reply.{Reply}
use Rattle.mount_model.specs.declared.request.Reply.TheVariants as reply
use Rattle.mount_model.specs.declared.request.Line.{Line}
use Rattle.mount_model.specs.declared.event.Ask.{Ask}
use Rattle.mount_model.specs.declared.event.Answered.{Answered}
use Rattle.mount_model.specs.declared.event.Owner.{Owner}
use Rattle.mount_model.specs.declared.standing.Heard.{Heard}
use Rattle.mount_model.specs.declared.standing.Phase.TheVariants.{Begun, Replied}
use Rattle.mount_model.specs.declared.standing.Standing.{Standing}
use Rattle.mount_model.specs.declared.standing.Told.{Told}
use Rattle.mount_model.specs.Step.{Step, change_last, with_ask, HasStep}
use Rattle.mount_model.specs.State.{ClientState, Shared, Job, Ready, Turn, TurnOf, line_at, change_line, jobs_asked, jobs_of_line, by_reply, reply_in, shared_after, view_of, with_answered, with_replies}
use Rattle.mount_model.specs.Conversation.{Next, Replies, Makes, Removes, Opens, Creates, Lists, Gives, Writes, Ends as EndsIt, Waits, View, next_of, sync_next, close_next}
use Rattle.mount_model.specs.Conversation as said
use Rattle.mount_model.specs.Handles.{Writer, name_in, handle_named, handle_of}
use Rattle.mount_model.specs.Reads.{GivesOnly}
use Rattle.mount_model.specs.Run.{Says, TakesTurn, TakesTurnOfLine, asked_of}
use Rattle.line_table.specs.Table.{HasBegun}
use Rattle.line_table.proofs.Kept.{change_line-same}
use Rattle.job_table.specs.LiveJobs.{LiveJobs, Held, purpose_of}
use Rattle.job_table.proofs.AllJobs.{held_of-push}
use Rattle.run_laws.proofs.Conversation.{IsPlain, replies-plain, opens-free, creates-free}
use Rattle.run_laws.proofs.Effects.{reply-first, asks-shared, waits-shared}
use Rattle.run_laws.proofs.Alive.{no-asks}
use Rattle.mount_plan.specs.Meant.{with_last}
use Rattle.name_laws.specs.Files.{IsNoName}
use Rattle.name_laws.proofs.Walks.{created, made}
use Rattle.mount_core.specs.declared.work.Work.{Work}
use Rattle.mount_core.specs.Due.{MayLack, IsWait, is_waiting}
use Rattle.mount_core.specs.Shared.{shared_in}
use Rattle.mount_core.specs.Turn.{heard_last, lines_behind, next_behind, owner_behind, turn_behind, with_part, gone_with, AreAll, Holds, Answers, Takes, HasPlace, MayOpen, RemovesDir, SharedAlone, Speaks}
use Rattle.mount_core.specs.Ends.{Asks, Ends}
use Rattle.mount_core.proofs.Changes.{change_line-twice}
use Rattle.mount_core.proofs.Questions.{opens_fits, creates_fits, removes_fits}
use Rattle.mount_core.proofs.Dues.{gone_on, number-is, next-seen, next_seen, turn-is}
use Rattle.mount_core.proofs.Steps.{change_last-same, with_part-none, with_part-ask, steps-more}

-- no job is asked for or dropped
holds-same : (jobs now : LiveJobs) (all asked : List Job) (drops : List ℕ) → now ≡ jobs → AreAll jobs all → asked ≡ [] → drops ≡ [] → Holds now (gone_with (all ++ asked) drops)
holds-same jobs now all asked drops same is none no_drops =
    rw (none, no_drops, append-nil, same) (record { held = is.held; count = is.count })

-- one job is
holds-asked : (jobs now : LiveJobs) (all : List Job) (who : Owner) (line : ℕ) (called : Call) (drops : List ℕ) →
    now ≡ record { count = jobs.count + 1; held = jobs.held ++ record { number = jobs.count + 1; owner = who; line = line; call = Some called; purpose = purpose_of called } ∷ [] } →
    AreAll jobs all → drops ≡ [] →
    Holds now (gone_with (all ++ record { number = jobs.count + 1; owner = who; line = line; call = called; phase = Ready } ∷ []) drops)
holds-asked jobs now all who line called drops more is no_drops =
    rw (no_drops, more) (record {
      held = ap (λ (h : List Held). h ++ record { number = jobs.count + 1; owner = who; line = line; call = Some called; purpose = purpose_of called } ∷ []) is.held ∙ sym (held_of-push all (jobs.count + 1) line who called);
      count = ap (λ k. k + 1) is.count ∙ sym (length-append all (record { number = jobs.count + 1; owner = who; line = line; call = called; phase = Ready } ∷ []));
    })

pub takes_asking : (n : ℕ) (asker : Owner) (last : Option Told) (called : Call) (bytes : List ℕ) (old new : Work) → HasBegun n old.lines →
    next_behind n last old ≡ said.Asks called →
    asker ≡ owner_behind n last old →
    Asks n asker called last old new →
    shared_in new ≡ shared_in old →
    Takes (turn_behind n last old) (lines_behind n last old) bytes old new
takes_asking n asker last called bytes old new begun next owned asks same =
    let line : Line = begun.standing.line in
    let number : line.number ≡ n = number-is n old.lines begun.standing begun.stands in
    let turn : turn_behind n last old ≡ TurnOf line asker (said.Asks called) = turn-is n last old begun (said.Asks called) next ∙ ap (λ o. TurnOf line o (said.Asks called)) (sym owned) in
    let ask : Ask = record { job = old.jobs.count + 1; owner = asker; call = asked_of called } in
    record {
      drops = [];
      asks = ask ∷ [];
      own = [];
      steps = asks.steps ∙ change_last-same (with_ask ask) (with_part [] (ask ∷ []) []) old.record.steps (with_part-ask ask);
      replied = asks.lines;
      legal = λ state step drops asks_are all len. subst (λ (t : Turn). TakesTurn state step t []) (sym turn) (inl (asks_are ∙ ap (λ k. record { job = k + 1; owner = asker; call = asked_of called } ∷ []) (all.count ∙ len), refl, drops));
      jobs = λ step all drops asks_are is. subst (λ (t : Turn). Holds new.jobs (gone_with (all ++ jobs_asked step t) step.drops)) (sym turn) (rw (asks_are, number) (holds-asked old.jobs new.jobs all asker n called step.drops asks.jobs is drops));
      shared = λ step all more is drops asks_are replies. same ∙ (sym (asks-shared called line step (shared_in old) (reply_in line.number step.replies)) ∙ ap (λ (t : Turn). shared_after t step (shared_in old)) (sym turn));
      time = asks.time;
      options = ap (λ (t : Shared). t.options) same;
      gives = tt;
    }

-- a reply, whether or not the last answer was kept
pub takes_replying : (n : ℕ) (last : Option Told) (bytes : List ℕ) (told : Reply) (next : Next) (old kept new : Work) → (begun : HasBegun n old.lines) → next_behind n last old ≡ next →
    kept.record.steps ≡ old.record.steps →
    change_line n (λ phase. Replied) kept.lines ≡ change_line n (λ phase. Replied) old.lines →
    kept.jobs ≡ old.jobs →
    kept.time ≡ old.time →
    Answers (record { line = n; reply = told } ∷ []) kept new →
    ((state : ClientState) (step : Step) (line : Line) (who : Owner) → line.number ≡ n → step.asks ≡ [] → step.drops ≡ [] → TakesTurnOfLine state step line who next (record { line = n; reply = told } ∷ [])) →
    new.options ≡ old.options →
    ((step : Step) → shared_in new ≡ by_reply next begun.standing.line step (shared_in old) (Some told)) →
    GivesOnly bytes (record { line = n; reply = told }) →
    Takes (turn_behind n last old) (lines_behind n last old) bytes old new
takes_replying n last bytes told next old kept new begun is steps lines jobs time answers may options does gives =
    let line : Line = begun.standing.line in
    let number : line.number ≡ n = number-is n old.lines begun.standing begun.stands in
    let who : Owner = owner_behind n last old in
    let turn : turn_behind n last old ≡ TurnOf line who next = turn-is n last old begun next is in
    let own : List Answered = record { line = n; reply = told } ∷ [] in
    record {
      drops = [];
      asks = [];
      own = own;
      steps = answers.steps ∙ ap (change_last (with_part [] [] own)) steps;
      replied = answers.lines ∙ (lines ∙ sym (change_line-twice n (λ phase. Replied) (heard_last last) old.lines));
      legal = λ state step drops asks_are all len. subst (λ (t : Turn). TakesTurn state step t own) (sym turn) (may state step line who number asks_are drops);
      jobs = λ step all drops asks_are is. subst (λ (t : Turn). Holds new.jobs (gone_with (all ++ jobs_asked step t) step.drops)) (sym turn) (holds-same old.jobs new.jobs all (jobs_of_line step line next) step.drops (answers.jobs ∙ jobs) is (no-asks step line next asks_are) drops);
      shared = λ step all more is drops asks_are replies.
          let said_is : reply_in line.number step.replies ≡ Some told = ap (λ k. reply_in k step.replies) number ∙ (ap (reply_in n) replies ∙ reply-first n told more) in
          does step ∙ (ap (by_reply next line step (shared_in old)) (sym said_is) ∙ ap (λ (t : Turn). shared_after t step (shared_in old)) (sym turn));
      time = answers.time ∙ time;
      options = options;
      gives = (gives, tt);
    }

-- a line that made, removed or opened something, or found no memory for it
pub takes_ending : (n : ℕ) (last : Option Told) (bytes : List ℕ) (next : Next) (old new : Work) → HasBegun n old.lines → next_behind n last old ≡ next → Ends n next old new → Takes (turn_behind n last old) (lines_behind n last old) bytes old new
takes_ending n last bytes next old new begun is ends =
    takes_replying n last bytes ends.said next old old new begun is refl refl refl refl ends.answers ends.turn ends.options (λ step. ends.does begun.standing step begun.stands) (ends.plain bytes)

-- such a reply behind its effect
pub ends_as : (n : ℕ) (next : Next) (told : Reply) (old kept new : Work) → SharedAlone old kept →
    Answers (record { line = n; reply = told } ∷ []) kept new →
    shared_in new ≡ shared_in kept →
    ((state : ClientState) (step : Step) (line : Line) (who : Owner) → line.number ≡ n → step.asks ≡ [] → step.drops ≡ [] → TakesTurnOfLine state step line who next (record { line = n; reply = told } ∷ [])) →
    ((bytes : List ℕ) → GivesOnly bytes (record { line = n; reply = told })) →
    ((s : Standing) (step : Step) → line_at n old.lines ≡ Some s → shared_in kept ≡ by_reply next s.line step (shared_in old) (Some told)) →
    Ends n next old new
ends_as n next told old kept new alone answers same turn plain does =
    let own : List Answered = record { line = n; reply = told } ∷ [] in
    record {
      said = told;
      answers = record {
        steps = answers.steps ∙ ap (change_last (with_part [] [] own)) alone.steps;
        lines = answers.lines ∙ ap (λ (l : List Standing). with_replies l own) alone.lines;
        jobs = answers.jobs ∙ alone.jobs;
        time = answers.time ∙ alone.time;
      };
      turn = turn;
      plain = plain;
      options = ap (λ (t : Shared). t.options) same ∙ alone.options;
      does = λ s step stands. same ∙ does s step stands;
    }

pub takes_waiting : (n : ℕ) (last : Option Told) (bytes : List ℕ) (old : Work) → HasBegun n old.lines → HasStep old.record.steps → last ≡ None → next_behind n last old ≡ Waits → Takes (turn_behind n last old) (lines_behind n last old) bytes old old
takes_waiting n last bytes old begun has none waits =
    let line : Line = begun.standing.line in
    let who : Owner = owner_behind n last old in
    let turn : turn_behind n last old ≡ TurnOf line who Waits = turn-is n last old begun Waits waits in
    record {
      drops = [];
      asks = [];
      own = [];
      steps = sym (with_part-none old.record.steps has);
      replied = sym (ap (λ l. change_line n (heard_last l) old.lines) none ∙ change_line-same n old.lines);
      legal = λ state step drops asks_are all len. subst (λ (t : Turn). TakesTurn state step t []) (sym turn) (asks_are, refl, drops);
      jobs = λ step all drops asks_are is. subst (λ (t : Turn). Holds old.jobs (gone_with (all ++ jobs_asked step t) step.drops)) (sym turn) (holds-same old.jobs old.jobs all [] step.drops refl is refl drops);
      shared = λ step all more is drops asks_are replies. sym (waits-shared line step (shared_in old) (reply_in line.number step.replies)) ∙ ap (λ (t : Turn). shared_after t step (shared_in old)) (sym turn);
      time = refl;
      options = refl;
      gives = tt;
    }

-- replies one after another
pub answers_more : (first more : List Answered) (old mid new : Work) → HasStep old.record.steps → Answers first old mid → Answers more mid new → Answers (first ++ more) old new
answers_more first more old mid new has one two = record {
  steps = steps-more [] [] first more old.record.steps mid.record.steps new.record.steps has one.steps two.steps;
  lines = two.lines ∙ (ap (λ l. with_replies l more) one.lines ∙ sym (fold-append with_answered old.lines first more));
  jobs = two.jobs ∙ one.jobs;
  time = two.time ∙ one.time;
}

pub answers_none : (old : Work) → HasStep old.record.steps → Answers [] old old
answers_none old has = record { steps = sym (with_part-none old.record.steps has); lines = refl; jobs = refl; time = refl }

pub lacks_turn : (n : ℕ) (next : Next) → MayLack next → (state : ClientState) (step : Step) (line : Line) (who : Owner) → line.number ≡ n → step.asks ≡ [] → step.drops ≡ [] → TakesTurnOfLine state step line who next (record { line = n; reply = reply.Failed Enomem } ∷ [])
lacks_turn n (said.Asks called) may state step line who number asks drops = inr (asks, ap (λ k. record { line = k; reply = reply.Failed Enomem } ∷ []) (sym number), drops)
lacks_turn n (Makes key) may state step line who number asks drops = inr (asks, ap (λ k. record { line = k; reply = reply.Failed Enomem } ∷ []) (sym number), drops)
lacks_turn n (Opens version) may state step line who number asks drops = inr (asks, ap (λ k. record { line = k; reply = reply.Failed Enomem } ∷ []) (sym number), drops)
lacks_turn n (Creates key) may state step line who number asks drops = inr (asks, ap (λ k. record { line = k; reply = reply.Failed Enomem } ∷ []) (sym number), drops)
lacks_turn n (Lists entries) may state step line who number asks drops = inr (asks, ap (λ k. record { line = k; reply = reply.Failed Enomem } ∷ []) (sym number), drops)
lacks_turn n (Removes key) may state step line who number asks drops = absurd may
lacks_turn n (Replies told) may state step line who number asks drops = absurd may
lacks_turn n (Gives count) may state step line who number asks drops = absurd may
lacks_turn n (Writes count writer) may state step line who number asks drops = absurd may
lacks_turn n (EndsIt writer) may state step line who number asks drops = absurd may
lacks_turn n Waits may state step line who number asks drops = absurd may

-- and what is not done then
pub lacks_does : (next : Next) → MayLack next → (line : Line) (step : Step) (shared : Shared) → shared ≡ by_reply next line step shared (Some (reply.Failed Enomem))
lacks_does (said.Asks called) may line step shared = refl
lacks_does (Makes key) may line step shared = refl
lacks_does (Opens version) may line step shared = refl
lacks_does (Creates key) may line step shared = refl
lacks_does (Lists entries) may line step shared = refl
lacks_does (Removes key) may line step shared = absurd may
lacks_does (Replies told) may line step shared = absurd may
lacks_does (Gives count) may line step shared = absurd may
lacks_does (Writes count writer) may line step shared = absurd may
lacks_does (EndsIt writer) may line step shared = absurd may
lacks_does Waits may line step shared = absurd may

pub asks_lack : (next : Next) (called : Call) → next ≡ said.Asks called → MayLack next
asks_lack next called is = subst MayLack (sym is) tt

-- a reply that succeeds, by itself or with its effect
pub says_turn : (n : ℕ) (told : Reply) (step : Step) (line : Line) → line.number ≡ n → step.asks ≡ [] → step.drops ≡ [] → Says line.number told step (record { line = n; reply = told } ∷ [])
says_turn n told step line number asks drops = (asks, ap (λ k. record { line = k; reply = told } ∷ []) (sym number), drops)

-- what a line opens, makes and removes

pub may_open : (n : ℕ) (last : Option Told) (work : Work) (version : Version) → HasBegun n work.lines → next_behind n last work ≡ Opens version → MayOpen n work
may_open n last work version begun opens s stands =
    let same : Some begun.standing ≡ Some s = sym begun.stands ∙ stands in
    let is : begun.standing ≡ s = cc in
    let view = view_of (shared_in work) begun.standing.line in
    let next = next_seen n last work begun (Opens version) opens in
    let free = opens-free view begun.standing.line.request _ version next in
    subst (λ (t : Standing). HasPlace t.line work) is (record { name = free.name; names = free.names; free = free.free; place = opens_fits view begun.standing.line.request _ version next })

pub may_create : (n : ℕ) (last : Option Told) (work : Work) (key : List ℕ) → HasBegun n work.lines → next_behind n last work ≡ Creates key → MayOpen n work
may_create n last work key begun opens s stands =
    let same : Some begun.standing ≡ Some s = sym begun.stands ∙ stands in
    let is : begun.standing ≡ s = cc in
    let view = view_of (shared_in work) begun.standing.line in
    let next = next_seen n last work begun (Creates key) opens in
    let free = (creates-free view begun.standing.line.request _ key next).0 in
    subst (λ (t : Standing). HasPlace t.line work) is (record { name = free.name; names = free.names; free = free.free; place = creates_fits view begun.standing.line.request _ key next })

no-name : (names : LocalNames) (key : List ℕ) → IsNoName names key → is_name names key ≡ false
no-name names key none = rw (none.no_dir, none.no_file) refl

pub makes_new : (n : ℕ) (last : Option Told) (work : Work) (key : List ℕ) → HasBegun n work.lines → next_behind n last work ≡ Makes key → is_name work.names key ≡ false
makes_new n last work key begun makes = no-name work.names key (made (view_of (shared_in work) begun.standing.line) begun.standing.line.request _ key (next_seen n last work begun (Makes key) makes))

pub creates_new : (n : ℕ) (last : Option Told) (work : Work) (key : List ℕ) → HasBegun n work.lines → next_behind n last work ≡ Creates key → is_name work.names key ≡ false
creates_new n last work key begun makes = no-name work.names key (created (view_of (shared_in work) begun.standing.line) begun.standing.line.request _ key (next_seen n last work begun (Creates key) makes))

pub removes_dir : (n : ℕ) (last : Option Told) (work : Work) (key : List ℕ) → HasBegun n work.lines → next_behind n last work ≡ Removes key → RemovesDir n key work.lines
removes_dir n last work key begun removes = record {
  standing = begun.standing;
  stands = begun.stands;
  removes = removes_fits (view_of (shared_in work) begun.standing.line) begun.standing.line.request _ key (next_seen n last work begun (Removes key) removes);
}

-- the key of its path is that key
pub key_removed : (n : ℕ) (lines : List Standing) (s : Standing) (names : List (List ℕ)) (key : List ℕ) → Some s ≡ line_at n lines → s.line.request ≡ RemoveDir (Ok names) → RemovesDir n key lines → joined names ≡ key
key_removed n lines s names key stands asks dir =
    let found : Some dir.standing ≡ Some s = sym dir.stands ∙ sym stands in
    let standing : dir.standing ≡ s = cc in
    let removes = dir.removes in
    let request : RemoveDir (Ok removes.names) ≡ RemoveDir (Ok names) = sym removes.is ∙ (ap (λ (t : Standing). t.line.request) standing ∙ asks) in
    let same : removes.names ≡ names = cc in
    sym (removes.key_is ∙ ap joined same)

pub plain-gives : (bytes : List ℕ) (n : ℕ) (told : Reply) → IsPlain told → GivesOnly bytes (record { line = n; reply = told })
plain-gives bytes n (reply.Made etag) plain = tt
plain-gives bytes n reply.Success plain = tt
plain-gives bytes n reply.Directory plain = tt
plain-gives bytes n (reply.File size) plain = tt
plain-gives bytes n (reply.Writing size) plain = tt
plain-gives bytes n (reply.Listed entries) plain = tt
plain-gives bytes n (reply.Open size) plain = tt
plain-gives bytes n (reply.Data data_bytes) plain = absurd plain
plain-gives bytes n (reply.Wrote length) plain = tt
plain-gives bytes n reply.Gone plain = tt
plain-gives bytes n (reply.Failed errno) plain = tt

-- a reply that is said outright gives no data
pub reply_gives : (bytes : List ℕ) (n : ℕ) (last : Option Told) (work : Work) (told : Reply) → HasBegun n work.lines → next_behind n last work ≡ Replies told → GivesOnly bytes (record { line = n; reply = told })
reply_gives bytes n last work told begun says =
    plain-gives bytes n told (replies-plain (view_of (shared_in work) begun.standing.line) begun.standing.line.request _ told (next_seen n last work begun (Replies told) says))

-- one more reply is given, and the others that were due are due
pub more_replied : (replies due later now all : List Answered) (r : Answered) → replies ++ due ≡ all → due ≡ r ∷ later → now ≡ later → (replies ++ r ∷ []) ++ now ≡ all
more_replied replies due later now all r before first same = append_assoc replies (r ∷ []) now ∙ (ap (λ l. replies ++ r ∷ l) same ∙ (ap (λ l. replies ++ l) (sym first) ∙ before))

-- a line that has begun has begun still behind its last answer
pub begun_on : (n : ℕ) (last : Option Told) (old new : List Standing) → new ≡ change_line n (heard_last last) old → HasBegun n old → HasBegun n new
begun_on n last old new is begun =
    let gone = gone_on n last old begun in
    subst (HasBegun n) (sym is) (record { standing = record { line = begun.standing.line; phase = Begun (with_last last begun.heard) }; stands = gone.stands; heard = with_last last begun.heard; phase = refl })

pub replied_alike : (n : ℕ) (last : Option Told) (old new : List Standing) → new ≡ change_line n (heard_last last) old → change_line n (λ phase. Replied) new ≡ change_line n (λ phase. Replied) old
replied_alike n last old new is = ap (change_line n (λ phase. Replied)) is ∙ change_line-twice n (λ phase. Replied) (heard_last last) old

-- the name that an opening line gives is free
pub named_free : (line : Line) (name : ℕ) (work : Work) → HasPlace line work → name_in line.request ≡ Some name → table.get work.handles (line.actor, name) ≡ None
named_free line name work place names = sym (ap (λ o. handle_named line.actor o work.handles) names) ∙ place.free

-- a line that waits for a writer doesn't speak
wait-ends : (view : View) (asked : Request) (heard : Heard) (who : Waiter) (number name : ℕ) (w : Writer) → is_waiting who number name asked → view.handle ≡ Some (Writing w) → Speaks (next_of view asked heard) → ⊥
wait-ends view asked heard waiter.Nobody number name w is holds speaks = is
wait-ends view asked heard (waiter.Sync line) number name w is holds speaks =
    subst Speaks (ap (λ r. next_of view r heard) is.1 ∙ ap (sync_next view.line) holds) speaks
wait-ends view asked heard (waiter.Close line) number name w is holds speaks =
    subst Speaks (ap (λ r. next_of view r heard) is.1 ∙ ap (close_next view.line) holds) speaks

-- so it hasn't heard an answer
pub waits_unheard : (n : ℕ) (last : Option Told) (work : Work) (who : Waiter) (begun : HasBegun n work.lines) → IsWait who n begun.standing.line.request (handle_of begun.standing.line work.handles) → (last ≡ None) ⊎ Speaks (next_behind n last work) → last ≡ None
waits_unheard n last work who begun wait not_idle = elim not_idle [
  | inl none ↦ none
  | inr speaks ↦ absurd (wait-ends (view_of (shared_in work) begun.standing.line) begun.standing.line.request (with_last last begun.heard) who n wait.name wait.writer wait.is wait.holds (subst Speaks (next-seen n last work begun) speaks))
]

pub waits_idle : (n : ℕ) (last : Option Told) (work : Work) → next_behind n last work ≡ Waits → (last ≡ None) ⊎ Speaks (next_behind n last work) → last ≡ None
waits_idle n last work waits not_idle = elim not_idle [ inl none ↦ none | inr speaks ↦ absurd (subst Speaks waits speaks) ]
