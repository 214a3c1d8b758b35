-- What is accounted for holds along each run.
use Rattle.std.proofs.Common.{◌≡◌, ℕ, List, [], ◌∷◌, ◌++◌, fold, Some, inl, refl, sym, ap, ◌∙◌, subst, append_assoc, append-nil}
use Rattle.std.proofs.lemmas.Grind.{fold-append}
use Rattle.std.specs.FinMap as table
use Rattle.mp_types.specs.HandleName.{HandleName}
use Rattle.mp_types.specs.declared.options.Opts.{Opts}
use Rattle.mp_types.specs.Options.{AreWithin}
use Rattle.bucket_model.specs.Along.{Along}
use Rattle.bucket_model.specs.declared.history.Logged.{Logged}
use Rattle.bucket_model.specs.History.{IsLegalHistory}
use Rattle.mount_model.specs.declared.handle.Handle.TheVariants.{Writing}
use Rattle.mount_model.specs.declared.request.Line.{Line}
use Rattle.mount_model.specs.Step.{Step}
use Rattle.mount_model.specs.Handles.{Writer}
use Rattle.mount_model.specs.State.{ClientState, opening, after, state_after}
use Rattle.mount_model.specs.Run.{AreRising, IsLegalStep}
use Rattle.mount_model.specs.Tied.{TiesEvent}
use Rattle.mount_model.specs.Written.{HasStood}
use Rattle.run_laws.specs.Alive.{IsAlive}
use Rattle.run_laws.proofs.Handles.{handle-at}
use Rattle.run_laws.proofs.Conversation.{opens-name}
use Rattle.run_laws.proofs.Alive.{alive-step, opening-alive, no-handle}
use Rattle.write_laws.specs.Accounted.{Place, with_place, IsAccounted, taken_in}
use Rattle.write_laws.proofs.Filled.{Grows}
use Rattle.write_laws.proofs.Accepted.{accepted-push}
use Rattle.write_laws.proofs.Turns.{IsBefore, event-grows}
use Rattle.write_laws.proofs.Stepped.{step-accounted}

-- runs in two parts
pub along-split : {S E : Type 0} (Fine : S → E → Type 0) (next : S → E → S) (state : S) (xs ys : List E) → Along Fine next state (xs ++ ys) → Along Fine next state xs × Along Fine next (fold next state xs) ys
along-split Fine next state [] ys run = (tt, run)
along-split Fine next state (x ∷ xs) ys run = let more = along-split Fine next (next state x) xs ys run.1 in ((run.0, more.0), more.1)

-- the answers of a run are tied to the history
abbrev pub Ties : ℕ → List Logged → ClientState → Step → Type 0
Ties start log state step = TiesEvent start log state step.event

-- the places of the answers in these steps, behind those before
abbrev pub places_behind : List Place → List Step → List Place
places_behind places steps = fold (λ (all : List Place) (step : Step). with_place all step.event) places steps

pub places-grow : (places : List Place) (steps : List Step) → Grows places (places_behind places steps)
places-grow places [] number position place = place
places-grow places (step ∷ steps) number position place = places-grow (with_place places step.event) steps number position (event-grows places step.event number position place)

-- writers that stood before this step

pub stood-more : (options : Opts) (script : List Line) (steps more : List Step) (line : ℕ) (key : List ℕ) → HasStood options script steps line key → HasStood options script (steps ++ more) line key
stood-more options script steps more line key has = record {
  before = has.before;
  later = has.later ++ more;
  are = ap (λ (t : List Step). t ++ more) has.are ∙ append_assoc has.before has.later more;
  line = has.line;
  writer = has.writer;
  holds = has.holds;
  of_key = has.of_key;
  of_line = has.of_line;
}

pub stood-now : (options : Opts) (script : List Line) (steps more : List Step) (name : HandleName) (w : Writer) → IsAlive (state_after options script steps) → table.get (state_after options script steps).shared.handles name ≡ Some (Writing w) → HasStood options script (steps ++ more) w.line w.key
stood-now options script steps more name w alive stands =
    let is = alive.writers.each name w stands in
    let opener_name = opens-name is.opener.request is.opens in
    record {
      before = steps;
      later = more;
      are = refl;
      line = is.opener;
      writer = w;
      holds = handle-at is.opener opener_name.0 (state_after options script steps).shared.handles opener_name.1 ∙ ap (table.get (state_after options script steps).shared.handles) is.named ∙ stands;
      of_key = refl;
      of_line = refl;
    }

-- before the first step

pub opening-accounted : (log : List Logged) (start : ℕ) (options : Opts) (script : List Line) → IsAccounted log start (HasStood options script []) (taken_in options script []) [] (opening options script)
opening-accounted log start options script = record {
  jobs = record {
    answered = λ number position place. absurd place;
    one_place = λ number position other place same. absurd place;
    one_job = λ number other position place same. absurd place;
    out = λ number job from found is. absurd (cc);
    uploads = λ number job named found names. absurd (cc);
    whole = λ number job named count found calls. absurd (cc);
    aborts = λ number job at other opened named upload count found owned calls there theirs completes. absurd (cc);
  };
  placed = λ position is. absurd (cc);
  seen = λ number position place. absurd place;
  fresh = λ n. inl refl;
  writers = λ name w stands. absurd (let none = no-handle name in cc);
}

-- one step on

after-push : (options : Opts) (script : List Line) (steps : List Step) (step : Step) → state_after options script (steps ++ step ∷ []) ≡ after (state_after options script steps) step
after-push options script steps step = fold-append after (opening options script) steps (step ∷ [])

pub before-step : (log : List Logged) (start : ℕ) (options : Opts) (script : List Line) (steps : List Step) (step : Step) (places : List Place) → IsLegalHistory log → IsAlive (state_after options script steps) → IsLegalStep (state_after options script steps) step → TiesEvent start log (state_after options script steps) step.event → IsAccounted log start (HasStood options script steps) (taken_in options script steps) places (state_after options script steps) → IsBefore log start (HasStood options script steps) (HasStood options script (steps ++ step ∷ [])) (taken_in options script steps) (taken_in options script (steps ++ step ∷ [])) places (state_after options script steps) step
before-step log start options script steps step places legal_log alive legal ties accounted = record {
  legal_log = legal_log;
  alive = alive;
  legal = legal;
  ties = ties;
  accounted = accounted;
  more = λ line key. stood-more options script steps (step ∷ []) line key;
  stands = λ name w stands. stood-now options script steps (step ∷ []) name w alive stands;
  bytes = λ line. accepted-push line (opening options script) steps step;
}

-- What holds behind some steps, and that the mount is as it should be.
pub record IsSound (log : List Logged) (start : ℕ) (options : Opts) (script : List Line) (places : List Place) (steps : List Step) : Type 0 where
  pub alive : IsAlive (state_after options script steps)
  pub accounted : IsAccounted log start (HasStood options script steps) (taken_in options script steps) places (state_after options script steps)

sound-step : (log : List Logged) (start : ℕ) (options : Opts) (script : List Line) (steps : List Step) (step : Step) (places : List Place) → IsLegalHistory log → IsSound log start options script places steps → IsLegalStep (state_after options script steps) step → TiesEvent start log (state_after options script steps) step.event → IsSound log start options script (with_place places step.event) (steps ++ step ∷ [])
sound-step log start options script steps step places legal_log sound legal ties =
    let b = before-step log start options script steps step places legal_log sound.alive legal ties sound.accounted in
    let same = after-push options script steps step in
    record {
      alive = subst IsAlive (sym same) (alive-step (state_after options script steps) step sound.alive legal);
      accounted = subst (IsAccounted log start (HasStood options script (steps ++ step ∷ [])) (taken_in options script (steps ++ step ∷ [])) (with_place places step.event)) (sym same)
          (step-accounted log start (HasStood options script steps) (HasStood options script (steps ++ step ∷ [])) (taken_in options script steps) (taken_in options script (steps ++ step ∷ [])) places (state_after options script steps) step b);
    }

-- and so behind more steps
pub sound-along : (log : List Logged) (start : ℕ) (options : Opts) (script : List Line) (steps more : List Step) (places : List Place) → IsLegalHistory log → IsSound log start options script places steps → Along IsLegalStep after (state_after options script steps) more → Along (Ties start log) after (state_after options script steps) more → IsSound log start options script (places_behind places more) (steps ++ more)
sound-along log start options script steps [] places legal_log sound run ties = rw append-nil sound
sound-along log start options script steps (step ∷ more) places legal_log sound run ties =
    let same = after-push options script steps step in
    subst (IsSound log start options script (places_behind places (step ∷ more))) (append_assoc steps (step ∷ []) more)
    (sound-along log start options script (steps ++ step ∷ []) more (with_place places step.event) legal_log (sound-step log start options script steps step places legal_log sound run.0 ties.0)
    (subst (λ (s : ClientState). Along IsLegalStep after s more) (sym same) run.1)
    (subst (λ (s : ClientState). Along (Ties start log) after s more) (sym same) ties.1))

pub opening-sound : (log : List Logged) (start : ℕ) (options : Opts) (script : List Line) → AreWithin options → AreRising 0 script → IsSound log start options script [] []
opening-sound log start options script within rising = record { alive = opening-alive options script within rising; accounted = opening-accounted log start options script }

pub run-sound : (log : List Logged) (start : ℕ) (options : Opts) (script : List Line) (steps : List Step) → AreWithin options → AreRising 0 script → IsLegalHistory log → Along IsLegalStep after (opening options script) steps → Along (Ties start log) after (opening options script) steps → IsSound log start options script (places_behind [] steps) steps
run-sound log start options script steps within rising legal_log run ties = sound-along log start options script [] steps [] legal_log (opening-sound log start options script within rising) run ties
