-- Words, and the request that they spell.
use Rattle.std.proofs.Common.{◌≡◌, ℕ, ◌<◌, false, List, [], ◌∷◌, codes, Result, Ok, Err, refl, arith}
use Rattle.std.proofs.lemmas.Bool.{ne_eqb}
use Rattle.mp_script.specs.declared.cause.ScriptCause.{ScriptCause}
use Rattle.mp_script.specs.declared.cause.ScriptCause.TheVariants as cause
use Rattle.mp_types.specs.declared.path.PathFault.{PathFault}
use Rattle.mp_types.specs.Path.{path_of}
use Rattle.mount_model.specs.declared.request.Request.{Request}
use Rattle.mp_script.specs.ScriptText.{is_word, change_of, asked_by_process, await_of, actor_of, path_word, request_of, text_of, words_request, words_asked}
use Rattle.mp_script.specs.declared.fault.Fault.{Fault}
use Rattle.mp_script.specs.declared.fault.Fault.TheVariants as fault
use Rattle.mp_script.specs.Reads.{Fails, asked}
use Rattle.mp_script.specs.ScriptText.{words_of}
use Rattle.mp_script.proofs.Pieces.{has_first}

-- a path's fault is told by its reply alone
pub path_read : (word text : List ℕ) (asked : Result (List (List ℕ)) PathFault) → text_of word ≡ Ok text → path_of text ≡ asked → path_word word ≡ Ok asked
path_read word text asked e is = rw (e, is) refl

pub awaits_none : (text : List ℕ) → await_of (words_of text) ≡ Err cause.Words
awaits_none text = rw (has_first 32 text).is_parted refl

pub verb_reads : (actor : ℕ) (parts : List (List ℕ)) (verb : List ℕ) (words : List (List ℕ)) (read : Result Request ScriptCause) → parts ≡ verb ∷ words → request_of actor verb words ≡ read → words_request actor parts ≡ read
verb_reads actor parts verb words read e h = rw e h

pub actor_fails : (parts : List (List ℕ)) (first : List ℕ) (words : List (List ℕ)) (why : ScriptCause) → parts ≡ first ∷ words → Err why ≡ actor_of first → words_asked parts ≡ Err why
actor_fails parts first words why e h = rw (e, ← h) refl

pub no_verb : (parts : List (List ℕ)) (first : List ℕ) (actor : ℕ) → parts ≡ first ∷ [] → Ok actor ≡ actor_of first → words_asked parts ≡ Err cause.Words
no_verb parts first actor e h = rw (e, ← h) refl

pub request_fails : (f : Fault) (parts : List (List ℕ)) (first : List ℕ) (words : List (List ℕ)) (actor : ℕ) → parts ≡ first ∷ words → Ok actor ≡ actor_of first → Fails f (words_request actor words) → Fails f (words_asked parts)
request_fails fault.Memory parts first words actor e h fails = tt
request_fails (fault.Cause why) parts first words actor e h fails = rw (e, ← h, fails) refl

pub is_asked : (request : Request) (parts : List (List ℕ)) (first : List ℕ) (words : List (List ℕ)) (actor : ℕ) → parts ≡ first ∷ words → Ok actor ≡ actor_of first → words_request actor words ≡ Ok request → words_asked parts ≡ Ok (asked (actor, request))
is_asked request parts first words actor e h is = rw (e, ← h, is) refl

-- ---- the verbs of an actor

pub others_ask : (actor : ℕ) (word : List ℕ) (words : List (List ℕ)) → is_word word (codes "await") ≡ false → actor ≡ 0 → request_of actor word words ≡ change_of word words
others_ask actor word words other zero = rw (other, zero) refl

pub process_asks : (actor : ℕ) (word : List ℕ) (words : List (List ℕ)) → is_word word (codes "await") ≡ false → 0 < actor → request_of actor word words ≡ asked_by_process word words
process_asks actor word words other some = rw (other, ne_eqb actor 0 (λ zero. absurd (omega arith))) refl
