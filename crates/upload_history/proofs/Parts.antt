-- The upload at each position behind its creation: its parts are those of its list whose entries stand there.
use Rattle.std.proofs.Common.{◌≡◌, ◌≢◌, ℕ, zero, suc, ◌+◌, ◌-◌, ◌<◌, ◌≤◌, List, length, take, get_or, Bool, true, false, Option, Some, None, ◌⊎◌, inl, inr, slice_get, refl, sym, ap, ◌∙◌, subst, arith}
use Rattle.std.proofs.lemmas.Bool.{cases_eq}
use Rattle.std.proofs.lemmas.Option.{slice_get-get_or, get_or_from_slice_get}
use Rattle.std.proofs.lemmas.List.{get_or-take, length-take-le}
use Rattle.std.specs.List.{Contains}
use Rattle.std.specs.Ordering.{nat_cmp}
use Rattle.std.specs.FinMap as map
use Rattle.bucket_model.specs.declared.call.Call.{Call}
use Rattle.bucket_model.specs.declared.call.Call.TheVariants.{Part}
use Rattle.bucket_model.specs.declared.answer.Brief.{Brief}
use Rattle.bucket_model.specs.declared.answer.Brief.TheVariants as answer
use Rattle.bucket_model.specs.declared.history.Name.{Name}
use Rattle.bucket_model.specs.declared.history.Name.TheVariants as name
use Rattle.bucket_model.specs.declared.history.Logged.{Logged}
use Rattle.bucket_model.specs.Bucket.{BucketState, Staged, after, upload_at}
use Rattle.bucket_model.specs.History.{IsLegalEntry, IsLegalHistory, MakesName, replay}
use Rattle.upload_history.specs.Entries.{HasParts, IsCreatedAt, IsNumbered, IsStored}
use Rattle.upload_history.proofs.Numbered.{get-same, get-other}
use Rattle.upload_history.proofs.Along.{legal_at, replay-next}
use Rattle.upload_history.proofs.Steps.{IsElsewhere, Stored, IsThere, IsLost, Touches, Stores, Completes, GivesUp, Leaves, creates, leaves, stores, touches}

-- before this position the upload has parts of the list alone, and each that was stored by then
pub record IsAt (log : List Logged) (from upload position : ℕ) (key : List ℕ) (parts : List (List ℕ)) (now : Option Staged) : Type 0 where
  pub staged : Staged
  pub there : now ≡ Some staged
  pub key_is : staged.key ≡ key
  pub only : (number : ℕ) (bytes : List ℕ) → map.get staged.parts number ≡ Some bytes → IsNumbered parts number bytes
  pub each : (number : ℕ) (bytes : List ℕ) → IsStored log upload from position number bytes → map.get staged.parts number ≡ Some bytes

-- an entry that made an upload took effect
took-made : (state : BucketState) (called : Call) (took : Bool) (answer : Brief) (made : Option Name) (upload : ℕ) → MakesName state called took answer made → made ≡ Some (name.Upload upload) → took ≡ true
took-made state called true answer made upload makes is = refl
took-made state called false answer made upload makes is = absurd (let none : made ≡ None = makes in cc)

-- one number has one part
numbered-same : (parts : List (List ℕ)) (number : ℕ) (bytes other : List ℕ) → IsNumbered parts number bytes → IsNumbered parts number other → bytes ≡ other
numbered-same parts number bytes other one two =
    let index : two.index ≡ one.index = omega (arith, one.number_is, two.number_is) in
    let listed : slice_get parts one.index ≡ Some other = subst (λ (i : ℕ). slice_get parts i ≡ Some other) index two.listed in
    let both : Some bytes ≡ Some other = sym one.listed ∙ listed in
    cc

-- no later entry makes the upload again
made-once : (log : List Logged) (from upload position : ℕ) (key : List ℕ) (logged : Logged) → IsCreatedAt log from upload key → from < position → position < length log → IsLegalEntry (take position log) logged → logged.made ≢ Some (name.Upload upload)
made-once log from upload position key logged created behind within legal again = legal.new_upload upload again created.logged contains created.makes
  where
    contains : Contains (take position log) created.logged
    contains = (from, (let size = length-take-le position log (omega arith) in omega arith), get_or-take position log from created.logged behind ∙ get_or_from_slice_get log from created.logged created.logged created.stands)

begins : (log : List Logged) (from upload : ℕ) (key : List ℕ) (parts : List (List ℕ)) → IsLegalHistory log → IsCreatedAt log from upload key → IsAt log from upload (suc from) key parts (upload_at (replay (take (suc from) log)) upload)
begins log from upload key parts legal created =
    let entry : IsLegalEntry (take from log) created.logged = legal_at log from created.logged legal created.stands in
    let took : created.logged.entry.took ≡ true = took-made (replay (take from log)) created.logged.entry.call created.logged.entry.took created.logged.entry.answer created.logged.made upload entry.made created.makes in
    record {
      staged = record { key = key; parts = map.empty };
      there = ap (λ (s : BucketState). upload_at s upload) (replay-next log from created.logged created.stands) ∙ creates upload (replay (take from log)) key created.logged created.calls took created.makes;
      key_is = refl;
      only = λ number bytes is. absurd (let none : map.get (map.empty {X = List ℕ}) number ≡ None = map.get-empty nat_cmp number in cc);
      each = λ number bytes stored. absurd (omega (arith, stored.behind, stored.before));
    }

-- what was stored before the next position was stored before this one, or here
earlier-or_here : (log : List Logged) (from upload position number : ℕ) (bytes : List ℕ) (logged : Logged) → slice_get log position ≡ Some logged → IsStored log upload from (suc position) number bytes → IsStored log upload from position number bytes ⊎ ((logged.entry.call ≡ Part upload number bytes) × (logged.entry.answer ≡ answer.Stored))
earlier-or_here log from upload position number bytes logged stands stored = elim (cases_eq stored.position position) [
  | inl same ↦ inr (
      let both : Some stored.logged ≡ Some logged = sym stored.stands ∙ (ap (slice_get log) same ∙ stands) in
      let one : stored.logged ≡ logged = cc in
      (ap (λ (l : Logged). l.entry.call) (sym one) ∙ stored.calls, ap (λ (l : Logged). l.entry.answer) (sym one) ∙ stored.answered))
  | inr apart ↦ inl (record {
    position = stored.position;
    behind = stored.behind;
    before = omega (arith, stored.before);
    logged = stored.logged;
    stands = stored.stands;
    calls = stored.calls;
    answered = stored.answered;
  })
]

module _ (log : List Logged) (from upload position : ℕ) (key : List ℕ) (parts : List (List ℕ)) (logged : Logged) (stands : slice_get log position ≡ Some logged) where
  -- the entry leaves the upload alone
  left : (now behind : Option Staged) → IsAt log from upload position key parts now → IsElsewhere upload logged.entry.call → behind ≡ now → IsAt log from upload (suc position) key parts behind
  left now behind at elsewhere same = record {
    staged = at.staged;
    there = same ∙ at.there;
    key_is = at.key_is;
    only = at.only;
    each = λ number bytes stored. elim (earlier-or_here log from upload position number bytes logged stands stored) [
      | inl earlier ↦ at.each number bytes earlier
      | inr here ↦ absurd ((subst (IsElsewhere upload) here.0 elsewhere) refl)
    ];
  }

  -- the entry sends a part
  sent : (number : ℕ) (bytes : List ℕ) (now behind : Option Staged) (at : IsAt log from upload position key parts now) → logged.entry.call ≡ Part upload number bytes → IsNumbered parts number bytes → (logged.entry.answer ≡ answer.Stored → logged.entry.took ≡ true) → Stored at.staged number bytes logged.entry.took behind → IsAt log from upload (suc position) key parts behind
  sent number bytes now behind at calls listed took (IsThere is there) = record {
    staged = record { key = at.staged.key; parts = map.insert at.staged.parts number bytes };
    there = there;
    key_is = at.key_is;
    only = λ other content found. elim (cases_eq other number) [
      | inl same ↦ (
          let both : Some bytes ≡ Some content = sym (get-same at.staged.parts number bytes) ∙ (ap (map.get (map.insert at.staged.parts number bytes)) (sym same) ∙ found) in
          let one : bytes ≡ content = cc in
          subst (λ (n : ℕ). IsNumbered parts n content) (sym same) (subst (IsNumbered parts number) one listed))
      | inr apart ↦ at.only other content (sym (get-other at.staged.parts number bytes other apart) ∙ found)
    ];
    each = λ other content stored. elim (earlier-or_here log from upload position other content logged stands stored) [
      | inl earlier ↦ kept other content (at.each other content earlier)
      | inr here ↦ (
          let both : Part upload other content ≡ Part upload number bytes = sym here.0 ∙ calls in
          let number_is : number ≡ other = cc in
          let bytes_are : bytes ≡ content = cc in
          subst (λ (n : ℕ). map.get (map.insert at.staged.parts number bytes) n ≡ Some content) number_is (get-same at.staged.parts number bytes ∙ ap Some bytes_are))
    ];
  }
    where
      kept : (other : ℕ) (content : List ℕ) → map.get at.staged.parts other ≡ Some content → map.get (map.insert at.staged.parts number bytes) other ≡ Some content
      kept other content found = elim (cases_eq other number) [
        | inl same ↦ (
            let one : bytes ≡ content = numbered-same parts number bytes content listed (subst (λ (n : ℕ). IsNumbered parts n content) same (at.only other content found)) in
            subst (λ (n : ℕ). map.get (map.insert at.staged.parts number bytes) n ≡ Some content) (sym same) (get-same at.staged.parts number bytes ∙ ap Some one))
        | inr apart ↦ get-other at.staged.parts number bytes other apart ∙ found
      ]
  sent number bytes now behind at calls listed took (IsLost is there) = record {
    staged = at.staged;
    there = there;
    key_is = at.key_is;
    only = at.only;
    each = λ other content stored. elim (earlier-or_here log from upload position other content logged stands stored) [
      | inl earlier ↦ at.each other content earlier
      | inr here ↦ absurd (let there_too : logged.entry.took ≡ true = took here.1 in cc)
    ];
  }

module _ (log : List Logged) (from upload to : ℕ) (key : List ℕ) (parts : List (List ℕ)) (legal : IsLegalHistory log) (created : IsCreatedAt log from upload key) (has : HasParts log upload from to parts) (ends : to ≤ length log) where
  goes-on : (position : ℕ) → from < position → position < to → IsAt log from upload position key parts (upload_at (replay (take position log)) upload) → IsAt log from upload (suc position) key parts (upload_at (replay (take (suc position) log)) upload)
  goes-on position behind before at =
      subst (λ (s : BucketState). IsAt log from upload (suc position) key parts (upload_at s upload)) (sym (replay-next log position logged stands)) (by_touch (touches upload logged.entry.call))
    where
      logged : Logged
      logged = get_or log position created.logged

      stands : slice_get log position ≡ Some logged
      stands = slice_get-get_or log position created.logged (omega arith)

      entry : IsLegalEntry (take position log) logged
      entry = legal_at log position logged legal stands

      state : BucketState
      state = replay (take position log)

      took : logged.entry.answer ≡ answer.Stored → logged.entry.took ≡ true
      took is = entry.took (λ fault. absurd (let both : answer.Stored ≡ answer.Fault = sym is ∙ fault in cc))

      by_touch : Touches upload logged.entry.call → IsAt log from upload (suc position) key parts (upload_at (after state logged) upload)
      by_touch (Stores number bytes calls) =
          sent log from upload position key parts logged stands number bytes (upload_at state upload) (upload_at (after state logged) upload) at calls
          (has.only position number bytes behind before (record { logged = logged; stands = stands; calls = calls })) took (stores upload state number bytes logged at.staged calls at.there)
      by_touch (Completes count calls) = absurd (has.no_complete position count behind before (record { logged = logged; stands = stands; calls = calls }))
      by_touch (GivesUp calls) = absurd (has.no_abort position behind before (record { logged = logged; stands = stands; calls = calls }))
      by_touch (Leaves elsewhere) =
          left log from upload position key parts logged stands (upload_at state upload) (upload_at (after state logged) upload) at elsewhere
          (leaves upload state logged elsewhere (made-once log from upload position key logged created behind (omega arith) entry))

  along : (more position : ℕ) → position ≡ suc from + more → position ≤ to → IsAt log from upload position key parts (upload_at (replay (take position log)) upload)
  along zero position is before = subst (λ (p : ℕ). IsAt log from upload p key parts (upload_at (replay (take p log)) upload)) (let same : suc from ≡ position = omega arith in same) (begins log from upload key parts legal created)
  along (suc more) position is before =
      subst (λ (p : ℕ). IsAt log from upload p key parts (upload_at (replay (take p log)) upload)) (let same : suc (suc from + more) ≡ position = omega arith in same)
      (goes-on (suc from + more) (omega arith) (omega arith) (along more (suc from + more) refl (omega arith)))

  pub parts_at : from < to → IsAt log from upload to key parts (upload_at (replay (take to log)) upload)
  parts_at behind = along (to - suc from) to (omega arith) (omega arith)
