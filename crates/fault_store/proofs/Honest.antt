-- A log that mirrors an honest store's history goes on to do so.
use Rattle.std.proofs.Common.{◌≡◌, ◌≢◌, ℕ, Bool, true, false, List, [], ◌∷◌, ◌++◌, Option, Some, None, refl, sym, ap, ◌∙◌, subst, inl, inr, append-nil, append_assoc}
use Rattle.std.specs.Option.{IfSome, OnSome, option_to_list}
use Rattle.std.proofs.lemmas.List.Elements.{Contains-append_left, Contains-push, Contains-push_cases}
use Rattle.mp_types.specs.Count.{risen}
use Rattle.bucket_model.specs.declared.call.Call.{Call}
use Rattle.bucket_model.specs.declared.call.Call.TheVariants as call
use Rattle.bucket_model.specs.declared.call.Call.TheVariants.{Head, Probe, Get, Delete, Put, Create, Part, Complete, Abort}
use Rattle.bucket_model.specs.declared.answer.Answer.{Answer}
use Rattle.bucket_model.specs.declared.answer.Brief.{Brief}
use Rattle.bucket_model.specs.declared.answer.Brief.TheVariants as brief
use Rattle.bucket_model.specs.declared.answer.Brief.TheVariants.{Made, Upload, NoUpload, Fault, NoMemory}
use Rattle.bucket_model.specs.declared.page.Page.{Page}
use Rattle.bucket_model.specs.declared.history.Name.{Name}
use Rattle.bucket_model.specs.declared.history.Name.TheVariants as name
use Rattle.bucket_model.specs.declared.history.Logged.{Logged}
use Rattle.bucket_model.specs.Along.{Along}
use Rattle.bucket_model.specs.Answers.{MayBeMade, brief_of, entry_after, fits, is_answer_of, is_counted, made_by}
use Rattle.bucket_model.specs.Bucket.{BucketState, IsComplete, ObjectVersion, Whole, after, upload_at, version_completed, version_made, whole_of}
use Rattle.bucket_model.specs.History.{History, IsLegalEntry, IsLegalHistory, IsNewUpload, IsOneContent, Makes, MakesWhole, MayAnswer, replay, versions_of}
use Rattle.mem_store.proofs.Replay.{replay_push, versions_push, legal_push}
use Rattle.store_trait.specs.Told.{AddsEntry, AddsFor, Tells}
use Rattle.fault_store.specs.declared.faulty.Faulty.{Faulty}
use Rattle.fault_store.specs.declared.faulty.When.{When}
use Rattle.fault_store.specs.declared.faulty.When.TheVariants.{Before, After}
use Rattle.fault_store.specs.Called.{IsCalled}
use Rattle.fault_store.specs.Entries.{entries_of, entry_before, shown}
use Rattle.fault_store.specs.Faulty.{Conveys, IsHonest, IsServed, LosesPage, Mirrors, Reaches, Serves, when_at}

-- the last entry of a legal history is legal behind those before it
last_from : (past log : List Logged) (logged : Logged) → Along IsLegalEntry (λ before entry. before ++ entry ∷ []) past (log ++ logged ∷ []) → IsLegalEntry (past ++ log) logged
last_from past [] logged legal = rw append-nil legal.0
last_from past (first ∷ log) logged legal =
    let P : List Logged → Type 0 = λ before. IsLegalEntry before logged in
    subst P (append_assoc past (first ∷ []) log) (last_from (past ++ first ∷ []) log logged legal.1)

legal_last : (log : List Logged) (logged : Logged) → IsLegalHistory (log ++ logged ∷ []) → IsLegalEntry log logged
legal_last log logged legal = last_from [] log logged legal

abbrev logged_as : Call → Brief → Bool → Option Name → Logged
logged_as asked answer took made = record { entry = record { call = asked; answer = answer; took = took }; made = made }

-- what an entry makes and leaves goes by its call, its effect and the name that it made, whatever was answered
same_version : (state : BucketState) (asked : Call) (answer answer' : Brief) (took : Bool) (made : Option Name) → version_made state (logged_as asked answer took made) ≡ version_made state (logged_as asked answer' took made)
same_version state (Put key bytes) answer answer' took made = refl
same_version state (Complete upload parts) answer answer' took made = refl
same_version state asked answer answer' took made = refl

same_after : (state : BucketState) (asked : Call) (answer answer' : Brief) (took : Bool) (made : Option Name) → after state (logged_as asked answer took made) ≡ after state (logged_as asked answer' took made)
same_after state asked answer answer' false made = refl
same_after state (Delete key) answer answer' true made = refl
same_after state (Put key bytes) answer answer' true made = refl
same_after state (Create key) answer answer' true made = refl
same_after state (Part upload number bytes) answer answer' true made = refl
same_after state (Complete upload parts) answer answer' true made = refl
same_after state (Abort upload) answer answer' true made = refl
same_after state asked answer answer' true made = refl

-- without a name no version is made
none_completed : (whole : Option Whole) → version_completed None whole ≡ None
none_completed None = refl
none_completed (Some whole) = refl

none_before : (state : BucketState) (asked : Call) → version_made state (entry_before asked) ≡ None
none_before state (Put key bytes) = refl
none_before state (Complete upload parts) = none_completed (whole_of parts (upload_at state upload))
none_before state asked = refl

-- where no answer of the call's kind tells a name
makes_none : (asked : Call) → ((etag : List ℕ) → is_answer_of asked (Made etag) ≡ false) → ((upload : ℕ) → is_answer_of asked (Upload upload) ≡ false) → (answer : Brief) → fits asked answer ≡ true → made_by answer ≡ None
makes_none asked versions uploads (Made etag) fit = let never = versions etag in absurd (cc)
makes_none asked versions uploads (Upload upload) fit = let never = uploads upload in absurd (cc)
makes_none asked versions uploads answer fit = refl

put_makes : (state : BucketState) (key bytes : List ℕ) (answer : Brief) (made : Option Name) → fits (Put key bytes) answer ≡ true → answer ≢ Fault → Makes state (Put key bytes) answer made → made ≡ made_by answer
put_makes state key bytes (Made etag) made fit sound makes = makes
put_makes state key bytes Fault made fit sound makes = absurd (sound refl)
put_makes state key bytes NoMemory made fit sound makes = makes
put_makes state key bytes answer made fit sound makes = absurd (cc)

create_makes : (state : BucketState) (key : List ℕ) (answer : Brief) (made : Option Name) → fits (Create key) answer ≡ true → answer ≢ Fault → Makes state (Create key) answer made → made ≡ made_by answer
create_makes state key (Upload upload) made fit sound makes = makes
create_makes state key Fault made fit sound makes = absurd (sound refl)
create_makes state key NoMemory made fit sound makes = makes
create_makes state key answer made fit sound makes = absurd (cc)

-- a complete tells a name where its upload makes an object
whole_makes : (whole : Option Whole) (etag : List ℕ) (made : Option Name) → IsComplete whole (Made etag) → MakesWhole whole (Made etag) made → made ≡ Some (name.Version etag)
whole_makes None etag made answered makes = absurd (cc)
whole_makes (Some whole) etag made answered makes = makes

no_upload_makes : (whole : Option Whole) (made : Option Name) → MakesWhole whole NoUpload made → made ≡ None
no_upload_makes None made makes = makes
no_upload_makes (Some whole) made makes = makes

complete_makes : (state : BucketState) (upload parts : ℕ) (answer : Brief) (made : Option Name) → fits (Complete upload parts) answer ≡ true → answer ≢ Fault → MayAnswer state (Complete upload parts) answer
    → Makes state (Complete upload parts) answer made → made ≡ made_by answer
complete_makes state upload parts (Made etag) made fit sound answered makes = whole_makes (whole_of parts (upload_at state upload)) etag made answered makes
complete_makes state upload parts NoUpload made fit sound answered makes = no_upload_makes (whole_of parts (upload_at state upload)) made makes
complete_makes state upload parts Fault made fit sound answered makes = absurd (sound refl)
complete_makes state upload parts NoMemory made fit sound answered makes = absurd answered
complete_makes state upload parts answer made fit sound answered makes = absurd (cc)

-- the name in the entry of an answer that is no fault
name_is : (state : BucketState) (asked : Call) (answer : Brief) (made : Option Name) → fits asked answer ≡ true → answer ≢ Fault → MayAnswer state asked answer → Makes state asked answer made → made ≡ made_by answer
name_is state (Put key bytes) answer made fit sound answered makes = put_makes state key bytes answer made fit sound makes
name_is state (Create key) answer made fit sound answered makes = create_makes state key answer made fit sound makes
name_is state (Complete upload parts) answer made fit sound answered makes = complete_makes state upload parts answer made fit sound answered makes
name_is state (Head key) answer made fit sound answered makes = makes ∙ sym (makes_none (Head key) (λ _. refl) (λ _. refl) answer fit)
name_is state (Probe key) answer made fit sound answered makes = makes ∙ sym (makes_none (Probe key) (λ _. refl) (λ _. refl) answer fit)
name_is state (call.List prefix after max) answer made fit sound answered makes = makes ∙ sym (makes_none (call.List prefix after max) (λ _. refl) (λ _. refl) answer fit)
name_is state (Get key etag from to) answer made fit sound answered makes = makes ∙ sym (makes_none (Get key etag from to) (λ _. refl) (λ _. refl) answer fit)
name_is state (Delete key) answer made fit sound answered makes = makes ∙ sym (makes_none (Delete key) (λ _. refl) (λ _. refl) answer fit)
name_is state (Part upload number bytes) answer made fit sound answered makes = makes ∙ sym (makes_none (Part upload number bytes) (λ _. refl) (λ _. refl) answer fit)
name_is state (Abort upload) answer made fit sound answered makes = makes ∙ sym (makes_none (Abort upload) (λ _. refl) (λ _. refl) answer fit)

-- a fault hides the name that was made, or that none was
put_hides : (state : BucketState) (key bytes : List ℕ) (answer : Brief) → fits (Put key bytes) answer ≡ true → answer ≢ Fault → MayAnswer state (Put key bytes) answer → Makes state (Put key bytes) Fault (made_by answer)
put_hides state key bytes (Made etag) fit sound answered = (etag, refl)
put_hides state key bytes Fault fit sound answered = absurd (sound refl)
put_hides state key bytes NoMemory fit sound answered = absurd answered
put_hides state key bytes answer fit sound answered = absurd (cc)

create_hides : (state : BucketState) (key : List ℕ) (answer : Brief) → fits (Create key) answer ≡ true → answer ≢ Fault → MayAnswer state (Create key) answer → Makes state (Create key) Fault (made_by answer)
create_hides state key (Upload upload) fit sound answered = (upload, refl)
create_hides state key Fault fit sound answered = absurd (sound refl)
create_hides state key NoMemory fit sound answered = absurd answered
create_hides state key answer fit sound answered = absurd (cc)

whole_hides : (whole : Option Whole) (etag : List ℕ) → IsComplete whole (Made etag) → MakesWhole whole Fault (Some (name.Version etag))
whole_hides None etag answered = absurd (cc)
whole_hides (Some whole) etag answered = (etag, refl)

no_upload_hides : (whole : Option Whole) → IsComplete whole NoUpload → MakesWhole whole Fault None
no_upload_hides None answered = refl
no_upload_hides (Some whole) answered = absurd answered

complete_hides : (state : BucketState) (upload parts : ℕ) (answer : Brief) → fits (Complete upload parts) answer ≡ true → answer ≢ Fault → MayAnswer state (Complete upload parts) answer → Makes state (Complete upload parts) Fault (made_by answer)
complete_hides state upload parts (Made etag) fit sound answered = whole_hides (whole_of parts (upload_at state upload)) etag answered
complete_hides state upload parts NoUpload fit sound answered = no_upload_hides (whole_of parts (upload_at state upload)) answered
complete_hides state upload parts Fault fit sound answered = absurd (sound refl)
complete_hides state upload parts NoMemory fit sound answered = absurd answered
complete_hides state upload parts answer fit sound answered = absurd (cc)

name_hidden : (state : BucketState) (asked : Call) (answer : Brief) → fits asked answer ≡ true → answer ≢ Fault → MayAnswer state asked answer → Makes state asked answer (made_by answer) → Makes state asked Fault (made_by answer)
name_hidden state (Put key bytes) answer fit sound answered makes = put_hides state key bytes answer fit sound answered
name_hidden state (Create key) answer fit sound answered makes = create_hides state key answer fit sound answered
name_hidden state (Complete upload parts) answer fit sound answered makes = complete_hides state upload parts answer fit sound answered
name_hidden state asked answer fit sound answered makes = makes

-- an id is new behind one more entry where it is new before and the entry didn't make it
new_push : (log : List Logged) (own : Logged) (upload : ℕ) → IsNewUpload log upload → own.made ≢ Some (name.Upload upload) → IsNewUpload (log ++ own ∷ []) upload
new_push log own upload new other = λ logged among.
    elim (Contains-push_cases log own logged among) [
      | inl earlier ↦ new logged earlier
      | inr last ↦ subst (λ (entry : Logged). entry.made ≢ Some (name.Upload upload)) last other
    ]

new_front : (log : List Logged) (own : Logged) (upload : ℕ) → IsNewUpload (log ++ own ∷ []) upload → IsNewUpload log upload
new_front log own upload new = λ logged among. new logged (Contains-append_left log (own ∷ []) logged among)

new_last : (log : List Logged) (own : Logged) (upload : ℕ) → IsNewUpload (log ++ own ∷ []) upload → own.made ≢ Some (name.Upload upload)
new_last log own upload new = new own (Contains-push log own)

-- an entry of the same call, effect and name, behind what is mirrored
mirrors_push : (asked : Call) (answer answer' : Brief) (took : Bool) (made : Option Name) (log : List Logged) (told : History) → Mirrors log told → IsLegalEntry log (logged_as asked answer took made)
    → Mirrors (log ++ logged_as asked answer took made ∷ []) (record { log = told.log ++ logged_as asked answer' took made ∷ []; versions = told.versions })
mirrors_push asked answer answer' took made log told mirrors fine =
    let own = logged_as asked answer took made in
    let inner = logged_as asked answer' took made in
    record {
      legal = legal_push log own mirrors.legal fine;
      state = replay_push log own ∙ ap (λ state. after state own) mirrors.state ∙ same_after (replay told.log) asked answer answer' took made ∙ sym (replay_push told.log inner);
      versions = versions_push log own ∙ ap (λ vs. vs ++ option_to_list (version_made (replay log) own)) mirrors.versions
          ∙ ap (λ o. versions_of told.log ++ option_to_list o) (ap (λ state. version_made state own) mirrors.state ∙ same_version (replay told.log) asked answer answer' took made) ∙ sym (versions_push told.log inner);
      uploads = λ upload new. new_push log own upload (mirrors.uploads upload (new_front told.log inner upload new)) (new_last told.log inner upload new);
    }

-- an entry that took no effect, behind what is mirrored
before_is_legal : (asked : Call) (log : List Logged) → MayBeMade asked → IsLegalEntry log (entry_before asked)
before_is_legal asked log may = record {
  may = may;
  answered = tt;
  took = λ sound. absurd (sound refl);
  made = refl;
  one_content = λ new made. let none = none_before (replay log) asked in absurd (cc);
  new_upload = λ upload made. absurd (cc);
}

pub mirrors_before : (asked : Call) (log : List Logged) (told : History) → MayBeMade asked → Mirrors log told → Mirrors (log ++ entry_before asked ∷ []) told
mirrors_before asked log told may mirrors = record {
  legal = legal_push log (entry_before asked) mirrors.legal (before_is_legal asked log may);
  state = replay_push log (entry_before asked) ∙ mirrors.state;
  versions = versions_push log (entry_before asked) ∙ ap (λ o. versions_of log ++ option_to_list o) (none_before (replay log) asked) ∙ append-nil (versions_of log) ∙ mirrors.versions;
  uploads = λ upload new. new_push log (entry_before asked) upload (mirrors.uploads upload new) (λ made. absurd (cc));
}

same_logged : (a b : Call) (p q : Brief) (s t : Bool) (m n : Option Name) → a ≡ b → p ≡ q → s ≡ t → m ≡ n → logged_as a p s m ≡ logged_as b q t n
same_logged a b p q s t m n calls answers tooks mades = rw (calls, answers, tooks, mades) refl

-- the inner store's entry of an answer that is no fault
inner_entry : (asked : Call) (answer : Brief) (own : Logged) (log : List Logged) → fits asked answer ≡ true → answer ≢ Fault → own.entry.call ≡ asked → own.entry.answer ≡ answer → IsLegalEntry log own
    → own ≡ entry_after asked answer answer
inner_entry asked answer own log fit sound asks answers fine =
    let took : own.entry.took ≡ true = fine.took (λ fault. sound (sym answers ∙ fault)) in
    let answered : MayAnswer (replay log) asked answer = rw (asks, answers) at fine.answered in
    let makes : Makes (replay log) asked answer own.made = rw (asks, took, answers) at fine.made in
    same_logged own.entry.call asked own.entry.answer answer own.entry.took true own.made (made_by answer) asks answers took (name_is (replay log) asked answer own.made fit sound answered makes)

-- what an entry makes, behind what is mirrored
same_content : (asked : Call) (told answer : Brief) (log : List Logged) (past : History) → Mirrors log past → IsLegalEntry past.log (entry_after asked answer answer) → (new : ObjectVersion)
    → version_made (replay log) (entry_after asked told answer) ≡ Some new → IsOneContent (versions_of log) new
same_content asked told answer log past mirrors fine new made =
    let there : version_made (replay past.log) (entry_after asked answer answer) ≡ Some new =
    same_version (replay past.log) asked answer told true (made_by answer) ∙ sym (ap (λ state. version_made state (entry_after asked told answer)) mirrors.state) ∙ made in
    subst (λ vs. IsOneContent vs new) (sym mirrors.versions) (fine.one_content new there)

handed_is_legal : (asked : Call) (answer : Brief) (log : List Logged) (past : History) → Mirrors log past → IsLegalEntry past.log (entry_after asked answer answer) → IsLegalEntry log (entry_after asked answer answer)
handed_is_legal asked answer log past mirrors fine = record {
  may = fine.may;
  answered = subst (λ state. MayAnswer state asked answer) (sym mirrors.state) fine.answered;
  took = λ _. refl;
  made = subst (λ state. Makes state asked answer (made_by answer)) (sym mirrors.state) fine.made;
  one_content = same_content asked answer answer log past mirrors fine;
  new_upload = λ upload made. mirrors.uploads upload (fine.new_upload upload made);
}

hidden_is_legal : (asked : Call) (answer : Brief) (log : List Logged) (past : History) → fits asked answer ≡ true → answer ≢ Fault → Mirrors log past → IsLegalEntry past.log (entry_after asked answer answer) → IsLegalEntry log (entry_after asked Fault answer)
hidden_is_legal asked answer log past fit sound mirrors fine = record {
  may = fine.may;
  answered = tt;
  took = λ _. refl;
  made = subst (λ state. Makes state asked Fault (made_by answer)) (sym mirrors.state) (name_hidden (replay past.log) asked answer fit sound fine.answered fine.made);
  one_content = same_content asked Fault answer log past mirrors fine;
  new_upload = λ upload made. mirrors.uploads upload (fine.new_upload upload made);
}

entry_is_legal : (hides : Bool) (asked : Call) (answer : Answer) (log : List Logged) (past : History) → fits asked (brief_of answer) ≡ true → brief_of answer ≢ Fault → Mirrors log past
    → IsLegalEntry past.log (entry_after asked (brief_of answer) (brief_of answer)) → IsLegalEntry log (entry_after asked (brief_of (shown true hides answer)) (brief_of answer))
entry_is_legal true asked answer log past fit sound mirrors fine = hidden_is_legal asked (brief_of answer) log past fit sound mirrors fine
entry_is_legal false asked answer log past fit sound mirrors fine = handed_is_legal asked (brief_of answer) log past mirrors fine

-- what is mirrored goes by the log and not by the versions told
mirrors_log : (log : List Logged) (a b : History) → a.log ≡ b.log → Mirrors log a → Mirrors log b
mirrors_log log a b is mirrors = record {
  legal = mirrors.legal;
  state = mirrors.state ∙ ap replay is;
  versions = mirrors.versions ∙ ap versions_of is;
  uploads = λ upload new. mirrors.uploads upload (subst (λ entries. IsNewUpload entries upload) (sym is) new);
}

mirrors_reached : (counted hides : Bool) (is_alone : Type 0) (asked : Call) (place : ℕ) (answer : Answer) (old new : List Logged) (was now : History) → is_counted (brief_of answer) ≡ counted → fits asked (brief_of answer) ≡ true
    → brief_of answer ≢ Fault → is_alone → IsLegalHistory now.log → AddsFor counted is_alone asked place (brief_of answer) was now → new ≡ old ++ entries_of counted hides asked answer → Mirrors old was → Mirrors new now
mirrors_reached true hides is_alone asked place answer old new was now counted fit sound alone legal adds is mirrors =
    let none = adds.alone alone in
    let grown : now.log ≡ was.log ++ adds.own ∷ [] = adds.log ∙ ap (λ es. was.log ++ (es ++ adds.own ∷ adds.later)) none.0 ∙ ap (λ es. was.log ++ adds.own ∷ es) none.1 in
    let last : IsLegalEntry was.log adds.own = legal_last was.log adds.own (subst IsLegalHistory grown legal) in
    let own_is : adds.own ≡ entry_after asked (brief_of answer) (brief_of answer) = inner_entry asked (brief_of answer) adds.own was.log fit sound adds.asks adds.answers last in
    let fine : IsLegalEntry was.log (entry_after asked (brief_of answer) (brief_of answer)) = subst (IsLegalEntry was.log) own_is last in
    let more : Mirrors (old ++ entry_after asked (brief_of (shown true hides answer)) (brief_of answer) ∷ []) (record { log = was.log ++ entry_after asked (brief_of answer) (brief_of answer) ∷ []; versions = was.versions }) =
    mirrors_push asked (brief_of (shown true hides answer)) (brief_of answer) true (made_by (brief_of answer)) old was mirrors (entry_is_legal hides asked answer old was fit sound mirrors fine) in
    subst (λ log. Mirrors log now) (sym is) (mirrors_log _ (record { log = was.log ++ entry_after asked (brief_of answer) (brief_of answer) ∷ []; versions = was.versions }) now (sym (grown ∙ ap (λ e. was.log ++ e ∷ []) own_is)) more)
mirrors_reached false hides is_alone asked place answer old new was now counted fit sound alone legal adds is mirrors =
    let same : now.log ≡ was.log = adds.log ∙ ap (λ es. was.log ++ es) (adds.alone alone) ∙ append-nil was.log in
    subst (λ log. Mirrors log now) (sym (is ∙ append-nil old)) (mirrors_log old was now (sym same) mirrors)

-- a call that a page answers leaves the state, and makes no version
page_leaves : (state : BucketState) (asked : Call) (page : Page) (answer : Brief) (took : Bool) (made : Option Name) → fits asked (brief.Page page) ≡ true → after state (logged_as asked answer took made) ≡ state
page_leaves state asked page answer false made fit = refl
page_leaves state (Delete key) page answer true made fit = absurd (cc)
page_leaves state (Put key bytes) page answer true made fit = absurd (cc)
page_leaves state (Create key) page answer true made fit = absurd (cc)
page_leaves state (Part upload number bytes) page answer true made fit = absurd (cc)
page_leaves state (Complete upload parts) page answer true made fit = absurd (cc)
page_leaves state (Abort upload) page answer true made fit = absurd (cc)
page_leaves state asked page answer true made fit = refl

none_paged : (state : BucketState) (asked : Call) (page : Page) (answer : Brief) (took : Bool) (made : Option Name) → fits asked (brief.Page page) ≡ true → version_made state (logged_as asked answer took made) ≡ None
none_paged state (Put key bytes) page answer took made fit = absurd (cc)
none_paged state (Complete upload parts) page answer took made fit = absurd (cc)
none_paged state asked page answer took made fit = refl

-- the inner store has one entry more, which leaves the state and makes no version
mirrors_past : (log : List Logged) (own : Logged) (told : History) → after (replay told.log) own ≡ replay told.log → version_made (replay told.log) own ≡ None → Mirrors log told
    → Mirrors log (record { log = told.log ++ own ∷ []; versions = told.versions })
mirrors_past log own told leaves none mirrors = record {
  legal = mirrors.legal;
  state = mirrors.state ∙ sym (replay_push told.log own ∙ leaves);
  versions = mirrors.versions ∙ sym (versions_push told.log own ∙ ap (λ o. versions_of told.log ++ option_to_list o) none ∙ append-nil (versions_of told.log));
  uploads = λ upload new. mirrors.uploads upload (new_front told.log own upload new);
}

-- the inner store answered a page, and its entry isn't added
mirrors_lost : (is_alone : Type 0) (asked : Call) (place : ℕ) (page : Page) (log : List Logged) (was now : History) → fits asked (brief.Page page) ≡ true → is_alone → AddsEntry is_alone asked place (brief.Page page) was now
    → Mirrors log was → Mirrors log now
mirrors_lost is_alone asked place page log was now fit alone adds mirrors =
    let own = adds.own in
    let none = adds.alone alone in
    let grown : now.log ≡ was.log ++ own ∷ [] = adds.log ∙ ap (λ es. was.log ++ (es ++ own ∷ adds.later)) none.0 ∙ ap (λ es. was.log ++ own ∷ es) none.1 in
    let fits_own : fits own.entry.call (brief.Page page) ≡ true = rw adds.asks fit in
    let leaves = page_leaves (replay was.log) own.entry.call page own.entry.answer own.entry.took own.made fits_own in
    let makes = none_paged (replay was.log) own.entry.call page own.entry.answer own.entry.took own.made fits_own in
    mirrors_log log (record { log = was.log ++ own ∷ []; versions = was.versions }) now (sym grown) (mirrors_past log own was leaves makes mirrors)

still_lost : (is_alone : Type 0) (asked : Call) (place : ℕ) (page : Page) (old new : List Logged) (was now : Option History) → fits asked (brief.Page page) ≡ true → OnSome was is_alone → Tells is_alone asked place (brief.Page page) was now → new ≡ old
    → IfSome was (Mirrors old) → IfSome now (Mirrors new)
still_lost is_alone asked place page old new None None fit alone told is mirrors = tt
still_lost is_alone asked place page old new None (Some now) fit alone told is mirrors = absurd told
still_lost is_alone asked place page old new (Some was) None fit alone told is mirrors = absurd told
still_lost is_alone asked place page old new (Some was) (Some now) fit alone told is mirrors =
    subst (λ log. Mirrors log now) (sym is) (mirrors_lost is_alone asked place page old was now fit alone told mirrors)

-- what holds where a store tells goes on to hold
still_on : (P Q is_alone : Type 0) (asked : Call) (place : ℕ) (answer : Brief) (was now : Option History) → Tells is_alone asked place answer was now → (P → Q) → OnSome was P → OnSome now Q
still_on P Q is_alone asked place answer None None told keeps holds = tt
still_on P Q is_alone asked place answer None (Some now) told keeps holds = absurd told
still_on P Q is_alone asked place answer (Some was) None told keeps holds = absurd told
still_on P Q is_alone asked place answer (Some was) (Some now) told keeps holds = keeps holds

still_mirrors : (hides : Bool) (is_alone : Type 0) (asked : Call) (place : ℕ) (answer : Answer) (old new : List Logged) (was now : Option History) → fits asked (brief_of answer) ≡ true → OnSome was (brief_of answer ≢ Fault)
    → OnSome was is_alone → ((told : History) → now ≡ Some told → IsLegalHistory told.log) → Tells is_alone asked place (brief_of answer) was now → new ≡ old ++ entries_of (is_counted (brief_of answer)) hides asked answer
    → IfSome was (Mirrors old) → IfSome now (Mirrors new)
still_mirrors hides is_alone asked place answer old new None None fit sound alone legal told is mirrors = tt
still_mirrors hides is_alone asked place answer old new None (Some now) fit sound alone legal told is mirrors = absurd told
still_mirrors hides is_alone asked place answer old new (Some was) None fit sound alone legal told is mirrors = absurd told
still_mirrors hides is_alone asked place answer old new (Some was) (Some now) fit sound alone legal told is mirrors =
    mirrors_reached (is_counted (brief_of answer)) hides is_alone asked place answer old new was now refl fit sound alone (legal now refl) told is mirrors

before_on : (asked : Call) (old new : List Logged) (was : Option History) → MayBeMade asked → new ≡ old ++ entry_before asked ∷ [] → IfSome was (Mirrors old) → IfSome was (Mirrors new)
before_on asked old new None may is mirrors = tt
before_on asked old new (Some was) may is mirrors = subst (λ log. Mirrors log was) (sym is) (mirrors_before asked old was may mirrors)

sound_on : (P Q : Type 0) (was : Option History) → (P → Q) → OnSome was P → OnSome was Q
sound_on P Q None gives holds = tt
sound_on P Q (Some was) gives holds = gives holds

module _ {S : Type 0} (position : S → ℕ) (history : S → Option History) (faults : S → ℕ) (is_alone never_fails is_honest : S → Type 0) where
  honest_reaches : (asked : Call) (hides : Bool) (answer : Answer) (old new : Faulty S) → Reaches (IsCalled position history faults is_alone never_fails is_honest asked) asked hides answer old new
      → (is_honest new.inner → (told : History) → history new.inner ≡ Some told → IsLegalHistory told.log)
      → IsHonest (is_honest old.inner) (is_alone old.inner) (never_fails old.inner) (history old.inner) old.log.items
      → IsHonest (is_honest new.inner) (is_alone new.inner) (never_fails new.inner) (history new.inner) new.log.items
  honest_reaches asked hides answer old new reaches law honest =
      let called = reaches.called in
      let sound : OnSome (history old.inner) (brief_of reaches.said ≢ Fault) = sound_on (never_fails old.inner) (brief_of reaches.said ≢ Fault) (history old.inner) (λ never. (called.never never).0) honest.sound in
      record {
        honest = called.honest honest.honest;
        alone = still_on (is_alone old.inner) (is_alone new.inner) (is_alone old.inner) asked reaches.place (brief_of reaches.said) (history old.inner) (history new.inner) called.told called.alone honest.alone;
        sound = still_on (never_fails old.inner) (never_fails new.inner) (is_alone old.inner) asked reaches.place (brief_of reaches.said) (history old.inner) (history new.inner) called.told (λ never. (called.never never).1) honest.sound;
        mirrors = still_mirrors hides (is_alone old.inner) asked reaches.place reaches.said old.log.items new.log.items (history old.inner) (history new.inner) called.kind sound honest.alone (law (called.honest honest.honest)) called.told reaches.log honest.mirrors;
      }

  honest_lost : (asked : Call) (answer : Answer) (old new : Faulty S) → LosesPage (IsCalled position history faults is_alone never_fails is_honest asked) answer old new
      → IsHonest (is_honest old.inner) (is_alone old.inner) (never_fails old.inner) (history old.inner) old.log.items
      → IsHonest (is_honest new.inner) (is_alone new.inner) (never_fails new.inner) (history new.inner) new.log.items
  honest_lost asked answer old new lost honest =
      let called = lost.called in
      record {
        honest = called.honest honest.honest;
        alone = still_on (is_alone old.inner) (is_alone new.inner) (is_alone old.inner) asked lost.place (brief.Page lost.page) (history old.inner) (history new.inner) called.told called.alone honest.alone;
        sound = still_on (never_fails old.inner) (never_fails new.inner) (is_alone old.inner) asked lost.place (brief.Page lost.page) (history old.inner) (history new.inner) called.told (λ never. (called.never never).1) honest.sound;
        mirrors = still_lost (is_alone old.inner) asked lost.place lost.page old.log.items new.log.items (history old.inner) (history new.inner) called.kind honest.alone called.told lost.log honest.mirrors;
      }

  honest_conveys : (asked : Call) (hides : Bool) (answer : Answer) (old new : Faulty S) → Conveys (IsCalled position history faults is_alone never_fails is_honest asked) asked hides answer old new
      → (is_honest new.inner → (told : History) → history new.inner ≡ Some told → IsLegalHistory told.log)
      → IsHonest (is_honest old.inner) (is_alone old.inner) (never_fails old.inner) (history old.inner) old.log.items
      → IsHonest (is_honest new.inner) (is_alone new.inner) (never_fails new.inner) (history new.inner) new.log.items
  honest_conveys asked true answer old new reaches law honest = honest_reaches asked true answer old new reaches law honest
  honest_conveys asked false answer old new conveys law honest =
      elim conveys [
        | inl reaches ↦ honest_reaches asked false answer old new reaches law honest
        | inr lost ↦ honest_lost asked answer old new lost honest
      ]

  honest_serves : (listed : Option When) (asked : Call) (answer : Answer) (old new : Faulty S) → MayBeMade asked → Serves listed (IsCalled position history faults is_alone never_fails is_honest asked) asked answer old new
      → (is_honest new.inner → (told : History) → history new.inner ≡ Some told → IsLegalHistory told.log)
      → IsHonest (is_honest old.inner) (is_alone old.inner) (never_fails old.inner) (history old.inner) old.log.items
      → IsHonest (is_honest new.inner) (is_alone new.inner) (never_fails new.inner) (history new.inner) new.log.items
  honest_serves (Some Before) asked answer old new may fails law honest =
      rw fails.inner (record {
        honest = honest.honest;
        alone = honest.alone;
        sound = honest.sound;
        mirrors = before_on asked old.log.items new.log.items (history old.inner) may fails.log honest.mirrors;
      })
  honest_serves (Some After) asked answer old new may conveys law honest = honest_conveys asked true answer old new conveys law honest
  honest_serves None asked answer old new may conveys law honest = honest_conveys asked false answer old new conveys law honest

  pub honest_served : (asked : Call) (answer : Answer) (old new : Faulty S) → MayBeMade asked → IsServed (IsCalled position history faults is_alone never_fails is_honest asked) asked answer old new
      → (is_honest new.inner → (told : History) → history new.inner ≡ Some told → IsLegalHistory told.log)
      → IsHonest (is_honest old.inner) (is_alone old.inner) (never_fails old.inner) (history old.inner) old.log.items
      → IsHonest (is_honest new.inner) (is_alone new.inner) (never_fails new.inner) (history new.inner) new.log.items
  honest_served asked answer old new may served law honest =
      elim served.served [
        | inl short ↦ rw (short.inner, short.log) honest
        | inr serves ↦ honest_serves (when_at old.listed (risen old.calls)) asked answer old new may serves law honest
      ]
