-- The writers of live handles under changes of lines, of jobs and of one handle.
use Rattle.std.proofs.Common.{◌≡◌, ◌≢◌, ℕ, ◌+◌, ◌≤◌, List, [], ◌∷◌, length, cond, Bool, true, false, ◌==◌, Option, Some, None, option_map, inl, inr, refl, sym, ap, ◌∙◌, subst, arith}
use Rattle.std.proofs.lemmas.Bool.{cases_eq}
use Rattle.mp_types.specs.HandleName.{HandleName}
use Rattle.bucket_model.specs.declared.call.Call.{Call}
use Rattle.mount_model.specs.declared.handle.Handle.TheVariants.{Writing}
use Rattle.mount_model.specs.declared.request.Request.TheVariants.{Await}
use Rattle.mount_model.specs.declared.request.Line.{Line}
use Rattle.mount_model.specs.declared.standing.Heard.{Heard}
use Rattle.mount_model.specs.declared.standing.Phase.{Phase}
use Rattle.mount_model.specs.declared.standing.Phase.TheVariants.{Waiting, Begun, Replied}
use Rattle.mount_model.specs.declared.standing.Standing.{Standing}
use Rattle.mount_model.specs.declared.standing.Told.{Told}
use Rattle.mount_model.specs.Heard.{nothing_heard, with_told}
use Rattle.mount_model.specs.Handles.{Handle, Writer}
use Rattle.mount_model.specs.State.{Job, line_at, change_line, heard, handle_name}
use Rattle.run_laws.specs.Counts.{any_call, is_create, is_part, is_complete, is_abort, calls_made, calls_out, parts_made}
use Rattle.run_laws.specs.Uploads.{IsTallied}
use Rattle.run_laws.specs.Writers.{tally, awaits_writer, IsWriter, HasWriter, HasReply, WaitsForWriter, AsksOnce, HasWriters}
use Rattle.run_laws.proofs.Lines.{changed, line_at-same, line_at-other}
use Rattle.run_laws.proofs.Settled.{settled, Same, Answered, settles}
use Rattle.run_laws.proofs.Handles.{Look, with_at, at-same, at-other, names}
use Rattle.run_laws.proofs.Asked.{OnlyFor}

-- how a line of a number stands

abbrev pub stands_as : Line → Phase → Option Standing
stands_as line phase = Some (record { line = line; phase = phase })

pub record StandsBegun (lines : List Standing) (n : ℕ) (line : Line) : Type 0 where
  pub heard : Heard
  pub stands : line_at n lines ≡ stands_as line (Begun heard)

pub phases-apart : (o : Option Standing) (line other : Line) (first second : Phase) → o ≡ stands_as line first → o ≡ stands_as other second → (line ≡ other) × (first ≡ second)
phases-apart o line other first second one two =
    let both : stands_as line first ≡ stands_as other second = sym one ∙ two in
    let same : record { line = line; phase = first } ≡ record { line = other; phase = second } = cc in
    (ap (λ (s : Standing). s.line) same, ap (λ (s : Standing). s.phase) same)

-- a line has but one phase
pub begun-replied : (lines : List Standing) (n : ℕ) (line other : Line) (heard : Heard) → line_at n lines ≡ stands_as line (Begun heard) → line_at n lines ≡ stands_as other Replied → ⊥
begun-replied lines n line other heard one two = let phases : Begun heard ≡ Replied = (phases-apart (line_at n lines) line other (Begun heard) Replied one two).1 in cc

pub waiting-replied : (lines : List Standing) (n : ℕ) (line other : Line) → line_at n lines ≡ stands_as line Waiting → line_at n lines ≡ stands_as other Replied → ⊥
waiting-replied lines n line other one two = let phases : Waiting ≡ Replied = (phases-apart (line_at n lines) line other Waiting Replied one two).1 in cc

pub waiting-begun : (lines : List Standing) (n : ℕ) (line other : Line) (heard : Heard) → line_at n lines ≡ stands_as line Waiting → line_at n lines ≡ stands_as other (Begun heard) → ⊥
waiting-begun lines n line other heard one two = let phases : Waiting ≡ Begun heard = (phases-apart (line_at n lines) line other Waiting (Begun heard) one two).1 in cc

-- Lines that change, but for those that wait for the handle of this name: each that has its reply keeps it, and those that
-- stand begun and await a writer are the same.
pub record LinesKeep (name : HandleName) (lines now : List Standing) : Type 0 where
  pub replied : (n : ℕ) (line : Line) → line_at n lines ≡ stands_as line Replied → line_at n now ≡ stands_as line Replied
  pub waiting : (n : ℕ) (line : Line) (heard : Heard) → line_at n lines ≡ stands_as line (Begun heard) → awaits_writer line.request ≡ true → handle_name line ≢ name → StandsBegun now n line
  pub from : (n : ℕ) (line : Line) (heard : Heard) → line_at n now ≡ stands_as line (Begun heard) → awaits_writer line.request ≡ true → handle_name line ≢ name → StandsBegun lines n line

-- of each name
abbrev pub AllKeep : List Standing → List Standing → Type 0
AllKeep lines now = (name : HandleName) → LinesKeep name lines now

pub keep-same : (lines : List Standing) → AllKeep lines lines
keep-same lines name = record { replied = λ n line stands. stands; waiting = λ n line heard stands awaits apart. record { heard = heard; stands = stands }; from = λ n line heard stands awaits apart. record { heard = heard; stands = stands } }

-- a changed line
at-changed : (n : ℕ) (f : Phase → Phase) (lines : List Standing) → line_at n (change_line n f lines) ≡ option_map (changed f) (line_at n lines)
at-changed n f [] = refl
at-changed n f (s ∷ lines) = go (s.line.number == n) refl (at-changed n f lines)
  where
    go : (b : Bool) → (s.line.number == n) ≡ b → line_at n (change_line n f lines) ≡ option_map (changed f) (line_at n lines) → line_at n (cond b (changed f s) s ∷ change_line n f lines) ≡ option_map (changed f) (cond b (Some s) (line_at n lines))
    go true is e = rw is refl
    go false is e = rw is e

-- what one line's change keeps, where it keeps it of that line
pub keep-change : (name : HandleName) (n : ℕ) (f : Phase → Phase) (lines : List Standing)
    → ((line : Line) → line_at n lines ≡ stands_as line Replied → f Replied ≡ Replied)
    → ((line : Line) (heard : Heard) → line_at n lines ≡ stands_as line (Begun heard) → awaits_writer line.request ≡ true → handle_name line ≢ name → (more : Heard) × (f (Begun heard) ≡ Begun more))
    → ((line : Line) (phase : Phase) (heard : Heard) → line_at n lines ≡ stands_as line phase → f phase ≡ Begun heard → awaits_writer line.request ≡ true → handle_name line ≢ name → (before : Heard) × (phase ≡ Begun before))
    → LinesKeep name lines (change_line n f lines)
keep-change name n f lines replied waiting from = record {
  replied = λ m line stands. elim (cases_eq m n) [
    | inl same ↦ (let here : line_at n lines ≡ stands_as line Replied = ap (λ (k : ℕ). line_at k lines) (sym same) ∙ stands in
        ap (λ (k : ℕ). line_at k (change_line n f lines)) same ∙ line_at-same n f lines (record { line = line; phase = Replied }) here ∙ ap (λ (p : Phase). stands_as line p) (replied line here))
    | inr apart ↦ line_at-other n m f lines apart ∙ stands
  ];
  waiting = λ m line heard stands awaits other. elim (cases_eq m n) [
    | inl same ↦ (let here : line_at n lines ≡ stands_as line (Begun heard) = ap (λ (k : ℕ). line_at k lines) (sym same) ∙ stands in
        let more = waiting line heard here awaits other in
        record { heard = more.0; stands = ap (λ (k : ℕ). line_at k (change_line n f lines)) same ∙ line_at-same n f lines (record { line = line; phase = Begun heard }) here ∙ ap (λ (p : Phase). stands_as line p) more.1 })
    | inr apart ↦ record { heard = heard; stands = line_at-other n m f lines apart ∙ stands }
  ];
  from = λ m line heard stands awaits other. elim (cases_eq m n) [
    | inl same ↦ by_old (line_at n lines) refl m line heard same (ap (λ (k : ℕ). line_at k (change_line n f lines)) (sym same) ∙ stands) awaits other
    | inr apart ↦ record { heard = heard; stands = sym (line_at-other n m f lines apart) ∙ stands }
  ];
}
  where
    by_old : (o : Option Standing) → line_at n lines ≡ o → (m : ℕ) (line : Line) (heard : Heard) → m ≡ n → line_at n (change_line n f lines) ≡ stands_as line (Begun heard) → awaits_writer line.request ≡ true → handle_name line ≢ name → StandsBegun lines m line
    by_old None old m line heard same stands awaits other = absurd (let none : line_at n (change_line n f lines) ≡ None = at-changed n f lines ∙ ap (option_map (changed f)) old in cc)
    by_old (Some s) old m line heard same stands awaits other =
        let now : line_at n (change_line n f lines) ≡ stands_as s.line (f s.phase) = at-changed n f lines ∙ ap (option_map (changed f)) old in
        let both = phases-apart (line_at n (change_line n f lines)) s.line line (f s.phase) (Begun heard) now stands in
        let here : line_at n lines ≡ stands_as line s.phase = old ∙ ap (λ (l : Line). stands_as l s.phase) both.0 in
        let before = from line s.phase heard here both.1 awaits other in
        record { heard = before.0; stands = ap (λ (k : ℕ). line_at k lines) same ∙ here ∙ ap (λ (p : Phase). stands_as line p) before.1 }

heard-from : (told : Told) (phase : Phase) (more : Heard) → heard told phase ≡ Begun more → (before : Heard) × (phase ≡ Begun before)
heard-from told Waiting more is = absurd (cc)
heard-from told (Begun before) more is = (before, refl)
heard-from told Replied more is = absurd (cc)

-- a line hears
pub keep-heard : (n : ℕ) (told : Told) (lines : List Standing) → AllKeep lines (change_line n (heard told) lines)
keep-heard n told lines name = keep-change name n (heard told) lines (λ line stands. refl) (λ line before stands awaits other. (with_told told before, refl)) (λ line phase more stands is awaits other. heard-from told phase more is)

-- a line begins that awaits no writer, or the writer of this handle
pub keep-begun : (name : HandleName) (n : ℕ) (line : Line) (lines : List Standing) → line_at n lines ≡ stands_as line Waiting → (awaits_writer line.request ≡ true → handle_name line ≡ name) → LinesKeep name lines (change_line n (λ phase. Begun nothing_heard) lines)
keep-begun name n line lines waits awaited = keep-change name n (λ phase. Begun nothing_heard) lines
    (λ other stands. absurd (waiting-replied lines n line other waits stands))
    (λ other before stands awaits apart. absurd (waiting-begun lines n line other before waits stands))
    (λ other phase more stands is awaits apart. let both = phases-apart (line_at n lines) line other Waiting phase waits stands in absurd (apart (ap handle_name (sym both.0) ∙ awaited (ap (λ (l : Line). awaits_writer l.request) both.0 ∙ awaits))))

-- a line is answered that awaits no writer, or that of this handle
pub keep-replied : (name : HandleName) (n : ℕ) (lines : List Standing) → ((line : Line) (heard : Heard) → line_at n lines ≡ stands_as line (Begun heard) → awaits_writer line.request ≡ true → handle_name line ≡ name) → LinesKeep name lines (change_line n (λ phase. Replied) lines)
keep-replied name n lines awaited = keep-change name n (λ phase. Replied) lines (λ line stands. refl) (λ line before stands awaits apart. absurd (apart (awaited line before stands awaits))) (λ line phase more stands is awaits apart. absurd (cc))

-- the awaits that are due are answered
await-none : (line : Line) → line.request ≡ Await → awaits_writer line.request ≡ true → ⊥
await-none line is awaits = let none : awaits_writer line.request ≡ false = ap awaits_writer is in cc

pub keep-settled : (lines : List Standing) → AllKeep lines (settled lines)
keep-settled lines name = record {
  replied = λ n line stands. elim (settles n lines) [
    | Same e ↦ e ∙ stands
    | Answered other heard awaits before behind ↦ absurd (begun-replied lines n other line heard before stands)
  ];
  waiting = λ n line heard stands awaits apart. elim (settles n lines) [
    | Same e ↦ record { heard = heard; stands = e ∙ stands }
    | Answered other heard' is before behind ↦ absurd (let both = phases-apart (line_at n lines) line other (Begun heard) (Begun heard') stands before in await-none line (ap (λ (l : Line). l.request) both.0 ∙ is) awaits)
  ];
  from = λ n line heard stands awaits apart. elim (settles n lines) [
    | Same e ↦ record { heard = heard; stands = sym e ∙ stands }
    | Answered other heard' is before behind ↦ absurd (begun-replied (settled lines) n line other heard stands behind)
  ];
}

-- jobs that count the same for a writer
pub record SameFor (opened : ℕ) (jobs now : List Job) : Type 0 where
  pub out : (kind : Call → ℕ) → calls_out kind opened now ≡ calls_out kind opened jobs
  pub made : (kind : Call → ℕ) → calls_made kind opened now ≡ calls_made kind opened jobs
  pub parts : parts_made opened now ≡ parts_made opened jobs

pub same-jobs : (opened : ℕ) (jobs : List Job) → SameFor opened jobs jobs
same-jobs opened jobs = record { out = λ kind. refl; made = λ kind. refl; parts = refl }

pub same-then : (opened : ℕ) (jobs mid now : List Job) → SameFor opened jobs mid → SameFor opened mid now → SameFor opened jobs now
same-then opened jobs mid now first second = record { out = λ kind. second.out kind ∙ first.out kind; made = λ kind. second.made kind ∙ first.made kind; parts = second.parts ∙ first.parts }

pub only-others : (opened m : ℕ) (jobs now : List Job) → OnlyFor opened jobs now → (opened ≡ m → ⊥) → SameFor m jobs now
only-others opened m jobs now only apart = record { out = λ kind. only.out kind m apart; made = λ kind. only.made kind m apart; parts = only.parts m apart }

pub tally-same : (opened : ℕ) (jobs now : List Job) → SameFor opened jobs now → tally opened jobs ≡ tally opened now
tally-same opened jobs now same =
    let a = same.made is_create in
    let b = same.made is_part in
    let c = same.made is_complete in
    let d = same.made is_abort in
    let e = same.out is_create in
    let f = same.out is_part in
    let g = same.out is_complete in
    let h = same.out is_abort in
    cc

-- as many of each kind were made
pub once-kept : (opened : ℕ) (jobs now : List Job) → ((kind : Call → ℕ) → calls_made kind opened now ≡ calls_made kind opened jobs) → parts_made opened now ≡ parts_made opened jobs → AsksOnce opened jobs → AsksOnce opened now
once-kept opened jobs now made parts once =
    let creates = made is_create in
    let completes = made is_complete in
    let aborts = made is_abort in
    let any = made any_call in
    let count : length (parts_made opened now) ≡ length (parts_made opened jobs) = ap length parts in
    let all = once.all in
    let c = once.creates in
    let k = once.completes in
    let a = once.aborts in
    record { creates = omega arith; completes = omega arith; aborts = omega arith; parts = rw parts once.parts; all = omega arith }

pub once-same : (opened : ℕ) (jobs now : List Job) → SameFor opened jobs now → AsksOnce opened jobs → AsksOnce opened now
once-same opened jobs now same once = once-kept opened jobs now same.made same.parts once

-- a writer at another name
pub writer-keeps : (changed_name : HandleName) (lines now : List Standing) (jobs behind : List Job) (name : HandleName) (w : Writer) → LinesKeep changed_name lines now → SameFor w.line jobs behind → name ≢ changed_name → IsWriter lines jobs name w → IsWriter now behind name w
writer-keeps changed_name lines now jobs behind name w keep same apart is = record {
  opener = is.opener;
  stands = keep.replied w.line is.opener is.stands;
  opens = is.opens;
  named = is.named;
  waits = λ number waits.
      let waiting = is.waits number waits in
      let stays = keep.waiting number waiting.line waiting.heard waiting.stands waiting.awaits (λ e. apart (sym waiting.named ∙ e)) in
      record { line = waiting.line; heard = stays.heard; stands = stays.stands; named = waiting.named; awaits = waiting.awaits };
  ended = is.ended;
  closing = is.closing;
  pending = is.pending ∙ sym (same.out any_call);
  upload = is.upload;
  tallied = subst (IsTallied w.upload) (tally-same w.line jobs behind same) is.tallied;
}

-- two writers are of two lines
pub writers-apart : (lines : List Standing) (jobs : List Job) (name other : HandleName) (w v : Writer) → IsWriter lines jobs name w → IsWriter lines jobs other v → w.line ≡ v.line → name ≡ other
writers-apart lines jobs name other w v one two same =
    let both = phases-apart (line_at v.line lines) one.opener two.opener Replied Replied (ap (λ (k : ℕ). line_at k lines) (sym same) ∙ one.stands) two.stands in
    sym one.named ∙ ap handle_name both.0 ∙ two.named

-- a change of the handle under one name, of its waiting lines, and of one writer's jobs
pub record OneChanges (lines now : List Standing) (jobs behind : List Job) (look : Look) (opened : ℕ) (name : HandleName) (o : Option Handle) : Type 0 where
  pub lines_keep : LinesKeep name lines now
  pub jobs_keep : (m : ℕ) → (opened ≡ m → ⊥) → SameFor m jobs behind
  pub before : (v : Writer) → look name ≡ Some (Writing v) → v.line ≡ opened
  pub others : (q : HandleName) (v : Writer) → look q ≡ Some (Writing v) → q ≢ name → v.line ≢ opened
  pub writer : (v : Writer) → o ≡ Some (Writing v) → IsWriter now behind name v
  pub owned : 1 ≤ calls_out any_call opened behind → HasWriter (with_at name o look) opened
  pub opened_by : 1 ≤ calls_made any_call opened behind → HasReply now opened
  pub once : AsksOnce opened behind
  pub waited : (number : ℕ) (line : Line) (heard : Heard) → line_at number now ≡ stands_as line (Begun heard) → awaits_writer line.request ≡ true → handle_name line ≡ name → WaitsForWriter (with_at name o look) number line

pub one-changes : (lines now : List Standing) (jobs behind : List Job) (look : Look) (opened : ℕ) (name : HandleName) (o : Option Handle) → OneChanges lines now jobs behind look opened name o → HasWriters lines jobs look → HasWriters now behind (with_at name o look)
one-changes lines now jobs behind look opened name o c has = record {
  each = λ q v stands. elim (names q name) [
    | inl same ↦ subst (λ (p : HandleName). IsWriter now behind p v) (sym same) (c.writer v (sym (ap (with_at name o look) same ∙ at-same name o look) ∙ stands))
    | inr apart ↦ (let old : look q ≡ Some (Writing v) = sym (at-other name o look q apart) ∙ stands in
        writer-keeps name lines now jobs behind q v c.lines_keep (c.jobs_keep v.line (λ e. c.others q v old apart (sym e))) apart (has.each q v old))
  ];
  owned = λ m some. elim (cases_eq opened m) [
    | inl same ↦ subst (HasWriter (with_at name o look)) same (c.owned (subst (λ (k : ℕ). 1 ≤ calls_out any_call k behind) (sym same) some))
    | inr apart ↦ (let count = (c.jobs_keep m apart).out any_call in
        let old = has.owned m (omega arith) in
        let other : old.name ≢ name = λ e. apart (sym (c.before old.writer (ap look (sym e) ∙ old.stands)) ∙ old.opened_by) in
        record { name = old.name; writer = old.writer; stands = at-other name o look old.name other ∙ old.stands; opened_by = old.opened_by })
  ];
  opened = λ m some. elim (cases_eq opened m) [
    | inl same ↦ subst (HasReply now) same (c.opened_by (subst (λ (k : ℕ). 1 ≤ calls_made any_call k behind) (sym same) some))
    | inr apart ↦ (let count = (c.jobs_keep m apart).made any_call in
        let old = has.opened m (omega arith) in
        record { line = old.line; stands = c.lines_keep.replied m old.line old.stands })
  ];
  once = λ m. elim (cases_eq opened m) [
    | inl same ↦ subst (λ (k : ℕ). AsksOnce k behind) same c.once
    | inr apart ↦ once-same m jobs behind (c.jobs_keep m apart) (has.once m)
  ];
  waited = λ number line heard stands awaits. elim (names (handle_name line) name) [
    | inl same ↦ c.waited number line heard stands awaits same
    | inr apart ↦ (let before = c.lines_keep.from number line heard stands awaits apart in
        let old = has.waited number line before.heard before.stands awaits in
        record { writer = old.writer; stands = at-other name o look (handle_name line) apart ∙ old.stands; waits = old.waits })
  ];
}

-- no handle changes

pub writers-keep : (lines now : List Standing) (jobs behind : List Job) (look : Look) → AllKeep lines now → ((m : ℕ) → SameFor m jobs behind) → HasWriters lines jobs look → HasWriters now behind look
writers-keep lines now jobs behind look keep same has = record {
  each = λ q v stands.
      let is = has.each q v stands in
      record {
        opener = is.opener;
        stands = (keep q).replied v.line is.opener is.stands;
        opens = is.opens;
        named = is.named;
        waits = λ number waits.
            let waiting = is.waits number waits in
            let stays = keeps-waiting number waiting.line waiting.heard waiting.stands waiting.awaits in
            record { line = waiting.line; heard = stays.heard; stands = stays.stands; named = waiting.named; awaits = waiting.awaits };
        ended = is.ended;
        closing = is.closing;
        pending = is.pending ∙ sym ((same v.line).out any_call);
        upload = is.upload;
        tallied = subst (IsTallied v.upload) (tally-same v.line jobs behind (same v.line)) is.tallied;
      };
  owned = λ m some. has.owned m (let count = (same m).out any_call in omega arith);
  opened = λ m some. let old = has.opened m (let count = (same m).made any_call in omega arith) in record { line = old.line; stands = (keep (0, 0)).replied m old.line old.stands };
  once = λ m. once-same m jobs behind (same m) (has.once m);
  waited = λ number line heard stands awaits. let before = keeps-from number line heard stands awaits in has.waited number line before.heard before.stands awaits;
}
  where
    -- a name that the line doesn't give
    another : (name : HandleName) → name ≢ (name.0 + 1, 0)
    another name e = let first : name.0 ≡ name.0 + 1 = ap (λ (p : HandleName). p.0) e in absurd (omega arith)

    keeps-waiting : (n : ℕ) (line : Line) (heard : Heard) → line_at n lines ≡ stands_as line (Begun heard) → awaits_writer line.request ≡ true → StandsBegun now n line
    keeps-waiting n line heard stands awaits = (keep ((handle_name line).0 + 1, 0)).waiting n line heard stands awaits (another (handle_name line))

    keeps-from : (n : ℕ) (line : Line) (heard : Heard) → line_at n now ≡ stands_as line (Begun heard) → awaits_writer line.request ≡ true → StandsBegun lines n line
    keeps-from n line heard stands awaits = (keep ((handle_name line).0 + 1, 0)).from n line heard stands awaits (another (handle_name line))

-- the same handles
pub writers-look : (lines : List Standing) (jobs : List Job) (look other : Look) → ((q : HandleName) → look q ≡ other q) → HasWriters lines jobs look → HasWriters lines jobs other
writers-look lines jobs look other same has = record {
  each = λ q v stands. has.each q v (same q ∙ stands);
  owned = λ m some. let old = has.owned m some in record { name = old.name; writer = old.writer; stands = sym (same old.name) ∙ old.stands; opened_by = old.opened_by };
  opened = has.opened;
  once = has.once;
  waited = λ number line heard stands awaits. let old = has.waited number line heard stands awaits in record { writer = old.writer; stands = sym (same (handle_name line)) ∙ old.stands; waits = old.waits };
}
