-- A job that lists is a line's own, and what its line has heard.
use Rattle.std.proofs.Common.{◌≡◌, ◌≢◌, ℕ, ◌<◌, List, [], ◌∷◌, ◌++◌, length, true, Some, Result, Ok, Err, refl, ap, ◌∙◌, sym, subst, subst₂, arith, length-append}
use Rattle.mp_types.specs.declared.options.Opts.{Opts}
use Rattle.mp_types.specs.Options.{AreWithin}
use Rattle.mp_types.specs.declared.path.PathFault.{PathFault}
use Rattle.mp_rules.specs.declared.facts.Known.{Known}
use Rattle.bucket_model.specs.declared.call.Call.{Call}
use Rattle.bucket_model.specs.declared.call.Call.TheVariants as call
use Rattle.bucket_model.specs.declared.page.Page.{Page}
use Rattle.bucket_model.specs.declared.answer.Brief.{Brief}
use Rattle.bucket_model.specs.declared.answer.Brief.TheVariants as answer
use Rattle.bucket_model.specs.declared.answer.Brief.TheVariants.{Fault}
use Rattle.bucket_model.specs.Answers.{fits}
use Rattle.mount_model.specs.declared.request.Request.{Request}
use Rattle.mount_model.specs.declared.request.Line.{Line}
use Rattle.mount_model.specs.declared.event.Owner.TheVariants as owner
use Rattle.mount_model.specs.declared.standing.Phase.TheVariants.{Begun}
use Rattle.mount_model.specs.declared.standing.Standing.{Standing}
use Rattle.mount_model.specs.Heard.{with_told, question_of, told_by}
use Rattle.mount_model.specs.Conversation.{max_pages}
use Rattle.mount_model.specs.Step.{Step}
use Rattle.mount_model.specs.State.{ClientState, Job, Gone, job_at, state_after}
use Rattle.mount_model.specs.Run.{AreRising, IsRunSoFar}
use Rattle.run_laws.specs.Alive.{IsAlive}
use Rattle.run_laws.specs.Faithful.{IsFaithful}
use Rattle.run_laws.specs.Listings.{HeardPages, AsksItself, ListsUnder, MayList, ListsNothing, HasListing}
use Rattle.run_laws.specs.Served.{IsOfLine}
use Rattle.run_laws.specs.Work.{list_left, calls_left}
use Rattle.run_laws.proofs.Alive.{alive}
use Rattle.run_laws.proofs.Faithful.{faithful}
use Rattle.run_laws.proofs.Opened.{OwnerIs, OfWriter, OfLine, owner-is, owner-due, live-kinds, live-writer}
use Rattle.run_laws.proofs.Uploads.{kinds}

-- a writer's calls are of its four kinds
kinds-unlisted : (called : Call) → kinds called ≡ 1 → ListsNothing called
kinds-unlisted (call.List prefix after max) one = absurd (omega arith)
kinds-unlisted (call.Head key) one = tt
kinds-unlisted (call.Probe key) one = tt
kinds-unlisted (call.Get key etag from to) one = tt
kinds-unlisted (call.Delete key) one = tt
kinds-unlisted (call.Put key bytes) one = tt
kinds-unlisted (call.Create key) one = tt
kinds-unlisted (call.Part upload number bytes) one = tt
kinds-unlisted (call.Complete upload parts) one = tt
kinds-unlisted (call.Abort upload) one = tt

pub writer-unlisted : (state : ClientState) (number opened : ℕ) (job : Job) → IsAlive state → job_at number state.jobs ≡ Some job → job.owner ≡ owner.Writer opened → job.phase ≢ Gone → ListsNothing job.call
writer-unlisted state number opened job alive stands owned live =
    let found = live-writer state number opened job alive stands owned live in
    let is = alive.writers.each found.name found.writer found.stands in
    kinds-unlisted job.call (live-kinds state number job found.name found.writer is stands (owned ∙ ap owner.Writer (sym found.opened_by)) live)

-- where one more answer leaves fewer calls, the most pages haven't come
few-pages : (found : Result (List (List ℕ)) PathFault) (facts : List Known) (answers : List Brief) (answer : Brief) → list_left found (record { facts = facts; answers = answers ++ answer ∷ [] }) < list_left found (record { facts = facts; answers = answers }) → length answers < max_pages
few-pages (Err why) facts answers answer falls = absurd (omega arith)
few-pages (Ok names) facts [] answer falls = omega arith
few-pages (Ok names) facts (first ∷ answers) answer falls = let sum = length-append answers (answer ∷ []) in omega arith

-- the listing that a line's own job belongs to
line-listing : (state : ClientState) (number : ℕ) (job : Job) (prefix after : List ℕ) (max : ℕ) → IsAlive state → IsFaithful state → job_at number state.jobs ≡ Some job → IsOfLine job.owner → job.phase ≢ Gone → job.call ≡ call.List prefix after max → HasListing state job
line-listing state number job prefix after max alive faithful stands of_line live asks =
    let due = owner-due state number job.line job alive stands of_line refl live in
    let standing : Standing = record { line = due.line; phase = Begun due.heard } in
    let lists = faithful.lists number job stands of_line live standing due.heard due.stands refl in
    let listing : ListsUnder prefix due.line.request = subst (λ (c : Call). MayList c due.line.request) asks lists.0 in
    record {
      prefix = prefix;
      after = after;
      max = max;
      asks = asks;
      of_line = of_line;
      owner_is = subst (λ (r : Request). AsksItself r job.owner job.line) listing.lists lists.1;
      standing = standing;
      stands = due.stands;
      heard = due.heard;
      begun = refl;
      listing = listing;
      pages = subst (λ (r : Request). HeardPages r due.heard.answers) listing.lists lists.2;
      few = few-pages (Ok listing.names) due.heard.facts due.heard.answers Fault
          (subst₂ (λ (r : Request) (c : Call). calls_left r (with_told (told_by (question_of c) Fault) due.heard) < calls_left r due.heard) listing.lists asks
          (faithful.falls number job stands of_line live standing due.heard Fault due.stands refl));
    }

-- no writer's job lists
job-listing : (state : ClientState) (number : ℕ) (job : Job) (prefix after : List ℕ) (max : ℕ) → IsAlive state → IsFaithful state → job_at number state.jobs ≡ Some job → job.phase ≢ Gone → job.call ≡ call.List prefix after max → HasListing state job
job-listing state number job prefix after max alive faithful stands live asks = go (owner-is job.owner)
  where
    go : OwnerIs job.owner → HasListing state job
    go (OfLine of_line) = line-listing state number job prefix after max alive faithful stands of_line live asks
    go (OfWriter opened owned) = absurd (subst ListsNothing asks (writer-unlisted state number opened job alive stands owned live))

pub asked_listing : (options : Opts) (script : List Line) (steps : List Step) (number : ℕ) (job : Job) (prefix after : List ℕ) (max : ℕ) → AreWithin options → AreRising 0 script → IsRunSoFar options script steps → job_at number (state_after options script steps).jobs ≡ Some job → job.phase ≢ Gone → job.call ≡ call.List prefix after max → HasListing (state_after options script steps) job
asked_listing options script steps number job prefix after max within rising run stands live asks = job-listing (state_after options script steps) number job prefix after max (alive options script steps within rising run) (faithful options script steps within rising run) stands live asks

-- a page answers a listing alone
data IsList (called : Call) : Type 0 where
  ListsKeys : (prefix after : List ℕ) (max : ℕ) → called ≡ call.List prefix after max → IsList called

page-lists : (called : Call) (page : Page) → fits called (answer.Page page) ≡ true → IsList called
page-lists (call.List prefix after max) page fit = ListsKeys prefix after max refl
page-lists (call.Head key) page fit = absurd (cc)
page-lists (call.Probe key) page fit = absurd (cc)
page-lists (call.Get key etag from to) page fit = absurd (cc)
page-lists (call.Delete key) page fit = absurd (cc)
page-lists (call.Put key bytes) page fit = absurd (cc)
page-lists (call.Create key) page fit = absurd (cc)
page-lists (call.Part upload number bytes) page fit = absurd (cc)
page-lists (call.Complete upload parts) page fit = absurd (cc)
page-lists (call.Abort upload) page fit = absurd (cc)

pub answered_listing : (options : Opts) (script : List Line) (steps : List Step) (number : ℕ) (job : Job) (page : Page) → AreWithin options → AreRising 0 script → IsRunSoFar options script steps → job_at number (state_after options script steps).jobs ≡ Some job → job.phase ≢ Gone → fits job.call (answer.Page page) ≡ true → HasListing (state_after options script steps) job
answered_listing options script steps number job page within rising run stands live fit = go (page-lists job.call page fit)
  where
    go : IsList job.call → HasListing (state_after options script steps) job
    go (ListsKeys prefix after max asks) = asked_listing options script steps number job prefix after max within rising run stands live asks
