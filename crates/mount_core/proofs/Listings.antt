-- A line whose listing gets a page that it can't keep.
use Rattle.std.proofs.Common.{◌≡◌, ℕ, ◌+◌, Bool, true, false, not, ◌&&◌, nat_lt, if◌then◌else◌, List, [], ◌∷◌, ◌++◌, length, Some, Option, Ok, refl, ap, ◌∙◌, subst, length-append}
use Rattle.mp_types.specs.declared.errno.Errno.{Errno}
use Rattle.mp_types.specs.declared.errno.Errno.TheVariants.{Enomem, Eoverflow}
use Rattle.listing_rules.specs.Names.{listing_of, prefix_of}
use Rattle.listing_rules.specs.Pages.{items_of, last_text}
use Rattle.bucket_model.specs.declared.page.Page.{Page}
use Rattle.bucket_model.specs.declared.answer.Brief.{Brief}
use Rattle.bucket_model.specs.declared.answer.Brief.TheVariants as answer
use Rattle.mount_model.specs.declared.request.Reply.TheVariants as reply
use Rattle.mount_model.specs.declared.request.Line.{Line}
use Rattle.mount_model.specs.declared.event.Owner.{Owner}
use Rattle.mount_model.specs.declared.standing.Heard.{Heard}
use Rattle.mount_model.specs.declared.standing.Standing.{Standing}
use Rattle.mount_model.specs.declared.standing.Told.{Told}
use Rattle.mount_model.specs.declared.standing.Told.TheVariants.{Answer as Hears}
use Rattle.mount_model.specs.Heard.{with_told}
use Rattle.mount_model.specs.Step.{Step}
use Rattle.mount_model.specs.State.{ClientState, Shared, by_reply, view_of}
use Rattle.mount_model.specs.Conversation.{Next, Lists, View, fails, next_of, max_pages, pages_in, last_of, asks_page, behind_page, behind_answer, list_next}
use Rattle.mount_model.specs.Run.{TakesTurnOfLine}
use Rattle.line_table.specs.Table.{HasBegun}
use Rattle.mount_plan.specs.Unkept.{unkept_errno}
use Rattle.mount_core.specs.declared.work.Work.{Work}
use Rattle.mount_core.specs.Due.{MayLack}
use Rattle.mount_core.specs.Listing.{IsListing}
use Rattle.mount_core.specs.Shared.{shared_in}
use Rattle.mount_core.specs.Turn.{Answers, Takes, lines_behind, next_behind, turn_behind}
use Rattle.mount_core.proofs.Dues.{next-seen}
use Rattle.mount_core.proofs.Turns.{lacks_does, lacks_turn, says_turn, takes_replying}

-- what comes behind a page, by whether there is more and whether fewer pages than the most have come
abbrev behind_tests : Bool → Bool → Next → Next → Next
behind_tests more few lists asks = if not more then lists else (if few then asks else fails Eoverflow)

abbrev unkept_tests : Bool → Bool → Errno
unkept_tests more few = if more && not few then Eoverflow else Enomem

tests_turn : (n : ℕ) (more few : Bool) (lists asks : Next) → MayLack lists → MayLack asks → (state : ClientState) (step : Step) (line : Line) (who : Owner) → line.number ≡ n → step.asks ≡ [] → step.drops ≡ [] →
    TakesTurnOfLine state step line who (behind_tests more few lists asks) (record { line = n; reply = reply.Failed (unkept_tests more few) } ∷ [])
tests_turn n false few lists asks may_list may_ask state step line who number asked drops = lacks_turn n lists may_list state step line who number asked drops
tests_turn n true true lists asks may_list may_ask state step line who number asked drops = lacks_turn n asks may_ask state step line who number asked drops
tests_turn n true false lists asks may_list may_ask state step line who number asked drops = says_turn n (reply.Failed Eoverflow) step line number asked drops

tests_does : (more few : Bool) (lists asks : Next) → MayLack lists → MayLack asks → (line : Line) (step : Step) (shared : Shared) → shared ≡ by_reply (behind_tests more few lists asks) line step shared (Some (reply.Failed (unkept_tests more few)))
tests_does false few lists asks may_list may_ask line step shared = lacks_does lists may_list line step shared
tests_does true true lists asks may_list may_ask line step shared = lacks_does asks may_ask line step shared
tests_does true false lists asks may_list may_ask line step shared = refl

last-pushed : (first last : Brief) (answers : List Brief) → last_of first (answers ++ last ∷ []) ≡ last
last-pushed first last [] = refl
last-pushed first last (next ∷ answers) = last-pushed next last answers

-- behind a page that is its last answer, a listing goes by that page
behind-last : (view : View) (names : List (List ℕ)) (before : Heard) (page : Page) → list_next view (Ok names) (with_told (Hears (answer.Page page)) before) ≡ behind_page view (prefix_of names) (before.answers ++ answer.Page page ∷ []) page
behind-last view names before page = go before.answers
  where
    go : (answers : List Brief) → list_next view (Ok names) (record { facts = before.facts; answers = answers ++ answer.Page page ∷ [] }) ≡ behind_page view (prefix_of names) (answers ++ answer.Page page ∷ []) page
    go [] = refl
    go (first ∷ answers) = ap (behind_answer view (prefix_of names) (first ∷ (answers ++ answer.Page page ∷ []))) (last-pushed first (answer.Page page) answers)

page-tests : (view : View) (prefix : List ℕ) (before : List Brief) (page : Page) (more : Bool) → page.more ≡ more →
    behind_page view prefix (before ++ answer.Page page ∷ []) page ≡ behind_tests more (nat_lt (length before + 1) max_pages) (Lists (listing_of prefix (items_of (pages_in (before ++ answer.Page page ∷ []))) view.names)) (asks_page view prefix (last_text [] page.items))
page-tests view prefix before page more is =
    let lists : Next = Lists (listing_of prefix (items_of (pages_in (before ++ answer.Page page ∷ []))) view.names) in
    let asks : Next = asks_page view prefix (last_text [] page.items) in
    ap (λ m. behind_tests m (nat_lt (length (before ++ answer.Page page ∷ [])) max_pages) lists asks) is
    ∙ ap (λ k. behind_tests more (nat_lt k max_pages) lists asks) (length-append before (answer.Page page ∷ []))

pub listing_begun : (n : ℕ) (lines : List Standing) → IsListing n lines → HasBegun n lines
listing_begun n lines listing = record { standing = listing.standing; stands = listing.stands; heard = listing.heard; phase = listing.phase }

-- it fails, as the page says and as many as it has heard
pub fails_listing : (n : ℕ) (page : Page) (bytes : List ℕ) (errno : Errno) (more : Bool) (old new : Work) → (listing : IsListing n old.lines) → page.more ≡ more → errno ≡ unkept_errno more listing.heard.answers →
    Answers (record { line = n; reply = reply.Failed errno } ∷ []) old new →
    shared_in new ≡ shared_in old →
    Takes (turn_behind n (Some (Hears (answer.Page page))) old) (lines_behind n (Some (Hears (answer.Page page))) old) bytes old new
fails_listing n page bytes errno more old new listing is_more is answers same =
    let last : Option Told = Some (Hears (answer.Page page)) in
    let begun : HasBegun n old.lines = record { standing = listing.standing; stands = listing.stands; heard = listing.heard; phase = listing.phase } in
    let view : View = view_of (shared_in old) listing.standing.line in
    let before : List Brief = listing.heard.answers in
    let prefix : List ℕ = prefix_of listing.names in
    let few : Bool = nat_lt (length before + 1) max_pages in
    let lists : Next = Lists (listing_of prefix (items_of (pages_in (before ++ answer.Page page ∷ []))) view.names) in
    let asks : Next = asks_page view prefix (last_text [] page.items) in
    let next : next_behind n last old ≡ behind_tests more few lists asks =
    next-seen n last old begun
    ∙ ap (λ r. next_of view r (with_told (Hears (answer.Page page)) listing.heard)) listing.lists
    ∙ behind-last view listing.names listing.heard page
    ∙ page-tests view prefix before page more is_more in
    let said : Answers (record { line = n; reply = reply.Failed (unkept_tests more few) } ∷ []) old new = subst (λ e. Answers (record { line = n; reply = reply.Failed e } ∷ []) old new) is answers in
    takes_replying n last bytes (reply.Failed (unkept_tests more few)) (behind_tests more few lists asks) old old new begun next refl refl refl refl said
    (tests_turn n more few lists asks tt tt)
    (ap (λ (t : Shared). t.options) same)
    (λ step. same ∙ tests_does more few lists asks tt tt listing.standing.line step (shared_in old))
    tt
