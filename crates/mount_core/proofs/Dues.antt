-- What is due of a line, with its last answer apart.
use Rattle.std.proofs.Common.{◌≡◌, ℕ, List, Option, Some, None, sym, ap, ◌∙◌, subst}
use Rattle.mount_model.specs.declared.standing.Heard.{Heard}
use Rattle.mount_model.specs.declared.standing.Phase.TheVariants.{Begun}
use Rattle.mount_model.specs.declared.standing.Standing.{Standing}
use Rattle.mount_model.specs.declared.standing.Told.{Told}
use Rattle.mount_model.specs.State.{TurnOf, line_at, change_line, turn_of_line, view_of}
use Rattle.mount_model.specs.Conversation.{View, Next, next_of}
use Rattle.mount_model.specs.Handles.{handle_of, owner_for}
use Rattle.line_table.specs.Table.{HasBegun}
use Rattle.mount_plan.specs.Meant.{with_last}
use Rattle.run_laws.proofs.Keyed.{item_at-key}
use Rattle.run_laws.proofs.Lines.{number_of}
use Rattle.mount_core.specs.declared.due.Due.{Due}
use Rattle.mount_core.specs.declared.work.Work.{Work}
use Rattle.mount_core.specs.Due.{DueMeans, DueIsOf, DueTells}
use Rattle.mount_core.specs.Shared.{shared_in}
use Rattle.mount_core.specs.Turn.{heard_last, next_at, owner_at, next_behind, owner_behind, turn_behind}
use Rattle.mount_core.proofs.Changes.{line_at-change}

-- the line as its last answer leaves it
pub record IsGone (n : ℕ) (last : Option Told) (lines : List Standing) (begun : HasBegun n lines) : Type 0 where
  pub stands : line_at n (change_line n (heard_last last) lines) ≡ Some (record { line = begun.standing.line; phase = Begun (with_last last begun.heard) })

pub gone_on : (n : ℕ) (last : Option Told) (lines : List Standing) (begun : HasBegun n lines) → IsGone n last lines begun
gone_on n None lines begun = record {
  stands = line_at-change n (heard_last None) lines begun.standing begun.stands ∙ ap (λ p. Some (record { line = begun.standing.line; phase = p })) begun.phase;
}
gone_on n (Some told) lines begun = record {
  stands = line_at-change n (heard_last (Some told)) lines begun.standing begun.stands ∙ ap (λ p. Some (record { line = begun.standing.line; phase = heard_last (Some told) p })) begun.phase;
}

pub number-is : (n : ℕ) (lines : List Standing) (s : Standing) → line_at n lines ≡ Some s → s.line.number ≡ n
number-is n lines s stands = item_at-key number_of n lines s stands

-- what the line does next is said by what it sees
pub next-seen : (n : ℕ) (last : Option Told) (work : Work) (begun : HasBegun n work.lines) → next_behind n last work ≡ next_of (view_of (shared_in work) begun.standing.line) begun.standing.line.request (with_last last begun.heard)
next-seen n last work begun = ap (next_at (shared_in work)) (gone_on n last work.lines begun).stands

pub next_seen : (n : ℕ) (last : Option Told) (work : Work) (begun : HasBegun n work.lines) (next : Next) → next_behind n last work ≡ next → next_of (view_of (shared_in work) begun.standing.line) begun.standing.line.request (with_last last begun.heard) ≡ next
next_seen n last work begun next is = sym (next-seen n last work begun) ∙ is

pub owner-seen : (n : ℕ) (last : Option Told) (work : Work) (begun : HasBegun n work.lines) → owner_behind n last work ≡ owner_for begun.standing.line.number begun.standing.line.request (handle_of begun.standing.line work.handles)
owner-seen n last work begun = ap (owner_at (shared_in work) n) (gone_on n last work.lines begun).stands

-- and whose turn it is
pub turn-is : (n : ℕ) (last : Option Told) (work : Work) (begun : HasBegun n work.lines) (next : Next) → next_behind n last work ≡ next → turn_behind n last work ≡ TurnOf begun.standing.line (owner_behind n last work) next
turn-is n last work begun next is =
    let gone = (gone_on n last work.lines begun).stands in
    ap (turn_of_line (shared_in work)) gone
    ∙ ap (λ (x : Next). TurnOf begun.standing.line (owner_for begun.standing.line.number begun.standing.line.request (handle_of begun.standing.line work.handles)) x) (next_seen n last work begun next is)
    ∙ ap (λ o. TurnOf begun.standing.line o next) (sym (owner-seen n last work begun))

pub due_stands : (due : Due) (n : ℕ) (last : Option Told) (work : Work) (s : Standing) (before : Heard) (view : View) → line_at n work.lines ≡ Some s → s.phase ≡ Begun before → view ≡ view_of (shared_in work) s.line →
    DueMeans due (owner_for view.line s.line.request view.handle) (next_of view s.line.request (with_last last before)) →
    DueMeans due (owner_behind n last work) (next_behind n last work)
due_stands due n last work s before view stands phase seen means =
    let begun : HasBegun n work.lines = record { standing = s; stands = stands; heard = before; phase = phase } in
    let behind = subst (λ (v : View). DueMeans due (owner_for v.line s.line.request v.handle) (next_of v s.line.request (with_last last before))) seen means in
    rw (owner-seen n last work begun, next-seen n last work begun) behind

-- whose it is
pub due_whose : (due : Due) (n : ℕ) (work : Work) (s : Standing) (view : View) → line_at n work.lines ≡ Some s → view ≡ view_of (shared_in work) s.line → DueIsOf due view.line s.line.request view.handle → (t : Standing) → line_at n work.lines ≡ Some t → DueIsOf due n t.line.request (handle_of t.line work.handles)
due_whose due n work s view stands seen whose t there =
    let same : Some s ≡ Some t = sym stands ∙ there in
    let is : s ≡ t = cc in
    let here : DueIsOf due s.line.number s.line.request (handle_of s.line work.handles) = subst (λ (v : View). DueIsOf due v.line s.line.request v.handle) seen whose in
    let numbered : DueIsOf due n s.line.request (handle_of s.line work.handles) = subst (λ k. DueIsOf due k s.line.request (handle_of s.line work.handles)) (number-is n work.lines s stands) here in
    subst (λ (x : Standing). DueIsOf due n x.line.request (handle_of x.line work.handles)) is numbered

-- and which line asks
pub due_tells : (due : Due) (n : ℕ) (work : Work) (s : Standing) (view : View) → line_at n work.lines ≡ Some s → view ≡ view_of (shared_in work) s.line → DueTells due view.line → DueTells due n
due_tells due n work s view stands seen tells =
    subst (DueTells due) (number-is n work.lines s stands) (subst (λ (v : View). DueTells due v.line) seen tells)
