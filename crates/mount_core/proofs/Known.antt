-- The journal knows the lines of the script.
use Rattle.std.proofs.Common.{◌≡◌, ℕ, Bool, true, false, eqb, List, [], ◌∷◌, map, Some, refl, subst}
use Rattle.std.proofs.lemmas.Bool.{eqb-true}
use Rattle.mount_model.specs.declared.request.Line.{Line}
use Rattle.mount_model.specs.declared.standing.Phase.{Phase}
use Rattle.mount_model.specs.declared.standing.Standing.{Standing}
use Rattle.mount_model.specs.State.{line_at, change_line}
use Rattle.mount_model.specs.Run.{is_among}
use Rattle.job_table.specs.Journal.{all_known}
use Rattle.mount_core.proofs.Changes.{lines-change}

-- a line of the script is known
pub known_line : (n : ℕ) (known : List ℕ) (lines : List Standing) (s : Standing) → all_known known (map (λ s. s.line) lines) ≡ true → line_at n lines ≡ Some s → is_among n known ≡ true
known_line n known [] s all stands = absurd (cc)
known_line n known (t ∷ lines) s all stands = at_one (eqb t.line.number n) refl (is_among t.line.number known) refl all stands (known_line n known lines s)
  where
    at_one : (b : Bool) → eqb t.line.number n ≡ b → (c : Bool) → is_among t.line.number known ≡ c → all_known known (map (λ s. s.line) (t ∷ lines)) ≡ true → line_at n (t ∷ lines) ≡ Some s → (all_known known (map (λ s. s.line) lines) ≡ true → line_at n lines ≡ Some s → is_among n known ≡ true) → is_among n known ≡ true
    at_one b e false k all stands below = let none : false ≡ true = rw k at all in absurd (cc)
    at_one true e true k all stands below = subst (λ m. is_among m known ≡ true) (eqb-true t.line.number n e) k
    at_one false e true k all stands below =
        let rest : all_known known (map (λ s. s.line) lines) ≡ true = rw k at all in
        let there : line_at n lines ≡ Some s = rw e at stands in
        below rest there

-- lines that go on are known still
pub known-change : (n : ℕ) (f : Phase → Phase) (old new : List ℕ) (lines : List Standing) → new ≡ old → all_known old (map (λ s. s.line) lines) ≡ true → all_known new (map (λ s. s.line) (change_line n f lines)) ≡ true
known-change n f old new lines same all = rw (same, lines-change n f lines) all

-- a journal that begins knows each line of its script
pub known_start : (script given : List Line) (lines : List Standing) (first now : List ℕ) → given ≡ script → map (λ s. s.line) lines ≡ script → now ≡ first → all_known first given ≡ true → all_known now (map (λ s. s.line) lines) ≡ true
known_start script given lines first now is said same all = rw (same, said, ← is) all
