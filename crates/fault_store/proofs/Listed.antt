-- Which entry of a list of faults counts.
use Rattle.std.proofs.Common.{◌≡◌, ℕ, ◌<◌, Bool, true, false, cond, List, [], ◌∷◌, ◌++◌, Option, Some, refl, sym, ap, ◌∙◌, arith, nat_cmp, is_eq, Ordering, Less, Equal, Greater, eq-eqb}
use Rattle.std.specs.Option.{option_or}
use Rattle.std.specs.Ordering.{MatchOrdering}
use Rattle.std.specs.Prelude.{nat_eq}
use Rattle.std.proofs.lemmas.Bool.Decides.{nat_tests}
use Rattle.std.proofs.lemmas.Cmp.{ranked}
use Rattle.fault_store.specs.declared.faulty.When.{When}
use Rattle.fault_store.specs.Faulty.{first_listed}

-- an entry behind others counts where none of them does
pub first_listed-push : (number at : ℕ) (when : When) (faults : List (ℕ × When)) (later : Option When)
    → option_or (first_listed number (faults ++ (at, when) ∷ [])) later ≡ option_or (first_listed number faults) (cond (nat_eq at number) (Some when) later)
first_listed-push number at when [] later = by_test (nat_eq at number) refl
  where
    by_test : (b : Bool) → nat_eq at number ≡ b → option_or (first_listed number ((at, when) ∷ [])) later ≡ cond (nat_eq at number) (Some when) later
    by_test true e = rw e refl
    by_test false e = rw e refl
first_listed-push number at when (entry ∷ faults) later = by_test (nat_eq entry.0 number) refl (first_listed-push number at when faults later)
  where
    by_test : (b : Bool) → nat_eq entry.0 number ≡ b
        → option_or (first_listed number (faults ++ (at, when) ∷ [])) later ≡ option_or (first_listed number faults) (cond (nat_eq at number) (Some when) later)
        → option_or (first_listed number (entry ∷ faults ++ (at, when) ∷ [])) later ≡ option_or (first_listed number (entry ∷ faults)) (cond (nat_eq at number) (Some when) later)
    by_test true e rest = rw e refl
    by_test false e rest = rw e rest

-- the map's test of a key
pub same_test : (o : Ordering) (a b : ℕ) → MatchOrdering o (a < b) (a ≡ b) (b < a) → is_eq o ≡ nat_eq a b
same_test Less a b ranks = grind (arith, nat_tests)
same_test Equal a b ranks = sym (eq-eqb a b ranks)
same_test Greater a b ranks = grind (arith, nat_tests)

-- the last entry of a list goes into the map in front of those behind it
pub listed_next : (number at : ℕ) (when : When) (all faults rest : List (ℕ × When)) (before later : Option When) → first_listed number all ≡ option_or (first_listed number faults) before → faults ≡ rest ++ (at, when) ∷ []
    → later ≡ cond (is_eq (nat_cmp at number)) (Some when) before → first_listed number all ≡ option_or (first_listed number rest) later
listed_next number at when all faults rest before later so_far last puts =
    so_far ∙ ap (λ fs. option_or (first_listed number fs) before) last ∙ first_listed-push number at when rest before
    ∙ ap (λ b. option_or (first_listed number rest) (cond b (Some when) before)) (sym (same_test (nat_cmp at number) at number (ranked at number _ refl)))
    ∙ ap (option_or (first_listed number rest)) (sym puts)
