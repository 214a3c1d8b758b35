-- The numbers of the jobs that are ready.
use Rattle.std.specs.Prelude.{◌≡◌, ℕ, ◌≤◌, List, Bool, true, ◌&&◌, not, filter, ◌==◌}
use Rattle.std.specs.List.{list_any}

-- all of them, in order, and those of writers' jobs, each behind the line that opened the writer
pub record ReadyNumbers : Type 0 where
  pub numbers : List ℕ
  pub of_writers : List (ℕ × ℕ)

-- whether this number stands behind this line
abbrev pub stands_behind : ℕ → ℕ → List (ℕ × ℕ) → Bool
stands_behind line number pairs = list_any (λ (p : ℕ × ℕ). (p.0 == line) && (p.1 == number)) pairs

-- the least number behind a line
pub record IsLeastBehind (line : ℕ) (pairs : List (ℕ × ℕ)) (number : ℕ) : Type 0 where
  pub stands : stands_behind line number pairs ≡ true
  pub least : (n : ℕ) → stands_behind line n pairs ≡ true → number ≤ n

abbrev pub without_number : ℕ → List ℕ → List ℕ
without_number number numbers = filter (λ n. not (n == number)) numbers
