-- How a table keeps its jobs.
use Rattle.std.specs.Prelude.{◌≡◌, ℕ, ◌<◌, ◌≤◌, List, [], ◌∷◌, map}
use Rattle.mount_model.specs.Run.{is_among}
use Rattle.job_table.specs.declared.jobs.Live.{Live}
use Rattle.job_table.specs.LiveJobs.{Held, ready_numbers, ready_of_writer}
use Rattle.job_table.specs.ReadyNumbers.{ReadyNumbers, stands_behind}

abbrev pub held_entry : ℕ × Live → Held
held_entry e = record { number = e.0; owner = e.1.owner; line = e.1.line; call = e.1.call; purpose = e.1.purpose }

abbrev pub held_in : List (ℕ × Live) → List Held
held_in entries = map held_entry entries

-- the numbers rise, from above the first on, and none is above the last
abbrev pub IsBetween : ℕ → List Held → ℕ → Type 0
IsBetween first [] last = first ≤ last
IsBetween first (h ∷ held) last = (first < h.number) × IsBetween h.number held last

pub record IsKept (entries : List (ℕ × Live)) (ready : ReadyNumbers) (count : ℕ) : Type 0 where
  pub rises : IsBetween 0 (held_in entries) count
  pub numbers : ready.numbers ≡ ready_numbers (held_in entries)
  pub of_writers : (line number : ℕ) → stands_behind line number ready.of_writers ≡ is_among number (ready_of_writer line (held_in entries))
