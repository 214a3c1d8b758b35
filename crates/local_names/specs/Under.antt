-- Which keys lie above which, with the empty one treated as all others are.
use Rattle.std.specs.Prelude.{◌≡◌, ◌<◌, ◌||◌, length, ℕ, Bool, List, if◌then◌else◌}
use Rattle.std.specs.Str.{bytes_eq}
use Rattle.mp_rules.specs.Keys.{is_under}

-- above the first key stand the second one, and what stands above that
pub record IsParent (key above : List ℕ) : Type 0 where
  pub shorter : length above < length key
  pub over : (q : List ℕ) → is_under key q ≡ (bytes_eq above q || is_under above q)

abbrev pub one : Bool → ℕ
one b = if b then 1 else 0
