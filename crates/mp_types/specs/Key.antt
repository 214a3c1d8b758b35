-- Keys: UTF-8 text of 1 to 1,024 bytes, as Amazon S3 allows. A path has at most as many behind its first `/`.
use Rattle.std.specs.Prelude.{ℕ, ◌<◌, ◌≤◌, List, length}

abbrev pub max_key_length : ℕ
max_key_length = 1024

-- as long as a key may be
abbrev pub IsKeyText : List ℕ → Type 0
IsKeyText text = (0 < length text) × (length text ≤ max_key_length)
