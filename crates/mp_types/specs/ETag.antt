-- Which texts are ETags here: 1 to 64 bytes, each plain and other than `:`.
use Rattle.std.specs.Prelude.{ℕ, Bool, List, length, not, ◌&&◌, ◌==◌, nat_le}
use Rattle.std.specs.List.{list_all}
use Rattle.mp_types.specs.Plain.{is_plain}

abbrev pub is_etag_byte : ℕ → Bool
is_etag_byte byte = is_plain byte && not (byte == 58)

abbrev pub is_etag : List ℕ → Bool
is_etag bytes = not (length bytes == 0) && nat_le (length bytes) 64 && list_all is_etag_byte bytes
