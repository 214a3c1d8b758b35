-- Where the part that is due stands among the bytes.
use Rattle.std.specs.Prelude.{◌≡◌, ℕ, ◌+◌, ◌*◌, List, length, min, slice_range}
use Rattle.upload_rules.specs.Upload.{next_part}
use Rattle.upload_rules.specs.Run.{Happening, upload_after, bytes_taken}

-- Behind so many parts comes the next one, from where they end to where it is full, or to where the bytes end.
pub record HasItsPlace (part : ℕ) (happenings : List Happening) (number from to : ℕ) : Type 0 where
  pub number_is : number ≡ (upload_after part happenings).asked + 1
  pub from_is : from ≡ (upload_after part happenings).asked * part
  pub to_is : to ≡ min (((upload_after part happenings).asked + 1) * part) (length (bytes_taken happenings))
  pub bytes_are : next_part (upload_after part happenings) ≡ slice_range (bytes_taken happenings) from to
