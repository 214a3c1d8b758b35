-- What a reader of a directory has read of some answers are their pages.
use Rattle.std.proofs.Common.{◌≡◌, List, [], ◌∷◌, fold, refl}
use Rattle.bucket_model.specs.declared.answer.Brief.{Brief}
use Rattle.bucket_model.specs.declared.answer.Brief.TheVariants as answer
use Rattle.mount_model.specs.Conversation.{pages_in}
use Rattle.dir_reader.specs.Gathered.{Gathered, with_page}
use Rattle.mount_core.specs.Listing.{with_answer}

pub pages-read : (gathered : Gathered) (answers : List Brief) → fold with_answer gathered answers ≡ fold with_page gathered (pages_in answers)
pages-read gathered [] = refl
pages-read gathered (answer.Page page ∷ answers) = pages-read (with_page gathered page) answers
pages-read gathered (answer.Found etag size ∷ answers) = pages-read gathered answers
pages-read gathered (answer.Missing ∷ answers) = pages-read gathered answers
pages-read gathered (answer.Yes ∷ answers) = pages-read gathered answers
pages-read gathered (answer.No ∷ answers) = pages-read gathered answers
pages-read gathered (answer.Bytes count ∷ answers) = pages-read gathered answers
pages-read gathered (answer.Changed ∷ answers) = pages-read gathered answers
pages-read gathered (answer.Gone ∷ answers) = pages-read gathered answers
pages-read gathered (answer.Made etag ∷ answers) = pages-read gathered answers
pages-read gathered (answer.Upload upload ∷ answers) = pages-read gathered answers
pages-read gathered (answer.Stored ∷ answers) = pages-read gathered answers
pages-read gathered (answer.NoUpload ∷ answers) = pages-read gathered answers
pages-read gathered (answer.Fault ∷ answers) = pages-read gathered answers
pages-read gathered (answer.NoMemory ∷ answers) = pages-read gathered answers
