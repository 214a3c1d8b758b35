-- An answer that can't stand in the log is a page.
use Rattle.std.proofs.Common.{◌≡◌, ℕ, Bool, true, false, inr, refl}
use Rattle.bucket_model.specs.declared.call.Call.{Call}
use Rattle.bucket_model.specs.declared.answer.Answer.{Answer}
use Rattle.bucket_model.specs.declared.answer.Answer.TheVariants.{Page, NoMemory}
use Rattle.bucket_model.specs.Answers.{brings_page}
use Rattle.fault_store.specs.declared.faulty.Faulty.{Faulty}
use Rattle.fault_store.specs.Faulty.{Conveys, LosesPage}

loses : {S : Type 0} (Called : ℕ → Answer → S → S → Type 0) (place : ℕ) (said : Answer) (old new : Faulty S) → (brings_page said ≡ false → false ≡ true) → Called place said old.inner new.inner → new.log.items ≡ old.log.items → new.failed ≡ old.failed
    → LosesPage Called NoMemory old new
loses Called place (Page page) old new plain called log failed = record { answer_is = refl; place = place; page = page; called = called; log = log; failed = failed }
loses Called place said old new plain called log failed = let never = plain refl in absurd (cc)

pub conveys_lost : {S : Type 0} (Called : ℕ → Answer → S → S → Type 0) (asked : Call) (hides : Bool) (place : ℕ) (said : Answer) (old new : Faulty S) → hides ≡ false → (brings_page said ≡ false → false ≡ true) → Called place said old.inner new.inner
    → new.log.items ≡ old.log.items → new.failed ≡ old.failed → Conveys Called asked hides NoMemory old new
conveys_lost Called asked hides place said old new shows plain called log failed = rw shows (inr (loses Called place said old new plain called log failed))
