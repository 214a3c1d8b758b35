-- Own marks stay as more is seen, and rise.
use Rattle.std.proofs.Common.{◌≡◌, ℕ, zero, suc, ◌+◌, ◌<◌, Bool, true, false, cond, List, [], ◌∷◌, ◌++◌, length, Option, refl, sym, ap, ◌∙◌, append_assoc, arith, leb}
use Rattle.std.specs.Prelude.{slice_get}
use Rattle.std.proofs.lemmas.List.{map-append}
use Rattle.mp_types.proofs.Lists.{slice_get-seam}
use Rattle.bucket_model.specs.declared.call.Call.{Call}
use Rattle.bucket_model.specs.declared.answer.Answer.{Answer}
use Rattle.bucket_model.specs.declared.answer.Brief.{Brief}
use Rattle.bucket_model.specs.declared.history.Logged.{Logged}
use Rattle.bucket_model.specs.Answers.{brief_of, is_counted, kind_of}
use Rattle.bucket_model.specs.History.{HasEntry}
use Rattle.store_trait.specs.Passes.{AddsMark, AreRisingMarks, GoesOn, Mark, RiseFrom, SeesCall, merged_marks, with_mark}
use Rattle.turn_lock.specs.Seats.{SeatOf, own, seen}
use Rattle.turn_lock.specs.Seen.{IsOwn, IsPrefix, RiseWithin, merged, with_place}
use Rattle.turn_lock.proofs.Lists.{own_more, own_same}
use Rattle.shared_bucket.specs.Known.{kind_in, marks_at}
use Rattle.shared_bucket.specs.Turned.{Calls}

front_stays : (log more : List Logged) (place : ℕ) → place < length log → slice_get (log ++ more) place ≡ slice_get log place
front_stays [] more place below = absurd (omega arith)
front_stays (first ∷ log) more zero below = refl
front_stays (first ∷ log) more (suc place) below = front_stays log more place (omega arith)

marks_more : (old new : List Logged) (low : ℕ) (places : List ℕ) → IsPrefix old new → RiseWithin low (length old) places → marks_at new places ≡ marks_at old places
marks_more old new low [] front rise = refl
marks_more old new low (place ∷ places) front rise =
    let same : slice_get new place ≡ slice_get old place = ap (λ (log : List Logged). slice_get log place) (sym front.1) ∙ front_stays old front.0 place rise.1 in
    ap (λ (at : Option Logged). (place, kind_in at) ∷ marks_at new places) same ∙ ap (λ (marks : List Mark). (place, kind_in (slice_get old place)) ∷ marks) (marks_more old new (place + 1) places front rise.2)

marks_rise : (log : List Logged) (low high : ℕ) (places : List ℕ) → RiseWithin low high places → RiseFrom low (marks_at log places)
marks_rise log low high [] rise = tt
marks_rise log low high (place ∷ places) rise = (rise.0, marks_rise log (place + 1) high places rise.2)

pub rising_marks : (log : List Logged) (places : List ℕ) → IsOwn places log → AreRisingMarks (marks_at log places)
rising_marks log places rise = marks_rise log 0 (length log) places rise

marks_with : (log : List Logged) (place : ℕ) (places : List ℕ) → marks_at log (with_place place places) ≡ with_mark (place, kind_in (slice_get log place)) (marks_at log places)
marks_with log place [] = refl
marks_with log place (first ∷ places) = by_test (leb place first) (marks_with log place places)
  where
    by_test : (b : Bool) → marks_at log (with_place place places) ≡ with_mark (place, kind_in (slice_get log place)) (marks_at log places)
        → marks_at log (cond b (place ∷ first ∷ places) (first ∷ with_place place places))
        ≡ cond b ((place, kind_in (slice_get log place)) ∷ marks_at log (first ∷ places)) ((first, kind_in (slice_get log first)) ∷ with_mark (place, kind_in (slice_get log place)) (marks_at log places))
    by_test true behind = refl
    by_test false behind = ap (λ (marks : List Mark). (first, kind_in (slice_get log first)) ∷ marks) behind

marks_merged : (log : List Logged) (places others : List ℕ) → marks_at log (merged places others) ≡ merged_marks (marks_at log places) (marks_at log others)
marks_merged log [] others = refl
marks_merged log (first ∷ places) others = marks_with log first (merged places others) ∙ ap (λ (marks : List Mark). with_mark (first, kind_in (slice_get log first)) marks) (marks_merged log places others)

-- the marks of who met another
pub marks_met : (old other new : List Logged) (places others : List ℕ) → IsPrefix old new → IsPrefix other new → IsOwn places old → IsOwn others other
    → marks_at new (merged places others) ≡ merged_marks (marks_at old places) (marks_at other others)
marks_met old other new places others front front' rise rise' =
    marks_merged new places others ∙ ap (λ (marks : List Mark). merged_marks marks (marks_at new others)) (marks_more old new 0 places front rise) ∙ ap (λ (marks : List Mark). merged_marks (marks_at old places) marks) (marks_more other new 0 others front' rise')

marks_pushed : (old before after : List Logged) (entry : Logged) (places : List ℕ) → IsPrefix old before → IsOwn places old → after ≡ before ++ entry ∷ []
    → marks_at after (places ++ length before ∷ []) ≡ marks_at old places ++ (length before, kind_of entry.entry.answer) ∷ []
marks_pushed old before after entry places front rise is =
    let further : IsPrefix old after = (front.0 ++ entry ∷ [], sym (append_assoc old front.0 (entry ∷ [])) ∙ ap (λ (log : List Logged). log ++ entry ∷ []) front.1 ∙ sym is) in
    map-append (λ place. (place, kind_in (slice_get after place))) places (length before ∷ [])
    ∙ ap (λ (marks : List Mark). marks ++ (length before, kind_in (slice_get after (length before))) ∷ []) (marks_more old after 0 places further rise)
    ∙ ap (λ (at : Option Logged). marks_at old places ++ (length before, kind_in at) ∷ []) (ap (λ (log : List Logged). slice_get log (length before)) is ∙ slice_get-seam before [] entry)

module _ {T : Type 0} (asked : Call) (position : ℕ) (answer : Answer) (count : ℕ) (old new : SeatOf T Logged (Unit {0})) (calls : Calls asked position answer count old new) where
  pub adds_mark : IsOwn (own old) (seen old) → AddsMark position (brief_of answer) (marks_at (seen old) (own old)) (marks_at (seen new) (own new))
  adds_mark rise = by_test (is_counted (brief_of answer)) refl
    where
      by_test : (b : Bool) → is_counted (brief_of answer) ≡ b → marks_at (seen new) (own new) ≡ cond b (marks_at (seen old) (own old) ++ (position, kind_of (brief_of answer)) ∷ []) (marks_at (seen old) (own old))
      by_test true counts =
          let adds = calls.goes.adds counts in
          ap (λ places. marks_at (seen new) places) (calls.own_is ∙ own_more (own old) calls.meanwhile (seen new) adds.own adds.log)
          ∙ marks_pushed (seen old) calls.meanwhile (seen new) adds.own (own old) calls.begins rise adds.log
          ∙ ap (λ (n : ℕ). marks_at (seen old) (own old) ++ (n, kind_of adds.own.entry.answer) ∷ []) (sym adds.at_end) ∙ ap (λ (brief : Brief). marks_at (seen old) (own old) ++ (position, kind_of brief) ∷ []) adds.answers
      by_test false none =
          let same = calls.goes.none none in
          ap (λ places. marks_at (seen new) places) (calls.own_is ∙ own_same (own old) calls.meanwhile (seen new) same) ∙ marks_more (seen old) (seen new) 0 (own old) (calls.begins.0, calls.begins.1 ∙ sym same) rise

  goes_on : GoesOn (seen old) (seen new)
  goes_on = by_test (is_counted (brief_of answer)) refl
    where
      by_test : (b : Bool) → is_counted (brief_of answer) ≡ b → GoesOn (seen old) (seen new)
      by_test true counts =
          let adds = calls.goes.adds counts in
          (calls.begins.0 ++ adds.own ∷ [], adds.log ∙ ap (λ (log : List Logged). log ++ adds.own ∷ []) (sym calls.begins.1) ∙ append_assoc (seen old) calls.begins.0 (adds.own ∷ []))
      by_test false none = (calls.begins.0, calls.goes.none none ∙ sym calls.begins.1)

  has_entry : is_counted (brief_of answer) ≡ true → HasEntry (seen new) position asked (brief_of answer)
  has_entry counts =
      let adds = calls.goes.adds counts in
      record {
        logged = adds.own;
        stands = ap (λ (log : List Logged). slice_get log position) adds.log ∙ ap (λ (n : ℕ). slice_get (calls.meanwhile ++ adds.own ∷ []) n) adds.at_end ∙ slice_get-seam calls.meanwhile [] adds.own;
        call = adds.asks;
        brief = adds.answers;
      }

  pub sees_call : SeesCall asked position (brief_of answer) (seen old) (seen new)
  sees_call = record { goes_on = goes_on; entry = has_entry }
