-- A table after a change of one line.
use Rattle.std.proofs.Common.{◌≡◌, ℕ, suc, ◌<◌, ◌≤◌, List, [], ◌∷◌, length, get_or, set, true, Option, Some, slice_get, refl, sym, ap, subst, ◌∙◌, arith}
use Rattle.std.specs.List.{remove}
use Rattle.std.proofs.lemmas.Option.{get_or_from_slice_get, slice_get_within}
use Rattle.mount_model.specs.declared.standing.Told.{Told}
use Rattle.mount_model.specs.Heard.{nothing_heard}
use Rattle.mount_model.specs.declared.request.Line.{Line}
use Rattle.mount_model.specs.declared.standing.Phase.{Phase}
use Rattle.mount_model.specs.declared.standing.Phase.TheVariants.{Begun, Replied}
use Rattle.mount_model.specs.declared.standing.Standing.{Standing}
use Rattle.mount_model.specs.State.{line_at, change_line, heard}
use Rattle.mount_model.specs.Run.{is_among, startable, AreRising}
use Rattle.line_table.specs.Table.{HasBegun, StandsAt, script_of, followers_of, AreAbove, with_follower, open_place, IsTable}
use Rattle.line_table.proofs.Searches.{change_at, find_at, remove_first-at, among_at}
use Rattle.line_table.proofs.Starts.{number_of, rephrase, rising_lines, startable_above, startable_length, begin_numbers, begin_one_each, next_of, next_at, reply_numbers, reply_one_each, hear_numbers, hear_one_each, change_script, change_cases}
use Rattle.line_table.proofs.Opens.{begin_open, hear_open, reply_open}

standing_is : (line line' : Line) (p p' : Phase) → line ≡ line' → p ≡ p' → ◌≡◌ {A = Standing} (record { line = line; phase = p }) (record { line = line'; phase = p' })
standing_is line line' p p' same phase = rw (same, phase)

-- a write at a line's place is the change by its number
pub set_phase : (n : ℕ) (f : Phase → Phase) (lines : List Standing) (i : ℕ) (old new : Standing) → AreRising 0 (script_of lines) → StandsAt n lines i → old ≡ get_or lines i old → new.line ≡ old.line → new.phase ≡ f old.phase → set lines i new ≡ change_line n f lines
set_phase n f lines i old new rising at read line phase =
    let same : old ≡ at.standing = read ∙ get_or_from_slice_get lines i at.standing old at.stands in
    let is : new ≡ rephrase f old = standing_is new.line old.line new.phase (f old.phase) line phase in
    ap (set lines i) (is ∙ ap (rephrase f) same) ∙ sym (change_at number_of 0 n (rephrase f) lines (rising_lines 0 lines rising) i at.standing at.stands at.has_number)

pub change_line-same : (n : ℕ) (lines : List Standing) → change_line n (λ p. p) lines ≡ lines
change_line-same n [] = refl
change_line-same n (s ∷ lines) =
    let below = ap (λ xs. s ∷ xs) (change_line-same n lines) in
    change_cases (λ xs. xs ≡ s ∷ lines) n (λ p. p) s lines below below

pub set_nothing : (n : ℕ) (lines : List Standing) (i : ℕ) (old new : Standing) → AreRising 0 (script_of lines) → StandsAt n lines i → old ≡ get_or lines i old → new.line ≡ old.line → new.phase ≡ old.phase → set lines i new ≡ lines
set_nothing n lines i old new rising at read line phase = set_phase n (λ p. p) lines i old new rising at read line phase ∙ change_line-same n lines

pub find_place : (n : ℕ) (lines : List Standing) (i : ℕ) (s : Standing) → AreRising 0 (script_of lines) → StandsAt n lines i → s ≡ get_or lines i s → line_at n lines ≡ Some s
find_place n lines i s rising at read =
    let same : s ≡ at.standing = read ∙ get_or_from_slice_get lines i at.standing s at.stands in
    find_at number_of 0 n lines (rising_lines 0 lines rising) i at.standing at.stands at.has_number ∙ ap (λ t. Some t) (sym same)

change_length : (n : ℕ) (f : Phase → Phase) (lines : List Standing) → length (change_line n f lines) ≡ length lines
change_length n f [] = refl
change_length n f (s ∷ lines) =
    let below = ap suc (change_length n f lines) in
    change_cases (λ xs. length xs ≡ length (s ∷ lines)) n f s lines below below

module _ (n : ℕ) (lines : List Standing) (followers : List (Option ℕ)) (numbers : List ℕ) (room first : ℕ) (table : IsTable lines followers numbers room first) where
  pub numbers_above : AreAbove 0 numbers
  numbers_above = subst (AreAbove 0) (sym table.may_start) (startable_above [] 0 lines (rising_lines 0 lines table.rising))

  pub hear_table : (told : Told) → IsTable (change_line n (heard told) lines) followers numbers room first
  hear_table told = record {
    rising = subst (AreRising 0) (sym (change_script n (heard told) lines)) table.rising;
    one_each = hear_one_each n told [] lines table.one_each;
    follow = table.follow ∙ ap followers_of (sym (change_script n (heard told) lines));
    may_start = table.may_start ∙ sym (hear_numbers n told [] lines);
    has_room = rw (change_length n (heard told) lines) table.has_room;
    from_open = table.from_open ∙ sym (hear_open n told lines);
  }

  pub begin_table : (at : ℕ) → slice_get numbers at ≡ Some n → IsTable (change_line n (λ phase. Begun nothing_heard) lines) followers (remove numbers at) room first
  begin_table at stands =
      let f : Phase → Phase = λ phase. Begun nothing_heard in
      let rising = rising_lines 0 lines table.rising in
      let among = subst (λ xs. is_among n xs ≡ true) table.may_start (among_at n numbers at stands) in
      record {
        rising = subst (AreRising 0) (sym (change_script n f lines)) table.rising;
        one_each = begin_one_each n 0 [] lines rising among table.one_each;
        follow = table.follow ∙ ap followers_of (sym (change_script n f lines));
        may_start = sym (remove_first-at n 0 numbers numbers_above at stands) ∙ rw table.may_start (sym (begin_numbers n 0 [] lines rising among));
        has_room = rw (change_length n f lines) table.has_room;
        from_open = table.from_open ∙ sym (begin_open n 0 [] lines rising among);
      }

  pub reply_numbers_are : HasBegun n lines → with_follower (next_of n (script_of lines)) numbers ≡ startable (change_line n (λ phase. Replied) lines)
  reply_numbers_are begun = rw table.may_start (sym (reply_numbers n 0 [] lines (rising_lines 0 lines table.rising) table.one_each begun))

  pub reply_room : HasBegun n lines → length (with_follower (next_of n (script_of lines)) numbers) ≤ room
  reply_room begun =
      let replied = change_line n (λ phase. Replied) lines in
      rw (reply_numbers_are begun) (omega (arith, startable_length [] replied, change_length n (λ phase. Replied) lines, table.has_room))

  pub reply_table : HasBegun n lines → (numbers' : List ℕ) (first' : ℕ) → numbers' ≡ with_follower (next_of n (script_of lines)) numbers → first' ≡ open_place (change_line n (λ phase. Replied) lines) → IsTable (change_line n (λ phase. Replied) lines) followers numbers' room first'
  reply_table begun numbers' first' put moved =
      let f : Phase → Phase = λ phase. Replied in
      record {
        rising = subst (AreRising 0) (sym (change_script n f lines)) table.rising;
        one_each = reply_one_each n 0 [] lines (rising_lines 0 lines table.rising) table.one_each begun;
        follow = table.follow ∙ ap followers_of (sym (change_script n f lines));
        may_start = put ∙ reply_numbers_are begun;
        has_room = rw (change_length n f lines) table.has_room;
        from_open = moved;
      }

  -- the tables that the code leaves

  pub begin_kept : (i at : ℕ) (old new : Standing) (numbers' : List ℕ) (room' : ℕ) → StandsAt n lines i → old ≡ get_or lines i old → new.line ≡ old.line → new.phase ≡ Begun nothing_heard → slice_get numbers at ≡ Some n → numbers' ≡ remove numbers at → room' ≡ room → IsTable (set lines i new) followers numbers' room' first
  begin_kept i at old new numbers' room' place read line phase stands removed same = rw (set_phase n (λ phase. Begun nothing_heard) lines i old new table.rising place read line phase, removed, same) (begin_table at stands)

  pub reply_kept : (i : ℕ) (old new : Standing) (numbers' : List ℕ) (room' first' : ℕ) → StandsAt n lines i → HasBegun n lines → old ≡ get_or lines i old → new.line ≡ old.line → new.phase ≡ Replied → numbers' ≡ with_follower (next_of n (script_of lines)) numbers → room' ≡ room → first' ≡ open_place (set lines i new) → IsTable (set lines i new) followers numbers' room' first'
  reply_kept i old new numbers' room' first' place begun read line phase put same moved =
      let is = set_phase n (λ phase. Replied) lines i old new table.rising place read line phase in
      rw (is, same) (reply_table begun numbers' first' put (rw is at moved))

  -- the follower at the line's place
  pub follower_is : (i : ℕ) (follower : Option ℕ) → StandsAt n lines i → slice_get followers i ≡ Some follower → follower ≡ next_of n (script_of lines)
  follower_is i follower place stands =
      let next : slice_get followers i ≡ Some (next_of n (script_of lines)) = rw table.follow (next_at n 0 lines (rising_lines 0 lines table.rising) i place.standing place.stands place.has_number) in
      cc

  pub follower_within : (i : ℕ) → StandsAt n lines i → i < length followers
  follower_within i place = slice_get_within followers i (next_of n (script_of lines)) (rw table.follow (next_at n 0 lines (rising_lines 0 lines table.rising) i place.standing place.stands place.has_number))

  pub reply_moves : (i : ℕ) (old new : Standing) → StandsAt n lines i → old ≡ get_or lines i old → new.line ≡ old.line → new.phase ≡ Replied → first ≤ open_place (set lines i new)
  reply_moves i old new place read line phase = rw (set_phase n (λ phase. Replied) lines i old new table.rising place read line phase, table.from_open) (reply_open n lines)
