-- Bytes cut at their first separator.
use Rattle.std.proofs.Common.{◌≡◌, ◌≢◌, ℕ, zero, suc, ◌+◌, ◌-◌, ◌<◌, ◌≤◌, Bool, true, false, cond, ◌&&◌, ◌||◌, eqb, ltb, List, [], ◌∷◌, ◌++◌, length, take, drop, get_or, refl, sym, ap, ◌∙◌, arith, add-one, drop-cons, eqb-true, eq-eqb, lit<}
use Rattle.std.proofs.Math.Dec.{eqb-suc-zero}
use Rattle.std.specs.List.{list_any, slice_split, onto_first}
use Rattle.std.proofs.lemmas.Bool.{ne_eqb, lt-ltb, false_from_ne_true}
use Rattle.std.proofs.lemmas.List.{take_rest, take-append-drop, length-take, get_or-take, get_or_default}
use Rattle.std.proofs.lemmas.List.Folds.{list_any_none}
use Rattle.memchr.specs.Find.{OccursAt}
use Rattle.mp_script.specs.ScriptText.{lines_of}
use Rattle.mp_script.specs.ScriptText.{words_of}
use Rattle.mp_script.specs.Words.{has, parts_of, has_empty}

pub not_found : (separator : ℕ) (text : List ℕ) → ((k : ℕ) → 0 ≤ k → k < length text → eqb (get_or text k 0) separator ≡ true → ⊥) → has separator text ≡ false
not_found separator text none = list_any_none (λ byte. eqb byte separator) text
    (λ k d lt. let same : get_or text k d ≡ get_or text k 0 = get_or_default text k d 0 lt in rw same (false_from_ne_true (eqb (get_or text k 0) separator) (none k (omega arith) lt)))

pub none_before : (separator at : ℕ) (text : List ℕ) → at < length text → ((k : ℕ) → 0 ≤ k → k < at → eqb (get_or text k 0) separator ≡ true → ⊥) → has separator (take at text) ≡ false
none_before separator at text lt none = not_found separator (take at text)
    (λ k low k-lt is. let below : k < at = omega (arith, length-take at text) in none k low below (sym (ap (λ (byte : ℕ). eqb byte separator) (get_or-take at text k 0 below)) ∙ is))

-- where a search stopped
pub found : (separator at : ℕ) (text before rest : List ℕ) → before ≡ take at text → rest ≡ drop at text → at < length text → eqb (get_or text at 0) separator ≡ true
    → ((k : ℕ) → 0 ≤ k → k < at → eqb (get_or text k 0) separator ≡ true → ⊥) → (text ≡ before ++ separator ∷ take (length rest - 1) (drop 1 rest)) × (has separator before ≡ false)
found separator at text before rest front back lt is none =
    let here : get_or text at 0 ≡ separator = eqb-true _ _ is in
    let behind : drop at text ≡ separator ∷ drop (at + 1) text = drop-cons text at 0 lt ∙ rw (here, add-one) refl in
    let last : take (length rest - 1) (drop 1 rest) ≡ drop (at + 1) text = take_rest rest 1 ∙ rw (back, behind) refl in
    let parts : text ≡ take at text ++ separator ∷ drop (at + 1) text = sym (take-append-drop at text) ∙ ap (λ (t : List ℕ). take at text ++ t) behind in
    (rw (front, last) parts, rw front (none_before separator at text lt none))

-- ---- the words

pub split_one : (separator : ℕ) (text : List ℕ) → has separator text ≡ false → slice_split (λ byte. eqb byte separator) text ≡ text ∷ []
split_one separator [] none = refl
split_one separator (byte ∷ text) none = step (eqb byte separator) none (split_one separator text)
  where
    step : (b : Bool) → (b || has separator text) ≡ false → (has separator text ≡ false → slice_split (λ byte. eqb byte separator) text ≡ text ∷ [])
        → cond b ([] ∷ slice_split (λ byte. eqb byte separator) text) (onto_first byte (slice_split (λ byte. eqb byte separator) text)) ≡ (byte ∷ text) ∷ []
    step true h rest = absurd (cc)
    step false h rest = rw (rest h) refl

pub split_cut : (separator : ℕ) (before after : List ℕ) → has separator before ≡ false → slice_split (λ byte. eqb byte separator) (before ++ separator ∷ after) ≡ before ∷ slice_split (λ byte. eqb byte separator) after
split_cut separator [] after none = rw (eq-eqb separator separator refl) refl
split_cut separator (byte ∷ before) after none = step (eqb byte separator) none (split_cut separator before after)
  where
    step : (b : Bool) → (b || has separator before) ≡ false → (has separator before ≡ false → slice_split (λ byte. eqb byte separator) (before ++ separator ∷ after) ≡ before ∷ slice_split (λ byte. eqb byte separator) after)
        → cond b ([] ∷ slice_split (λ byte. eqb byte separator) (before ++ separator ∷ after)) (onto_first byte (slice_split (λ byte. eqb byte separator) (before ++ separator ∷ after))) ≡ (byte ∷ before) ∷ slice_split (λ byte. eqb byte separator) after
    step true h rest = absurd (cc)
    step false h rest = rw (rest h) refl

pub split_parts : (separator : ℕ) (text before after : List ℕ) → text ≡ before ++ separator ∷ after → has separator before ≡ false
    → slice_split (λ byte. eqb byte separator) text ≡ before ∷ slice_split (λ byte. eqb byte separator) after
split_parts separator text before after e none = rw e (split_cut separator before after none)

-- a text has a first word
pub record HasFirst (parts : List (List ℕ)) : Type 0 where
  pub first : List ℕ
  pub others : List (List ℕ)
  pub is_parted : parts ≡ first ∷ others

pub has_first : (separator : ℕ) (text : List ℕ) → HasFirst (slice_split (λ byte. eqb byte separator) text)
has_first separator [] = record { first = []; others = []; is_parted = refl }
has_first separator (byte ∷ text) = step (eqb byte separator) (slice_split (λ byte. eqb byte separator) text)
  where
    step : (b : Bool) (parts : List (List ℕ)) → HasFirst (cond b ([] ∷ parts) (onto_first byte parts))
    step true parts = record { first = []; others = parts; is_parted = refl }
    step false [] = record { first = byte ∷ []; others = []; is_parted = refl }
    step false (part ∷ parts) = record { first = byte ∷ part; others = parts; is_parted = refl }

-- ---- empty words

abbrev behind_first : List (List ℕ) → Bool
behind_first [] = false
behind_first (word ∷ words) = list_any (λ word. eqb (length word) 0) words

begun : (byte : ℕ) (words : List (List ℕ)) → HasFirst words → behind_first words ≡ list_any (λ word. eqb (length word) 0) (onto_first byte words)
begun byte words first = rw (first.is_parted, eqb-suc-zero (length first.first)) refl

begun_first : (byte : ℕ) (words : List (List ℕ)) → HasFirst words → behind_first words ≡ behind_first (onto_first byte words)
begun_first byte words first = rw first.is_parted refl

-- whether an empty word stands in the line, where a word begins here, or has begun before
abbrev pub empties : Bool → List ℕ → Bool
empties at_start [] = at_start
empties at_start (byte ∷ bytes) = (eqb byte 32 && at_start) || empties (eqb byte 32) bytes

has_empty-is : (line : List ℕ) → (empties true line ≡ has_empty line) × (empties false line ≡ behind_first (words_of line))
has_empty-is [] = (refl, refl)
has_empty-is (byte ∷ bytes) = step (eqb byte 32) (has_first 32 bytes) (has_empty-is bytes)
  where
    step : (b : Bool) → HasFirst (words_of bytes) → (empties true bytes ≡ has_empty bytes) × (empties false bytes ≡ behind_first (words_of bytes))
        → (((b && true) || empties b bytes) ≡ list_any (λ word. eqb (length word) 0) (cond b ([] ∷ words_of bytes) (onto_first byte (words_of bytes))))
        × (((b && false) || empties b bytes) ≡ behind_first (cond b ([] ∷ words_of bytes) (onto_first byte (words_of bytes))))
    step true first h = (refl, h.0)
    step false first h = (h.1 ∙ begun byte (words_of bytes) first, h.1 ∙ begun_first byte (words_of bytes) first)

either_true : (a b : Bool) → b ≡ true → (a || b) ≡ true
either_true true b h = refl
either_true false b h = h

-- a space at the end
ends : (at_start : Bool) (k : ℕ) (line : List ℕ) → k + 1 ≡ length line → get_or line k 0 ≡ 32 → empties at_start line ≡ true
ends at_start k [] last is = absurd (omega arith)
ends at_start zero (byte ∷ []) last is = rw is (either_true at_start true refl)
ends at_start zero (byte ∷ next ∷ bytes) last is = absurd (omega arith)
ends at_start (suc k) (byte ∷ bytes) last is = either_true (eqb byte 32 && at_start) (empties (eqb byte 32) bytes) (ends (eqb byte 32) k bytes (omega arith) is)

pub ends_empty : (line : List ℕ) → 0 < length line → get_or line (length line - 1) 0 ≡ 32 → has_empty line ≡ true
ends_empty line some is = sym (has_empty-is line).0 ∙ ends true (length line - 1) line (omega arith) is

-- two spaces in a row
pair : (at_start : Bool) (k : ℕ) (line : List ℕ) → k + 1 < length line → get_or line k 0 ≡ 32 → get_or line (suc k) 0 ≡ 32 → empties at_start line ≡ true
pair at_start k [] lt first second = absurd (omega arith)
pair at_start k (byte ∷ []) lt first second = absurd (omega arith)
pair at_start zero (byte ∷ next ∷ bytes) lt first second = rw (first, second) (either_true at_start true refl)
pair at_start (suc k) (byte ∷ next ∷ bytes) lt first second =
    either_true (eqb byte 32 && at_start) (empties (eqb byte 32) (next ∷ bytes)) (pair (eqb byte 32) k (next ∷ bytes) (omega arith) first second)

pub pair_empty : (line : List ℕ) (k : ℕ) → OccursAt line (32 ∷ 32 ∷ []) k → has_empty line ≡ true
pair_empty line k occurs =
    let here : k + 0 ≡ k = omega arith in
    let first : get_or line k 0 ≡ 32 = rw here at (occurs.reads 0 (lit< tt)) in
    let second : get_or line (suc k) 0 ≡ 32 = rw add-one at (occurs.reads 1 (lit< tt)) in
    sym (has_empty-is line).0 ∙ pair true k line (omega (arith, occurs.fits)) first second

occurs : (line : List ℕ) (k : ℕ) → k + 1 < length line → get_or line k 0 ≡ 32 → get_or line (suc k) 0 ≡ 32 → OccursAt line (32 ∷ 32 ∷ []) k
occurs line k lt first second = record { fits = omega arith; reads = reads }
  where
    reads : (j : ℕ) → j < 2 → get_or line (k + j) 0 ≡ get_or (32 ∷ 32 ∷ []) j 0
    reads zero within = let here : k + 0 ≡ k = omega arith in rw here first
    reads (suc zero) within = rw add-one second
    reads (suc (suc j)) within = absurd (omega arith)

-- no space at an end, and no two in a row
none : (at_start : Bool) (line : List ℕ) → 0 < length line → (at_start ≡ true → get_or line 0 0 ≡ 32 → ⊥) → ((k : ℕ) → k + 1 < length line → get_or line k 0 ≡ 32 → get_or line (suc k) 0 ≡ 32 → ⊥)
    → ((k : ℕ) → k + 1 ≡ length line → get_or line k 0 ≡ 32 → ⊥) → empties at_start line ≡ false
none at_start [] some start between end = absurd (omega arith)
none at_start (byte ∷ []) some start between end = let last : eqb byte 32 ≡ false = ne_eqb byte 32 (end 0 (omega arith)) in rw last refl
none at_start (byte ∷ next ∷ bytes) some start between end =
    let here : (eqb byte 32 && at_start) ≡ false = step (eqb byte 32) at_start (eqb-true byte 32) start in
    rw here (none (eqb byte 32) (next ∷ bytes) (omega arith) (λ is second. between 0 (omega arith) (eqb-true byte 32 is) second) (λ k lt first second. between (suc k) (omega arith) first second) (λ k last is. end (suc k) (omega arith) is))
  where
    step : (b s : Bool) → (b ≡ true → byte ≡ 32) → (s ≡ true → byte ≡ 32 → ⊥) → (b && s) ≡ false
    step true true is never = absurd (never refl (is refl))
    step true false is never = refl
    step false s is never = refl

pub none_empty : (line : List ℕ) → 0 < length line → (get_or line 0 0 ≡ 32 → ⊥) → (get_or line (length line - 1) 0 ≡ 32 → ⊥) → ((k : ℕ) → 0 ≤ k → k < length line + 1 → OccursAt line (32 ∷ 32 ∷ []) k → ⊥) → has_empty line ≡ false
none_empty line some start end between =
    sym (has_empty-is line).0
    ∙ none true line some (λ at_start is. start is) (λ k lt first second. between k (omega arith) (omega arith) (occurs line k lt first second))
    (λ k last is. let same : k ≡ length line - 1 = omega arith in end (rw same at is))

-- ---- known counts of parts

pub one_part : (separator : ℕ) (text : List ℕ) (n : ℕ) → has separator text ≡ false → 1 < n → length (parts_of separator text) ≢ n
one_part separator text n none lt is = let one : length (parts_of separator text) ≡ 1 = rw (split_one separator text none) refl in absurd (omega arith)

pub one_more : (separator : ℕ) (text before after : List ℕ) → text ≡ before ++ separator ∷ after → has separator before ≡ false → length (parts_of separator text) ≢ 1
one_more separator text before after e none is =
    let more = has_first separator after in
    let two : length (parts_of separator text) ≡ suc (suc (length more.others)) = rw (split_parts separator text before after e none, more.is_parted) refl in
    absurd (omega arith)

-- one part more than behind the first
pub other_count : (separator : ℕ) (text before after : List ℕ) (n : ℕ) → text ≡ before ++ separator ∷ after → has separator before ≡ false → length (parts_of separator after) ≢ n → length (parts_of separator text) ≢ n + 1
other_count separator text before after n e none other is =
    let one : length (parts_of separator text) ≡ suc (length (parts_of separator after)) = rw (split_parts separator text before after e none) refl in
    other (omega arith)

pub parts_are : (separator : ℕ) (text before after : List ℕ) (parts : List (List ℕ)) → text ≡ before ++ separator ∷ after → has separator before ≡ false → parts_of separator after ≡ parts → parts_of separator text ≡ before ∷ parts
parts_are separator text before after parts e none are = split_parts separator text before after e none ∙ ap (λ (t : List (List ℕ)). before ∷ t) are

-- ---- the lines

pub line_cut : (before after : List ℕ) → has 10 before ≡ false → lines_of (before ++ 10 ∷ after) ≡ before ∷ lines_of after
line_cut [] after none = refl
line_cut (byte ∷ before) after none = step (eqb byte 10) none (line_cut before after)
  where
    step : (b : Bool) → (b || has 10 before) ≡ false → (has 10 before ≡ false → lines_of (before ++ 10 ∷ after) ≡ before ∷ lines_of after)
        → cond b ([] ∷ lines_of (before ++ 10 ∷ after)) (onto_first byte (lines_of (before ++ 10 ∷ after))) ≡ (byte ∷ before) ∷ lines_of after
    step true h rest = absurd (cc)
    step false h rest = rw (rest h) refl

last_line : (byte : ℕ) (bytes : List ℕ) → has 10 (byte ∷ bytes) ≡ false → lines_of (byte ∷ bytes) ≡ (byte ∷ bytes) ∷ []
last_line byte [] none = step (eqb byte 10) none
  where
    step : (b : Bool) → (b || false) ≡ false → cond b ([] ∷ []) ((byte ∷ []) ∷ []) ≡ (byte ∷ []) ∷ []
    step true h = absurd (cc)
    step false h = refl
last_line byte (next ∷ bytes) none = step (eqb byte 10) none (last_line next bytes)
  where
    step : (b : Bool) → (b || has 10 (next ∷ bytes)) ≡ false → (has 10 (next ∷ bytes) ≡ false → lines_of (next ∷ bytes) ≡ (next ∷ bytes) ∷ [])
        → cond b ([] ∷ lines_of (next ∷ bytes)) (onto_first byte (lines_of (next ∷ bytes))) ≡ (byte ∷ next ∷ bytes) ∷ []
    step true h rest = absurd (cc)
    step false h rest = rw (rest h) refl

pub only_line : (bytes : List ℕ) → 0 < length bytes → has 10 bytes ≡ false → lines_of bytes ≡ bytes ∷ []
only_line [] lt none = absurd (omega arith)
only_line (byte ∷ bytes) lt none = last_line byte bytes none

some_lines : (bytes : List ℕ) → 0 < length bytes → 0 < length (lines_of bytes)
some_lines [] some = absurd (omega arith)
some_lines (byte ∷ bytes) some = step (eqb byte 10) (lines_of bytes)
  where
    step : (b : Bool) (below : List (List ℕ)) → 0 < length (cond b ([] ∷ below) (onto_first byte below))
    step true below = omega arith
    step false [] = omega arith
    step false (line ∷ lines) = omega arith

pub lines_over : (bytes : List ℕ) (left : ℕ) → 0 < length bytes → left ≡ 0 → ltb left (length (lines_of bytes)) ≡ true
lines_over bytes left some none = lt-ltb left (length (lines_of bytes)) (omega (arith, some_lines bytes some))
