-- Escaped text, and what it stands for.
use Rattle.std.proofs.Common.{◌≡◌, ℕ, ◌+◌, ◌*◌, Bool, true, false, ◌&&◌, ◌||◌, eqb, List, [], ◌∷◌, ◌++◌, length, take, get_or, Option, Some, None, Result, Ok, Err, refl, sym, ap, subst, ◌∙◌, arith, append_assoc, eqb-true}
use Rattle.std.specs.Prelude.{is_some, unwrap_or, MatchResult}
use Rattle.std.specs.List.{list_all}
use Rattle.std.specs.Str.{IsUtf8, is_utf8}
use Rattle.std.proofs.lemmas.Bool.{false_from_ne_true, and_parts}
use Rattle.std.proofs.lemmas.List.{take_all}
use Rattle.std.proofs.lemmas.Str.{is_utf8-from_IsUtf8, IsUtf8-from_is_utf8}
use Rattle.hex.specs.declared.error.FromHexError.{FromHexError}
use Rattle.hex.specs.declared.error.FromHexError.TheVariants.{InvalidHexCharacter}
use Rattle.hex.specs.Hex.{hex_digit_value, is_hex_digit, digit_or_error, decode_pairs, decode_sized, ◌>>=◌}
use Rattle.mp_script.specs.declared.cause.ScriptCause.{ScriptCause}
use Rattle.mp_script.specs.declared.cause.ScriptCause.TheVariants as cause
use Rattle.mp_script.specs.ScriptText.{stands_for_itself, is_escape, spelled, onto, unescaped, escaped_bytes, text_of}
use Rattle.memchr.specs.Find.{IsFirstByte, is_byte}
use Rattle.mp_script.specs.Words.{has, put_in_front}
use Rattle.mp_script.proofs.Pieces.{not_found, none_before}

-- ---- two hexadecimal digits

abbrev pair_of : ℕ → ℕ → Option ℕ → Option ℕ → Result (List ℕ) FromHexError
pair_of high low None second = Err (InvalidHexCharacter high 0)
pair_of high low (Some a) None = Err (InvalidHexCharacter low 1)
pair_of high low (Some a) (Some b) = Ok ((a * 16 + b) ∷ [])

pair-is : (high low : ℕ) → decode_sized (high ∷ low ∷ []) 1 ≡ pair_of high low (hex_digit_value high) (hex_digit_value low)
unfolding decode_pairs
pair-is high low = step (hex_digit_value high) (hex_digit_value low)
  where
    step : (first second : Option ℕ) → ((digit_or_error high 0 first >>= λ a. digit_or_error low 1 second >>= λ b. Ok (a * 16 + b)) >>= λ byte. Ok [] >>= λ bytes. Ok (byte ∷ bytes)) ≡ pair_of high low first second
    step None second = refl
    step (Some a) None = refl
    step (Some a) (Some b) = refl

abbrev Spells : ℕ → ℕ → Result (List ℕ) FromHexError → Type 0
Spells high low read = MatchResult read (λ bytes. ((is_hex_digit high && is_hex_digit low) ≡ true) × (get_or bytes 0 0 ≡ spelled high low)) (λ why. (is_hex_digit high && is_hex_digit low) ≡ false)

pub pair : (high low : ℕ) (read : Result (List ℕ) FromHexError) → read ≡ decode_sized (high ∷ low ∷ []) 1 → Spells high low read
pair high low read e = rw (e, pair-is high low) (step (hex_digit_value high) (hex_digit_value low))
  where
    step : (first second : Option ℕ) → MatchResult (pair_of high low first second) (λ bytes. ((is_some first && is_some second) ≡ true) × (get_or bytes 0 0 ≡ unwrap_or first 0 * 16 + unwrap_or second 0)) (λ why. (is_some first && is_some second) ≡ false)
    step None second = refl
    step (Some a) None = refl
    step (Some a) (Some b) = (refl, refl)

-- ---- bytes that stand for themselves

neither : (a b : Bool) → (a || b) ≡ false → (a ≡ false) × (b ≡ false)
neither true b h = absurd (cc)
neither false b h = (refl, h)

not_percent : (byte : ℕ) → stands_for_itself byte ≡ true → eqb byte 37 ≡ false
not_percent byte is = step (eqb byte 37) refl
  where
    step : (b : Bool) → eqb byte 37 ≡ b → b ≡ false
    step true e = let same : byte ≡ 37 = eqb-true byte 37 e in absurd (let h : stands_for_itself 37 ≡ true = subst (λ (n : ℕ). stands_for_itself n ≡ true) same is in cc)
    step false e = refl

no_escape : (is_percent first second : Bool) → is_percent ≡ false → (is_percent && first && second) ≡ false
no_escape true first second h = absurd (cc)
no_escape false first second h = refl

itself : (byte : ℕ) (bytes : List ℕ) → stands_for_itself byte ≡ true → unescaped (byte ∷ bytes) ≡ onto byte (unescaped bytes)
itself byte [] is = rw is refl
itself byte (next ∷ []) is = rw is refl
itself byte (high ∷ low ∷ bytes) is =
    let none : is_escape byte high low ≡ false = no_escape (eqb byte 37) (is_hex_digit high) (is_hex_digit low) (not_percent byte is) in
    rw (none, is) refl

no_itself : (byte : ℕ) (bytes : List ℕ) → stands_for_itself byte ≡ false → eqb byte 37 ≡ false → unescaped (byte ∷ bytes) ≡ Err cause.Escape
no_itself byte [] is other = rw is refl
no_itself byte (next ∷ []) is other = rw is refl
no_itself byte (high ∷ low ∷ bytes) is other =
    let none : is_escape byte high low ≡ false = no_escape (eqb byte 37) (is_hex_digit high) (is_hex_digit low) other in
    rw (none, is) refl

onto_front : (byte : ℕ) (front : List ℕ) (read : Result (List ℕ) ScriptCause) → onto byte (put_in_front front read) ≡ put_in_front (byte ∷ front) read
onto_front byte front (Ok bytes) = refl
onto_front byte front (Err why) = refl

none_front : (read : Result (List ℕ) ScriptCause) → read ≡ put_in_front [] read
none_front (Ok bytes) = refl
none_front (Err why) = refl

pub plain_ahead : (front rest : List ℕ) → list_all stands_for_itself front ≡ true → unescaped (front ++ rest) ≡ put_in_front front (unescaped rest)
plain_ahead [] rest are = none_front (unescaped rest)
plain_ahead (byte ∷ front) rest are =
    let parts = and_parts (stands_for_itself byte) (list_all stands_for_itself front) are in
    itself byte (front ++ rest) parts.0 ∙ ap (onto byte) (plain_ahead front rest parts.1) ∙ onto_front byte front (unescaped rest)

-- a byte in front that neither stands for itself nor begins an escape
pub bad_ahead : (front rest : List ℕ) → has 37 front ≡ false → list_all stands_for_itself front ≡ false → unescaped (front ++ rest) ≡ Err cause.Escape
bad_ahead [] rest none bad = absurd (cc)
bad_ahead (byte ∷ front) rest none bad =
    let others = neither (eqb byte 37) (has 37 front) none in
    step (stands_for_itself byte) (itself byte (front ++ rest)) (λ is. no_itself byte (front ++ rest) is others.0) (bad_ahead front rest others.1) bad
  where
    step : (b : Bool) → (b ≡ true → unescaped (byte ∷ front ++ rest) ≡ onto byte (unescaped (front ++ rest))) → (b ≡ false → unescaped (byte ∷ front ++ rest) ≡ Err cause.Escape)
        → (list_all stands_for_itself front ≡ false → unescaped (front ++ rest) ≡ Err cause.Escape) → (b && list_all stands_for_itself front) ≡ false → unescaped (byte ∷ front ++ rest) ≡ Err cause.Escape
    step true here other behind bad = here refl ∙ ap (onto byte) (behind bad)
    step false here other behind bad = other refl

-- one byte more is read
pub one_more : (front : List ℕ) (byte : ℕ) (after : List ℕ) (text : List ℕ) (total : Result (List ℕ) ScriptCause) → unescaped text ≡ onto byte (unescaped after) → put_in_front front (unescaped text) ≡ total
    → put_in_front (front ++ byte ∷ []) (unescaped after) ≡ total
one_more front byte after text total e so_far = step (unescaped after) ∙ sym (ap (put_in_front front) e) ∙ so_far
  where
    step : (read : Result (List ℕ) ScriptCause) → put_in_front (front ++ byte ∷ []) read ≡ put_in_front front (onto byte read)
    step (Ok bytes) = ap (λ (t : List ℕ). Ok t) (simp append_assoc)
    step (Err why) = refl

-- ---- words

-- where the search for an escape stopped, or the end
pub no_escape_before : (text : List ℕ) (place : Option ℕ) → IsFirstByte (is_byte 37) text place → has 37 (take (unwrap_or place (length text)) text) ≡ false
no_escape_before text None first = rw (take_all (length text) text (omega arith)) (not_found 37 text first)
no_escape_before text (Some at) first = none_before 37 at text first.0.high first.0.before

pub front_read : (text front rest : List ℕ) (read : Result (List ℕ) ScriptCause) → text ≡ front ++ rest → list_all stands_for_itself front ≡ true → put_in_front front (unescaped rest) ≡ read → unescaped text ≡ read
front_read text front rest read whole plain e = ap unescaped whole ∙ plain_ahead front rest plain ∙ e

pub text_is : (word bytes : List ℕ) → escaped_bytes word ≡ Ok bytes → IsUtf8 bytes → text_of word ≡ Ok bytes
text_is word bytes e is = rw (e, is_utf8-from_IsUtf8 bytes is) refl

pub no_text : (word bytes : List ℕ) → escaped_bytes word ≡ Ok bytes → (IsUtf8 bytes → ⊥) → text_of word ≡ Err cause.Utf8
no_text word bytes e not_utf8 =
    let other : is_utf8 bytes ≡ false = false_from_ne_true (is_utf8 bytes) (λ is. not_utf8 (IsUtf8-from_is_utf8 bytes is)) in
    rw (e, other) refl
