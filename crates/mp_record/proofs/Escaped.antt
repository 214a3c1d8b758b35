-- Texts of plain bytes stand for themselves.
use Rattle.std.proofs.Common.{◌≡◌, ℕ, ◌<◌, List, [], ◌∷◌, ◌++◌, Bool, true, false, if◌then◌else◌, length, flat_map, refl, ap, ◌∙◌, arith}
use Rattle.std.specs.List.{list_all}
use Rattle.std.proofs.lemmas.Bool.{and_parts}
use Rattle.mp_types.specs.Plain.{is_plain}
use Rattle.mp_record.specs.RecordText.{escaped_byte, escaped}

plain_or : (b : Bool) (here there : List ℕ) → b ≡ true → (if b then here else there) ≡ here
plain_or true here there is = refl
plain_or false here there is = absurd (cc)

pub escaped_plain : (text : List ℕ) → list_all is_plain text ≡ true → flat_map escaped_byte text ≡ text
escaped_plain [] all = refl
escaped_plain (byte ∷ bytes) all =
    let two = and_parts (is_plain byte) (list_all is_plain bytes) all in
    ap (λ t. t ++ flat_map escaped_byte bytes) (plain_or (is_plain byte) (byte ∷ []) _ two.0) ∙ ap (λ t. byte ∷ t) (escaped_plain bytes two.1)

pub escaped_plain_text : (text : List ℕ) → 0 < length text → list_all is_plain text ≡ true → escaped text ≡ text
escaped_plain_text [] some all = absurd (omega arith)
escaped_plain_text (byte ∷ bytes) some all = escaped_plain (byte ∷ bytes) all
