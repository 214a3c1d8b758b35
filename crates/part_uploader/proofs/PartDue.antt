-- Asking for the part that is due keeps the counts small.
use Rattle.std.proofs.Common.{◌≡◌, ℕ, ◌+◌, ◌-◌, ◌*◌, ◌<◌, ◌≤◌, ◌⊎◌, inl, inr, length, drop, min, Some, Bool, true, false, lit≤, refl, ap, ◌∙◌, arith}
use Rattle.std.proofs.Math.Nat.{lt_of_mul-lt-mul_left, mul-le-mul_left}
use Rattle.std.proofs.lemmas.Bool.{cases_lt}
use Rattle.std.proofs.lemmas.Bool.Decides.{nat_tests}
use Rattle.std.proofs.lemmas.List.{length-take, length-drop, drop_min}
use Rattle.bucket_model.specs.Answers.{max_parts}
use Rattle.upload_rules.specs.declared.upload.UpState.TheVariants.{Open}
use Rattle.upload_rules.specs.declared.upload.Created.TheVariants.{NotAsked}
use Rattle.upload_rules.specs.Upload.{Upload, next_part, ask_part, due, with_ask}
use Rattle.part_uploader.specs.Asks.{is_part}
use Rattle.part_uploader.specs.Sound.{IsSound, upload_of}
use Rattle.part_uploader.specs.Unasked.{Unasked}

-- a part that is due is the next one
pub next_due : (u : Upload) → is_part (due u) ≡ true → due u ≡ Some (ask_part u)
next_due u is = grind (arith, nat_tests)

-- where a part is due, the upload is known, an open writer has a whole part, and any has bytes for it or asked for none

known : (u : Upload) → due u ≡ Some (ask_part u) → u.created ≡ NotAsked → ⊥
known u is new = grind (arith, nat_tests)

whole_due : (u : Upload) → due u ≡ Some (ask_part u) → u.state ≡ Open → u.part ≤ length u.rest
whole_due u is open_ = grind (arith, nat_tests)

some_due : (u : Upload) → 1 ≤ u.part → due u ≡ Some (ask_part u) → (0 < length u.rest) ⊎ (u.asked ≡ 0)
some_due u large is = grind (arith, nat_tests)

-- one more part finds room

few_asked : (part asked waiting most : ℕ) → asked * part + waiting ≤ part * most → 0 < waiting → asked < most
few_asked part asked waiting most room some = lt_of_mul-lt-mul_left part (omega arith)

more_room : (part asked waiting most : ℕ) → 1 ≤ most → asked * part + waiting ≤ part * most → (0 < waiting) ⊎ (asked ≡ 0) → (asked + 1) * part + (waiting - part) ≤ part * most
more_room part asked waiting most large room due = elim (cases_lt waiting part) [ inl short ↦ elim due [ inl some ↦ omega (arith, short, mul-le-mul_left part (few_asked part asked waiting most room some)) | inr none ↦ rw none (omega (arith, short, mul-le-mul_left part large)) ] | inr long ↦ omega (arith, long, room) ]

-- The bytes of a part, and those behind it.

pub length-part : (u : Upload) → length (next_part u) ≡ min u.part (length u.rest)
length-part u = length-take u.part u.rest

length-rest : (u : Upload) → length (with_ask (ask_part u) u).rest ≡ length u.rest - u.part
length-rest u = omega (arith, length-drop (u.sent + length (next_part u) - u.sent) u.rest, length-part u)

-- Asking for the part that is due leaves a sound upload.
pub sound_part : (u : Upload) (ended : Bool) (total : ℕ) → IsSound u ended total → due u ≡ Some (ask_part u) → IsSound (with_ask (ask_part u) u) false total
sound_part u ended total s is = record {
  sum = omega (arith, s.sum, length-rest u, length-part u);
  some = s.some;
  small = s.small;
  room = rw (length-rest u) (more_room u.part u.asked (length u.rest) max_parts (lit≤ tt) s.room (some_due u s.some is));
  whole = λ open_. omega (arith, s.whole open_, whole_due u is open_, length-part u);
  calls = omega (arith, s.calls);
  uncalled = λ new. absurd (known u is new);
  open_ended = λ open_. refl;
}

-- what the fields are once the part has moved out
pub part_moved : (u : Upload) (waiting : Unasked) (len : ℕ) → waiting ≡ record { part = u.part; bytes = drop u.part u.rest; ended = false } → len ≡ min u.part (length u.rest) → upload_of u.state u.created (u.asked + 1) (u.sent + len) u.stored waiting (u.pending + 1) u.closing ≡ with_ask (ask_part u) u
part_moved u waiting len left size =
    let behind : drop (u.sent + length (next_part u) - u.sent) u.rest ≡ drop u.part u.rest =
    ap (λ n. drop n u.rest) (omega (arith, length-part u)) ∙ drop_min u.part u.rest in
    rw (left, size, ← length-part u, behind) refl
