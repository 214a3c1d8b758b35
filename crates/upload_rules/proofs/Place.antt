-- Where parts stand among the bytes, and how many there are.
use Rattle.std.proofs.Common.{◌≡◌, ℕ, ◌+◌, ◌-◌, ◌*◌, ◌≤◌, List, [], ◌++◌, length, drop, min, slice_range, Some, ◌⊎◌, inl, inr, sym, ap, ◌∙◌, subst, arith}
use Rattle.std.proofs.lemmas.List.{append-nil, length-append, length-take, nil_from_length, take_min}
use Rattle.std.proofs.Math.Seq.{drop-append_seam}
use Rattle.std.proofs.Math.Nat.{mul-le-mul_left}
use Rattle.upload_rules.specs.declared.upload.UpAsk.TheVariants.{Part, Complete}
use Rattle.upload_rules.specs.Upload.{Upload, due, next_part}
use Rattle.upload_rules.specs.Place.{HasItsPlace}
use Rattle.upload_rules.specs.Run.{Happening, IsLife, upload_after, bytes_taken, parts_asked, joined, AreTheBytes}
use Rattle.upload_rules.proofs.Due.{IsCompleteDue, IsPartDue, due-is}
use Rattle.upload_rules.proofs.Parts.{length-joined}
use Rattle.upload_rules.proofs.Life.{Holds, life-holds}

-- the object is due: no byte is left
whole : (part : ℕ) (u : Upload) (parts : List (List ℕ)) (taken : List ℕ) (count : ℕ) → IsCompleteDue u count → Holds part u parts taken → (count ≡ length parts) × (1 ≤ count) × (joined parts ≡ taken)
whole part u parts taken count d h =
    let none : h.behind ≡ [] = h.rest d.alive ∙ nil_from_length u.rest d.none_left.0 in
    let joined_is : joined parts ≡ taken = sym (append-nil (joined parts)) ∙ (ap (λ (bs : List ℕ). joined parts ++ bs) (sym none) ∙ h.bytes) in
    (d.parts_is ∙ sym h.count, omega (arith, d.parts_is, d.none_left.1), joined_is)

pub life-bytes : (part : ℕ) (happenings : List Happening) → 1 ≤ part → IsLife part happenings → AreTheBytes part happenings
life-bytes part happenings some life =
    let u : Upload = upload_after part happenings in
    let h : Holds part u (parts_asked part happenings) (bytes_taken happenings) = life-holds part happenings life in
    record {
      behind = h.behind;
      bytes = h.bytes;
      rest = h.rest;
      count = h.count;
      sent = h.sent;
      cut = h.cut;
      whole = λ parts is. whole part u (parts_asked part happenings) (bytes_taken happenings) parts (due-is u (Complete parts) is) h;
    }

-- the place of the part that is due
record Stands (part : ℕ) (u : Upload) (taken : List ℕ) (number from to : ℕ) : Type 0 where
  number_is : number ≡ u.asked + 1
  from_is : from ≡ u.asked * part
  to_is : to ≡ min ((u.asked + 1) * part) (length taken)
  bytes_are : next_part u ≡ slice_range taken from to
  -- so much is left
  rest_is : from + length u.rest ≡ length taken

stands : (part : ℕ) (u : Upload) (parts : List (List ℕ)) (taken : List ℕ) (number from to : ℕ) → IsPartDue u number from to → Holds part u parts taken → Stands part u taken number from to
stands part u parts taken number from to d h =
    let part_is = h.part_is in
    let joined_len : length (joined parts) ≡ u.asked * part = length-joined part parts (h.full d.grows) ∙ ap (λ (n : ℕ). n * part) h.count in
    let bytes_are : joined parts ++ u.rest ≡ taken = ap (λ (bs : List ℕ). joined parts ++ bs) (sym (h.rest d.alive)) ∙ h.bytes in
    let all_len = sym (ap length bytes_are) ∙ length-append (joined parts) u.rest in
    let next_len = length-take u.part u.rest in
    let from_len : from ≡ length (joined parts) = d.from_is ∙ sym h.sent in
    let size : to - from ≡ min u.part (length u.rest) = omega (arith, d.from_is, d.to_is) in
    let rest_at : drop from taken ≡ u.rest = subst (λ (bs : List ℕ). drop from bs ≡ u.rest) bytes_are (rw from_len (drop-append_seam (joined parts) u.rest)) in
    record {
      number_is = d.number_is;
      from_is = from_len ∙ joined_len;
      to_is = omega (arith, d.to_is, h.sent);
      bytes_are = rw (rest_at, size) (sym (take_min u.part u.rest));
      rest_is = omega arith;
    }

life-stands : (part : ℕ) (happenings : List Happening) (number from to : ℕ) → IsLife part happenings → due (upload_after part happenings) ≡ Some (Part number from to) → Stands part (upload_after part happenings) (bytes_taken happenings) number from to
life-stands part happenings number from to life is = stands part (upload_after part happenings) (parts_asked part happenings) (bytes_taken happenings) number from to (due-is (upload_after part happenings) (Part number from to) is) (life-holds part happenings life)

pub life-place : (part : ℕ) (happenings : List Happening) (number from to : ℕ) → IsLife part happenings → due (upload_after part happenings) ≡ Some (Part number from to) → HasItsPlace part happenings number from to
life-place part happenings number from to life is =
    let s = life-stands part happenings number from to life is in
    record { number_is = s.number_is; from_is = s.from_is; to_is = s.to_is; bytes_are = s.bytes_are }

-- so many parts fit into a limit on bytes
pub few : (part limit asked rest taken : ℕ) → 1 ≤ rest → asked * part + rest ≤ taken → taken ≤ part * limit → asked + 1 ≤ limit
few part limit asked rest taken some sum fits = elim (or_more asked limit) [
  | inl less ↦ less
  | inr more ↦ absurd (let most = mul-le-mul_left part more in omega arith)
]
  where
    or_more : (m n : ℕ) → (m + 1 ≤ n) ⊎ (n ≤ m)
    or_more m n = grind arith

few-due : (part limit : ℕ) (u : Upload) (taken : List ℕ) (number from to : ℕ) → 1 ≤ part → 1 ≤ limit → length taken ≤ part * limit → u.part ≡ part → IsPartDue u number from to → Stands part u taken number from to → u.asked + 1 ≤ limit
few-due part limit u taken number from to some most fits part_is d s =
    let sum : u.asked * part + length u.rest ≡ length taken = ap (λ (n : ℕ). n + length u.rest) (sym s.from_is) ∙ s.rest_is in
    elim d.full_or_last [
      | inl full ↦ few part limit u.asked (length u.rest) (length taken) (omega arith) (omega (arith, sum)) fits
      | inr last ↦ elim last.1 [
        | inl left ↦ few part limit u.asked (length u.rest) (length taken) left (omega (arith, sum)) fits
        | inr none ↦ omega arith
      ]
    ]

pub life-few : (part limit : ℕ) (happenings : List Happening) (number from to : ℕ) → 1 ≤ part → 1 ≤ limit → length (bytes_taken happenings) ≤ part * limit → IsLife part happenings → due (upload_after part happenings) ≡ Some (Part number from to) → (upload_after part happenings).asked + 1 ≤ limit
life-few part limit happenings number from to some most fits life is =
    let u : Upload = upload_after part happenings in
    few-due part limit u (bytes_taken happenings) number from to some most fits (life-holds part happenings life).part_is (due-is u (Part number from to) is) (life-stands part happenings number from to life is)
