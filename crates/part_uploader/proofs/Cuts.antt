-- Bytes in buffers of a part each, and what is left of the last one.
use Rattle.std.proofs.Common.{◌≡◌, ℕ, ◌+◌, ◌-◌, ◌≤◌, List, [], ◌∷◌, ◌++◌, length, drop, sym, ap, ◌∙◌, append_assoc, arith}
use Rattle.std.specs.List.{All, slice_range}
use Rattle.std.proofs.lemmas.List.{length-append, take-append-drop, drop-drop}
use Rattle.std.proofs.lemmas.List.Edits.{length-between}
use Rattle.std.proofs.lemmas.List.Concat.{flat_map-append}
use Rattle.std.proofs.lemmas.List.Elements.{All-push, All-append, All-rest}
use Rattle.upload_rules.specs.Run.{joined}
use Rattle.upload_rules.proofs.Parts.{joined-push}
use Rattle.part_uploader.specs.Buffered.{AreCut, bytes_in}

pub joined-append : (xs ys : List (List ℕ)) → joined (xs ++ ys) ≡ joined xs ++ joined ys
joined-append xs ys = flat_map-append (λ bytes. bytes) xs ys

-- what stands from a place on is the next bytes and what stands behind them
pub next_bytes : (bytes : List ℕ) (place count : ℕ) → drop place bytes ≡ slice_range bytes place (place + count) ++ drop (place + count) bytes
next_bytes bytes place count =
    let size : place + count - place ≡ count = omega arith in
    rw (size, ← drop-drop count place bytes) (sym (take-append-drop count (drop place bytes)))

-- one more buffer
pub joined_more : (full : List (List ℕ)) (bytes : List ℕ) (place count : ℕ) → joined (full ++ slice_range bytes place (place + count) ∷ []) ++ drop (place + count) bytes ≡ joined full ++ drop place bytes
joined_more full bytes place count =
    ap (λ xs. xs ++ drop (place + count) bytes) (joined-push full (slice_range bytes place (place + count)))
    ∙ (append_assoc (joined full) (slice_range bytes place (place + count)) (drop (place + count) bytes)
    ∙ ap (λ xs. joined full ++ xs) (sym (next_bytes bytes place count)))

-- a whole buffer more
pub filled_more : (part place : ℕ) (full now : List (List ℕ)) (buffer bytes all : List ℕ) → place + part ≤ length bytes → All (λ held. length held ≡ part) full → joined full ++ drop place bytes ≡ all → buffer ≡ slice_range bytes place (place + part) → now ≡ full ++ buffer ∷ []
    → All (λ held. length held ≡ part) now × (joined now ++ drop (place + part) bytes ≡ all)
filled_more part place full now buffer bytes all within whole so_far next is =
    let size : length buffer ≡ part = ap length next ∙ (length-between bytes place (place + part) within ∙ omega arith) in
    let more : joined (full ++ buffer ∷ []) ++ drop (place + part) bytes ≡ all = rw next (joined_more full bytes place part ∙ so_far) in
    rw is (All-push (λ held. length held ≡ part) full buffer whole size, more)

regrouped : (a b c d e : List ℕ) → ((a ++ (b ++ c)) ++ d) ++ e ≡ (a ++ b) ++ (c ++ (d ++ e))
regrouped a b c d e = simp append_assoc

bytes_added : (full behind : List (List ℕ)) (old new bytes : List ℕ) (place count : ℕ) → bytes_in behind new ≡ drop (place + count) bytes → bytes_in (full ++ (old ++ slice_range bytes place (place + count)) ∷ [] ++ behind) new ≡ bytes_in full old ++ drop place bytes
bytes_added full behind old new bytes place count stand =
    let next = slice_range bytes place (place + count) in
    let apart : joined (full ++ (old ++ next) ∷ [] ++ behind) ≡ (joined full ++ (old ++ next)) ++ joined behind =
    joined-append (full ++ (old ++ next) ∷ []) behind ∙ ap (λ xs. xs ++ joined behind) (joined-push full (old ++ next)) in
    ap (λ xs. xs ++ new) apart
    ∙ (regrouped (joined full) old next (joined behind) new
    ∙ (ap (λ xs. bytes_in full old ++ (next ++ xs)) stand
    ∙ ap (λ xs. bytes_in full old ++ xs) (sym (next_bytes bytes place count))))

-- what was reserved for, pushed and appended to
pub moved : (full reserved pushed now behind : List (List ℕ)) (held first : List ℕ) → reserved ≡ full → held ≡ first → pushed ≡ reserved ++ held ∷ [] → now ≡ pushed ++ behind → now ≡ full ++ first ∷ [] ++ behind
moved full reserved pushed now behind held first a b c d = cc

-- the last buffer is filled, and others stand behind it
pub buffers_added : (part place room : ℕ) (full behind now : List (List ℕ)) (old first last bytes : List ℕ) → AreCut part full old → AreCut part behind last → length old + room ≡ part → place + room ≤ length bytes → bytes_in behind last ≡ drop (place + room) bytes → first ≡ old ++ slice_range bytes place (place + room) → now ≡ full ++ first ∷ [] ++ behind
    → AreCut part now last × (bytes_in now last ≡ bytes_in full old ++ drop place bytes)
buffers_added part place room full behind now old first last bytes cut more size within stand filled is =
    let long : length first ≡ part = omega (arith, ap length filled, length-append old (slice_range bytes place (place + room)), length-between bytes place (place + room) within) in
    let whole : All (λ held. length held ≡ part) (full ++ first ∷ [] ++ behind) =
    All-append (λ held. length held ≡ part) (full ++ first ∷ []) behind (All-push (λ held. length held ≡ part) full first cut.whole long) more.whole in
    rw (is, filled) (record { whole = rw (← filled) whole; short = more.short }, bytes_added full behind old last bytes place room stand)

-- the first buffer leaves
pub cut_front : (part : ℕ) (first : List ℕ) (full whole : List (List ℕ)) (last : List ℕ) → whole ≡ first ∷ full → AreCut part whole last → AreCut part full last
cut_front part first full whole last is cut = record { whole = All-rest (λ bytes. length bytes ≡ part) first full whole is cut.whole; short = cut.short }
