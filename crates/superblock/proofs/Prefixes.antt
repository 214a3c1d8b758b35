-- Where the names of a path end in its text, and the walk from there.
use Rattle.std.proofs.Common.{◌≡◌, ℕ, ◌+◌, ◌-◌, ◌<◌, ◌≤◌, Bool, true, false, cond, not, Option, List, [], ◌∷◌, ◌++◌, length, take, drop, get_or, zero, suc, refl, sym, subst, ap, ◌∙◌, append_assoc, length-drop, arith}
use Rattle.std.specs.List.{onto_first, slice_range, slice_split}
use Rattle.std.proofs.Math.Numerals.{one-add}
use Rattle.std.proofs.Math.Seq.{take-add}
use Rattle.std.proofs.lemmas.Bool.{eqb-true}
use Rattle.std.proofs.lemmas.List.{drop_more, take_more, drop-drop, get_or-drop}
use Rattle.std.proofs.lemmas.List.Sums.{passes_at_first, prefix_len-le-length}
use Rattle.mp_types.specs.Key.{max_key_length}
use Rattle.mp_types.specs.Path.{slash, is_slash, names_in, are_names}
use Rattle.mp_rules.specs.declared.facts.Fact.{Fact}
use Rattle.mp_rules.specs.declared.facts.Question.{Question}
use Rattle.mp_rules.specs.declared.entry.Local.{Local}
use Rattle.mp_rules.specs.Walk.{below, entry_at, walk}
use Rattle.superblock.specs.declared.decision.Decision.{Decision as Code}
use Rattle.superblock.specs.Decided.{Decides}
use Rattle.superblock.specs.Prefix.{IsStop, name_length, names_behind}
use Rattle.superblock.specs.Walked.{walk_of}

split_step : (b : Bool) (x n : ℕ) (xs : List ℕ) → slice_split is_slash xs ≡ take n xs ∷ names_behind (drop n xs) → cond b ([] ∷ slice_split is_slash xs) (onto_first x (slice_split is_slash xs)) ≡ take (cond (not b) (1 + n) 0) (x ∷ xs) ∷ names_behind (drop (cond (not b) (1 + n) 0) (x ∷ xs))
split_step true x n xs h = refl
split_step false x n xs h = rw (h, one-add) refl

-- the first name, and the names behind it
split_first : (text : List ℕ) → slice_split is_slash text ≡ take (name_length text) text ∷ names_behind (drop (name_length text) text)
split_first [] = refl
split_first (x ∷ xs) = split_step (is_slash x) x (name_length xs) xs (split_first xs)

has_some : (n : ℕ) (text : List ℕ) (names : List (List ℕ)) → are_names (take n text ∷ names) ≡ true → 0 < n
has_some zero text names valid = absurd (cc)
has_some (suc n) text names valid = omega arith

first_of : (path : List ℕ) → 0 < length path → names_in path ≡ take (name_length path) path ∷ names_behind (drop (name_length path) path)
first_of [] some = absurd (omega arith)
first_of (byte ∷ bytes) some = split_first (byte ∷ bytes)

-- a name is not empty
pub first_not_empty : (path : List ℕ) → 0 < length path → are_names (names_in path) ≡ true → 0 < name_length path
first_not_empty path some valid = has_some (name_length path) path (names_behind (drop (name_length path) path)) (ap are_names (sym (first_of path some)) ∙ valid)

name_length-le : (text : List ℕ) → name_length text ≤ length text
name_length-le text = prefix_len-le-length (λ byte. not (is_slash byte)) text

slash_at : (path : List ℕ) (start : ℕ) → start + name_length (drop start path) < length path → get_or path (start + name_length (drop start path)) 0 ≡ slash
slash_at path start more =
    let short : name_length (drop start path) < length (drop start path) = omega (arith, length-drop start path) in
    sym (get_or-drop start path (name_length (drop start path)) 0) ∙ eqb-true _ _ (passes_at_first is_slash (drop start path) 0 short)

-- where the name that begins at a place ends
pub stop_at : (path : List ℕ) (start : ℕ) → length path ≤ max_key_length → start ≤ length path → 0 < start + name_length (drop start path) → IsStop path (start + name_length (drop start path))
stop_at path start short within some = record {
  short = short;
  some = some;
  within = omega (arith, length-drop start path, name_length-le (drop start path));
  at = slash_at path start;
}

one_more : (path : List ℕ) (end n : ℕ) → end < length path → get_or path end 0 ≡ slash → take end path ++ slash ∷ take n (drop (end + 1) path) ≡ take (end + 1 + n) path
one_more path end n more at =
    let split = take-add (end + 1) n path in
    let front = take_more path end 0 more in
    sym (split ∙ (ap (λ (xs : List ℕ). xs ++ take n (drop (end + 1) path)) (front ∙ ap (λ (byte : ℕ). take end path ++ byte ∷ []) at) ∙ append_assoc (take end path) (slash ∷ []) (take n (drop (end + 1) path))))

-- the walk begins where the first name ends
pub begins : (facts : Question → Option Fact) (locally : List ℕ → Local) (path : List ℕ) (end : ℕ) → 0 < length path → end ≡ 0 + name_length path → walk_of facts locally (names_in path) ≡ walk facts locally (take end path) (names_behind (drop end path))
begins facts locally path end some is =
    let same : name_length path ≡ end = omega (arith, is) in
    ap (walk_of facts locally) (first_of path some) ∙ ap (λ (k : ℕ). walk facts locally (take k path) (names_behind (drop k path))) same

-- from a proper prefix the walk goes on to where the next name ends, if a directory stands there
pub goes_on : (facts : Question → Option Fact) (locally : List ℕ → Local) (path : List ℕ) (end next : ℕ) → IsStop path end → end < length path → next ≡ end + 1 + name_length (drop (end + 1) path)
    → walk facts locally (take end path) (names_behind (drop end path)) ≡ below (entry_at facts locally (take end path)) (walk facts locally (take next path) (names_behind (drop next path)))
goes_on facts locally path end next stop more is =
    let rest = drop (end + 1) path in
    let n = name_length rest in
    let found = entry_at facts locally (take end path) in
    let names : names_behind (drop end path) ≡ take n rest ∷ names_behind (drop n rest) = ap names_behind (drop_more path end 0 more) ∙ split_first rest in
    ap (λ (names : List (List ℕ)). walk facts locally (take end path) names) names
    ∙ (ap (λ (key : List ℕ). below found (walk facts locally key (names_behind (drop n rest)))) (one_more path end n more (stop.at more))
    ∙ (ap (λ (text : List ℕ). below found (walk facts locally (take (end + 1 + n) path) (names_behind text))) (drop-drop n (end + 1) path)
    ∙ ap (λ (k : ℕ). below found (walk facts locally (take k path) (names_behind (drop k path)))) (sym is)))

-- the key of a prefix is cut out of the path's text
pub at_prefix : (facts : Question → Option Fact) (locally : List ℕ → Local) (path : List ℕ) (end : ℕ) (found : Code) (key : List ℕ) → key ≡ slice_range path 0 end → Decides found (entry_at facts locally key) → Decides found (entry_at facts locally (take end path))
at_prefix facts locally path end found key is decides =
    let same : end - 0 ≡ end = omega arith in
    subst (λ (k : List ℕ). Decides found (entry_at facts locally k)) (is ∙ ap (λ (n : ℕ). take n path) same) decides
