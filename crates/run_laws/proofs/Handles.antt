-- Handles under their names, and what a step does to them.
use Rattle.std.proofs.Common.{◌≡◌, ◌≢◌, ℕ, cond, Bool, true, false, ◌&&◌, ◌==◌, Option, Some, None, ◌⊎◌, inl, inr, refl, sym, ap, ◌∙◌, eqb-true, eq-eqb}
use Rattle.std.proofs.lemmas.Bool.{and_parts}
use Rattle.std.specs.FinMap as table
use Rattle.std.specs.Ordering.{nat_cmp, eq_by_cmp}
use Rattle.std.specs.Cmp.{IsTotalOrder, both_tied, unsigned_ties}
use Rattle.std.proofs.lemmas.Cmp.{nat_cmp_total, on_total, then_total}
use Rattle.mp_types.specs.HandleName.{HandleName, name_cmp}
use Rattle.mount_model.specs.declared.handle.Handle.TheVariants.{Writing}
use Rattle.mount_model.specs.declared.request.Line.{Line}
use Rattle.mount_model.specs.Handles.{Handle, Handles, Writer, name_in, handle_of}
use Rattle.mount_model.specs.State.{handle_name}

-- names of handles in their order

pub name_total : IsTotalOrder name_cmp
name_total = then_total (on_total (λ (n : HandleName). n.0) nat_cmp_total) (on_total (λ (n : HandleName). n.1) nat_cmp_total)

-- the same name
abbrev pub is_name : HandleName → HandleName → Bool
is_name q name = eq_by_cmp name_cmp q name

same_name : (a n b m : ℕ) → eq_by_cmp name_cmp (a, n) (b, m) ≡ (a == b && n == m)
same_name a n b m = sym (both_tied (a == b) (n == m) (nat_cmp a b) (nat_cmp n m) (unsigned_ties a b) (unsigned_ties n m))

pub name-is : (q name : HandleName) → is_name q name ≡ true → q ≡ name
name-is q name is =
    let parts = and_parts (q.0 == name.0) (q.1 == name.1) (sym (same_name q.0 q.1 name.0 name.1) ∙ is) in
    let first : q.0 ≡ name.0 = eqb-true q.0 name.0 parts.0 in
    let second : q.1 ≡ name.1 = eqb-true q.1 name.1 parts.1 in
    ap (λ (a : ℕ). (a, q.1)) first ∙ ap (λ (n : ℕ). (name.0, n)) second

pub name-same : (name : HandleName) → is_name name name ≡ true
name-same name =
    let first : (name.0 == name.0) ≡ true = eq-eqb name.0 name.0 refl in
    let second : (name.1 == name.1) ≡ true = eq-eqb name.1 name.1 refl in
    same_name name.0 name.1 name.0 name.1 ∙ rw (first, second) refl

pub name-apart : (q name : HandleName) → is_name q name ≡ false → q ≢ name
name-apart q name is e = let same : is_name q name ≡ true = ap (λ (p : HandleName). is_name p name) e ∙ name-same name in absurd (cc)

-- what stands under each name

abbrev pub Look : Type 0
Look = HandleName → Option Handle

-- the same writer
pub some-writer : (w v : Writer) → Some (Writing w) ≡ Some (Writing v) → w ≡ v
some-writer w v is = cc

-- with another handle under one name, or none
abbrev pub with_at : HandleName → Option Handle → Look → Look
with_at name o look q = cond (is_name q name) o (look q)

pub at-same : (name : HandleName) (o : Option Handle) (look : Look) → with_at name o look name ≡ o
at-same name o look = let same = name-same name in rw same refl

pub at-other : (name : HandleName) (o : Option Handle) (look : Look) (q : HandleName) → q ≢ name → with_at name o look q ≡ look q
at-other name o look q apart = go (is_name q name) refl
  where
    go : (b : Bool) → is_name q name ≡ b → cond b o (look q) ≡ look q
    go true is = absurd (apart (name-is q name is))
    go false is = refl

-- a name is this one or another
pub names : (q name : HandleName) → (q ≡ name) ⊎ (q ≢ name)
names q name = go (is_name q name) refl
  where
    go : (b : Bool) → is_name q name ≡ b → (q ≡ name) ⊎ (q ≢ name)
    go true is = inl (name-is q name is)
    go false is = inr (name-apart q name is)

pub look-insert : (handles : Handles) (name : HandleName) (handle : Handle) (q : HandleName) → table.get (table.insert handles name handle) q ≡ with_at name (Some handle) (table.get handles) q
look-insert handles name handle q = table.get-insert name_total handles name handle q

pub look-remove : (handles : Handles) (name : HandleName) (q : HandleName) → table.get (table.remove handles name) q ≡ with_at name None (table.get handles) q
look-remove handles name q = table.get-remove name_total handles name q

-- a later one stands
pub at-twice : (name : HandleName) (first second : Option Handle) (look : Look) (q : HandleName) → with_at name second (with_at name first look) q ≡ with_at name second look q
at-twice name first second look q = go (is_name q name)
  where
    go : (b : Bool) → cond b second (cond b first (look q)) ≡ cond b second (look q)
    go true = refl
    go false = refl

-- a line that names a handle
pub handle-at : (line : Line) (name : ℕ) (handles : Handles) → name_in line.request ≡ Some name → handle_of line handles ≡ table.get handles (handle_name line)
handle-at line name handles is = rw is refl

pub name-actor : (line : Line) → (handle_name line).0 ≡ line.actor
name-actor line = go (name_in line.request) refl
  where
    go : (o : Option ℕ) → name_in line.request ≡ o → (handle_name line).0 ≡ line.actor
    go None is = rw is refl
    go (Some name) is = rw is refl
