-- What one change of a table of nodes does to each key.
use Rattle.std.proofs.Common.{◌≡◌, ℕ, Bool, true, false, cond, ◌||◌, List, Some, None, Option, is_some, unwrap_or, String, string_bytes, arith, refl, sym, ap, ◌∙◌, subst}
use Rattle.std.proofs.lemmas.Map.Text.{btree_map_updates_text}
use Rattle.std.specs.BTreeMap.{BTreeMap, UpdatesBy, Updates, get_by_text}
use Rattle.std.specs.Cmp.Lexicographic.{slice_cmp, bytes_decides}
use Rattle.std.specs.Ordering.{nat_cmp}
use Rattle.std.specs.Str.{bytes_eq}
use Rattle.std.specs.String.{string_cmp}
use Rattle.local_names.specs.declared.nodes.Node.{Node}
use Rattle.mp_rules.specs.declared.entry.Local.{Local}
use Rattle.mp_rules.specs.declared.entry.Local.TheVariants as local
use Rattle.local_names.specs.Nodes.{bare, is_bare, kept, has_node, node_in, kind_in, count_in}

kept_bare : (b : Bool) (node : Node) → b ≡ true → cond b None (Some node) ≡ None
kept_bare true node is = refl
kept_bare false node is = absurd (cc)

kept_other : (b : Bool) (node : Node) → b ≡ false → cond b None (Some node) ≡ Some node
kept_other true node is = absurd (cc)
kept_other false node is = refl

module _ {Y : Type 0} (old new : BTreeMap (String Y) Node) (key : List ℕ) where
  pub removed : (node : Node) → UpdatesBy string_cmp (λ k. slice_cmp nat_cmp key (string_bytes k)) old new None → is_bare node ≡ true
      → (q : List ℕ) → get_by_text new q ≡ cond (bytes_eq key q) (kept node) (get_by_text old q)
  removed node updates is = λ q. btree_map_updates_text key old new None updates q ∙ ap (λ (o : Option Node). cond (bytes_eq key q) o (get_by_text old q)) (sym (kept_bare (is_bare node) node is))

  pub written : (node : Node) → UpdatesBy string_cmp (λ k. slice_cmp nat_cmp key (string_bytes k)) old new (Some node) → is_bare node ≡ false
      → (q : List ℕ) → get_by_text new q ≡ cond (bytes_eq key q) (kept node) (get_by_text old q)
  written node updates is = λ q. btree_map_updates_text key old new (Some node) updates q ∙ ap (λ (o : Option Node). cond (bytes_eq key q) o (get_by_text old q)) (sym (kept_other (is_bare node) node is))

bare_or : (b : Bool) (o : Option Node) → (b ≡ true → is_some o ≡ false) → unwrap_or (cond b (Some bare) o) bare ≡ unwrap_or o bare
bare_or true None absent = refl
bare_or true (Some node) absent = absurd (cc (absent refl))
bare_or false o absent = refl

has_or : (b : Bool) (o : Option Node) → is_some (cond b (Some bare) o) ≡ (b || is_some o)
has_or true o = refl
has_or false o = refl

module _ {Y : Type 0} (old new : BTreeMap (String Y) Node) (key : List ℕ) (text : String Y) (is : string_bytes text ≡ key) (updates : Updates string_cmp old new text (Some bare)) where
  inserted : (q : List ℕ) → get_by_text new q ≡ cond (bytes_eq key q) (Some bare) (get_by_text old q)
  inserted q = btree_map_updates_text (string_bytes text) old new (Some bare) updates q ∙ ap (λ (bytes : List ℕ). cond (bytes_eq bytes q) (Some bare) (get_by_text old q)) is

  pub inserted_same : has_node old key ≡ false → (q : List ℕ) → node_in new q ≡ node_in old q
  inserted_same absent q =
      ap (λ (o : Option Node). unwrap_or o bare) (inserted q)
      ∙ bare_or (bytes_eq key q) (get_by_text old q) (λ same. subst (λ (k : List ℕ). has_node old k ≡ false) ((bytes_decides key q).0 same) absent)

  pub inserted_has : (q : List ℕ) → has_node new q ≡ (bytes_eq key q || has_node old q)
  inserted_has q = ap (λ (o : Option Node). is_some o) (inserted q) ∙ has_or (bytes_eq key q) (get_by_text old q)

-- a node that is kept or not is the same

same_bare : (kind : Local) (below : ℕ) → is_bare (record { kind = kind; below = below }) ≡ true → bare ≡ record { kind = kind; below = below }
same_bare local.None below is = ap (λ (n : ℕ). record { kind = local.None; below = n }) (grind arith)
same_bare local.Dir below is = absurd (cc)
same_bare (local.File size) below is = absurd (cc)

kept_or_bare : (b : Bool) (node : Node) → (b ≡ true → bare ≡ node) → unwrap_or (cond b None (Some node)) bare ≡ node
kept_or_bare true node same = same refl
kept_or_bare false node same = refl

cond_node : (b : Bool) (o p : Option Node) → unwrap_or (cond b o p) bare ≡ cond b (unwrap_or o bare) (unwrap_or p bare)
cond_node true o p = refl
cond_node false o p = refl

module _ {Y : Type 0} (old new : BTreeMap (String Y) Node) (key : List ℕ) (node : Node) (is : (q : List ℕ) → get_by_text new q ≡ cond (bytes_eq key q) (kept node) (get_by_text old q)) where
  pub node_set : (q : List ℕ) → node_in new q ≡ cond (bytes_eq key q) node (node_in old q)
  node_set q =
      ap (λ (o : Option Node). unwrap_or o bare) (is q)
      ∙ cond_node (bytes_eq key q) (kept node) (get_by_text old q)
      ∙ ap (λ (n : Node). cond (bytes_eq key q) n (node_in old q)) (kept_or_bare (is_bare node) node (same_bare node.kind node.below))

  pub has_elsewhere : (q : List ℕ) → bytes_eq key q ≡ false → has_node new q ≡ has_node old q
  has_elsewhere q other = ap (λ (o : Option Node). is_some o) (is q ∙ ap (λ (b : Bool). cond b (kept node) (get_by_text old q)) other)

-- a node that is kept is given another kind

kind_of_cond : (b : Bool) (node other : Node) → (cond b node other).kind ≡ cond b node.kind other.kind
kind_of_cond true node other = refl
kind_of_cond false node other = refl

count_stays : (b : Bool) (node other : Node) → (b ≡ true → node.below ≡ other.below) → (cond b node other).below ≡ other.below
count_stays true node other same = same refl
count_stays false node other same = refl

module _ {Y : Type 0} (old new : BTreeMap (String Y) Node) (key : List ℕ) (kind : Local) (node : Node) (there : get_by_text old key ≡ Some node)
    (updates : UpdatesBy string_cmp (λ k. slice_cmp nat_cmp key (string_bytes k)) old new (Some (record { kind = kind; below = node.below }))) where
  node_changed : (q : List ℕ) → node_in new q ≡ cond (bytes_eq key q) (record { kind = kind; below = node.below }) (node_in old q)
  node_changed q =
      let now : Option Node = Some (record { kind = kind; below = node.below }) in
      ap (λ (o : Option Node). unwrap_or o bare) (btree_map_updates_text key old new now updates q) ∙ cond_node (bytes_eq key q) now (get_by_text old q)

  pub kinds_changed : (q : List ℕ) → kind_in new q ≡ cond (bytes_eq key q) kind (kind_in old q)
  kinds_changed q = ap (λ (n : Node). n.kind) (node_changed q) ∙ kind_of_cond (bytes_eq key q) (record { kind = kind; below = node.below }) (node_in old q)

  pub counts_stay : (q : List ℕ) → count_in new q ≡ count_in old q
  counts_stay q =
      ap (λ (n : Node). n.below) (node_changed q)
      ∙ count_stays (bytes_eq key q) (record { kind = kind; below = node.below }) (node_in old q)
      (λ is. ap (λ (o : Option Node). (unwrap_or o bare).below) (sym there) ∙ ap (λ (k : List ℕ). count_in old k) ((bytes_decides key q).0 is))
