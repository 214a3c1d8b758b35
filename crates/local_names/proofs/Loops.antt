-- How far the loops over the keys above a key have come: the rest is still to do.
use Rattle.std.proofs.Common.{◌≡◌, ℕ, ◌+◌, ◌<◌, ◌≤◌, inl, inr, Bool, true, false, cond, ◌||◌, List, String, refl, ap, ◌∙◌, subst, arith}
use Rattle.std.specs.BTreeMap.{BTreeMap, get_by_text}
use Rattle.std.specs.Cmp.Lexicographic.{bytes_decides, nat_list_eq_equiv}
use Rattle.std.specs.Str.{bytes_eq}
use Rattle.mp_rules.specs.Keys.{is_under}
use Rattle.local_names.specs.declared.nodes.Node.{Node}
use Rattle.local_names.specs.Nodes.{kept, has_node, node_in, kind_in, count_in}
use Rattle.local_names.specs.Under.{one, IsParent}
use Rattle.local_names.proofs.Under.{by_parent}
use Rattle.local_names.proofs.Tables.{node_set, has_elsewhere}

module _ {Y : Type 0} (old nodes : BTreeMap (String Y) Node) (key rest : List ℕ) where
  -- the nodes of the key and of those above it are kept
  pub record IsKeeping : Type 0 where
    pub same : (q : List ℕ) → node_in nodes q ≡ node_in old q
    pub has : (q : List ℕ) → (bytes_eq key q || is_under key q) ≡ true → (is_under rest q || has_node nodes q) ≡ true

  pub record IsRaising : Type 0 where
    pub kinds : (q : List ℕ) → kind_in nodes q ≡ kind_in old q
    pub counts : (q : List ℕ) → count_in nodes q + one (is_under rest q) ≡ count_in old q + one (is_under key q)
    pub has : (q : List ℕ) → is_under rest q ≡ true → has_node nodes q ≡ true

  pub record IsLowering : Type 0 where
    pub kinds : (q : List ℕ) → kind_in nodes q ≡ kind_in old q
    pub counts : (q : List ℕ) → count_in nodes q + one (is_under key q) ≡ count_in old q + one (is_under rest q)

kind_stays : (b : Bool) (node other : Node) → (b ≡ true → node.kind ≡ other.kind) → (cond b node other).kind ≡ other.kind
kind_stays true node other same = same refl
kind_stays false node other same = refl

-- one turn, which sets the parent's node
module _ {Y : Type 0} (old nodes new : BTreeMap (String Y) Node) (key rest above : List ℕ) (parent : IsParent rest above)
    (node : Node) (set : (q : List ℕ) → get_by_text new q ≡ cond (bytes_eq above q) (kept node) (get_by_text nodes q)) (kind : node.kind ≡ kind_in nodes above) where
  kinds_stay : (q : List ℕ) → kind_in new q ≡ kind_in nodes q
  kinds_stay q =
      ap (λ (n : Node). n.kind) (node_set nodes new above node set q)
      ∙ kind_stays (bytes_eq above q) node (node_in nodes q) (λ is. kind ∙ ap (λ (k : List ℕ). kind_in nodes k) ((bytes_decides above q).0 is))

  count_now : (q : List ℕ) (b : Bool) → bytes_eq above q ≡ b → count_in new q ≡ cond b node.below (count_in nodes q)
  count_now q b is = ap (λ (n : Node). n.below) (node_set nodes new above node set q ∙ ap (λ (c : Bool). cond c node (node_in nodes q)) is) ∙ below_of b
    where
      below_of : (c : Bool) → (cond c node (node_in nodes q)).below ≡ cond c node.below (count_in nodes q)
      below_of true = refl
      below_of false = refl

  pub raising_next : IsRaising old nodes key rest → node.below ≡ count_in nodes above + 1 → IsRaising old new key above
  raising_next raising below = record {
    kinds = λ q. kinds_stay q ∙ raising.kinds q;
    counts = λ q. elim (by_parent rest above parent q) [
      | inl w ↦
          let before : count_in nodes above ≡ count_in nodes q = ap (λ (k : List ℕ). count_in nodes k) w.same in
          let was : count_in nodes q + 1 ≡ count_in old q + one (is_under key q) = subst (λ (b : Bool). count_in nodes q + one b ≡ count_in old q + one (is_under key q)) w.before (raising.counts q) in
          rw w.after (omega (arith, count_now q true w.test, below, before, was))
      | inr w ↦ rw (← w.alike) (ap (λ (n : ℕ). n + one (is_under rest q)) (count_now q false w.test) ∙ raising.counts q)
    ];
    has = λ q is. elim (by_parent rest above parent q) [
      | inl w ↦ absurd (cc)
      | inr w ↦ has_elsewhere nodes new above node set q w.test ∙ raising.has q (w.alike ∙ is)
    ];
  }

  pub lowering_next : IsLowering old nodes key rest → node.below + 1 ≡ count_in nodes above → IsLowering old new key above
  lowering_next lowering below = record {
    kinds = λ q. kinds_stay q ∙ lowering.kinds q;
    counts = λ q. elim (by_parent rest above parent q) [
      | inl w ↦
          let before : count_in nodes above ≡ count_in nodes q = ap (λ (k : List ℕ). count_in nodes k) w.same in
          let was : count_in nodes q + one (is_under key q) ≡ count_in old q + 1 = subst (λ (b : Bool). count_in nodes q + one (is_under key q) ≡ count_in old q + one b) w.before (lowering.counts q) in
          rw w.after (omega (arith, count_now q true w.test, below, before, was))
      | inr w ↦ rw (← w.alike) (ap (λ (n : ℕ). n + one (is_under key q)) (count_now q false w.test) ∙ lowering.counts q)
    ];
  }

-- the parent's count is there to be lowered
pub parent_counts : {Y : Type 0} (old nodes : BTreeMap (String Y) Node) (key rest above : List ℕ) → IsParent rest above → IsLowering old nodes key rest → one (is_under key above) ≤ count_in old above → 0 < count_in nodes above
parent_counts old nodes key rest above parent lowering some =
    elim (by_parent rest above parent above) [
      | inl w ↦
          let was : count_in nodes above + one (is_under key above) ≡ count_in old above + 1 = subst (λ (b : Bool). count_in nodes above + one (is_under key above) ≡ count_in old above + one b) w.before (lowering.counts above) in
          omega (arith, was, some)
      | inr w ↦ absurd (cc (nat_list_eq_equiv.refl above))
    ]
