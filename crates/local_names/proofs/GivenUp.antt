-- How far the loop has come that gives up the directories above a key: those above the rest are still to go.
use Rattle.std.proofs.Common.{◌≡◌, ℕ, Bool, true, false, not, ◌&&◌, ◌||◌, List, [], ◌∷◌, refl, sym, ap, ◌∙◌}
use Rattle.std.proofs.lemmas.Map.Text.{is_eq-slice_cmp}
use Rattle.std.specs.Cmp.Lexicographic.{slice_cmp, nat_list_cmp_total, nat_list_eq_equiv}
use Rattle.std.specs.FinSet as set
use Rattle.std.specs.Ordering.{nat_cmp}
use Rattle.std.specs.Str.{bytes_eq}
use Rattle.mp_rules.specs.Keys.{is_below, is_under}
use Rattle.mp_rules.specs.Local.{Keys, LocalNames, without_dirs_above}
use Rattle.local_names.specs.Under.{IsParent}
use Rattle.local_names.specs.Names.{without_dir}
use Rattle.local_names.proofs.Under.{both_false}
use Rattle.local_names.proofs.Counts.{retained}
use Rattle.local_names.proofs.Names.{distinct, same_keys}

abbrev not_above : List ℕ → List ℕ → Bool
not_above key dir = not (is_below key dir)

pub record IsGivingUp (old names : LocalNames) (key rest : List ℕ) : Type 0 where
  pub files : names.files ≡ old.files
  pub dirs : set.retain names.dirs (not_above rest) ≡ set.retain old.dirs (not_above key)
  pub root : set.contains names.dirs [] ≡ false

in_retained : (key : List ℕ) (s : Keys) (q : List ℕ) → set.contains (set.retain s (not_above key)) q ≡ (set.contains s q && not_above key q)
in_retained key = retained nat_list_cmp_total distinct (not_above key)

in_removed : (above : List ℕ) (s : Keys) (q : List ℕ) → set.contains (set.remove s above) q ≡ (not (bytes_eq above q) && set.contains s q)
in_removed above s q =
    set.contains-remove nat_list_cmp_total s above q
    ∙ ap (λ (b : Bool). not b && set.contains s q) (is_eq-slice_cmp q above ∙ nat_list_eq_equiv.symm q above)

no_member : (e c u v : Bool) → c ≡ false → ((not e && c) && u) ≡ (c && v)
no_member e true u v none = absurd (cc)
no_member true false u v none = refl
no_member false false u v none = refl

turned : (e c u : Bool) → ((not e && c) && not u) ≡ (c && not (e || u))
turned true true u = refl
turned true false u = refl
turned false c u = refl

unchanged : (c : Bool) → (c && true) ≡ c
unchanged true = refl
unchanged false = refl

module _ (rest : List ℕ) (s : Keys) (root : set.contains s [] ≡ false) where
  one_less : (above : List ℕ) → IsParent rest above → (q : List ℕ) → ((not (bytes_eq above q) && set.contains s q) && not_above above q) ≡ (set.contains s q && not_above rest q)
  one_less above parent [] = no_member (bytes_eq above []) (set.contains s []) _ _ root
  one_less above parent (byte ∷ q) =
      turned (bytes_eq above (byte ∷ q)) (set.contains s (byte ∷ q)) (is_under above (byte ∷ q))
      ∙ ap (λ (b : Bool). set.contains s (byte ∷ q) && not b) (sym (parent.over (byte ∷ q)))

  turn : (above : List ℕ) → IsParent rest above → set.retain (set.remove s above) (not_above above) ≡ set.retain s (not_above rest)
  turn above parent = same_keys _ _ (λ q.
      in_retained above (set.remove s above) q ∙ ap (λ (b : Bool). b && not_above above q) (in_removed above s q)
      ∙ one_less above parent q ∙ sym (in_retained rest s q))

  none_less : ((q : List ℕ) → is_under rest q ≡ false) → (q : List ℕ) → (set.contains s q && not_above rest q) ≡ set.contains s q
  none_less none [] = ap (λ (b : Bool). b && not_above rest []) root ∙ sym root
  none_less none (byte ∷ q) = ap (λ (b : Bool). set.contains s (byte ∷ q) && not b) (none (byte ∷ q)) ∙ unchanged (set.contains s (byte ∷ q))

  last : ((q : List ℕ) → is_under rest q ≡ false) → set.retain s (not_above rest) ≡ s
  last none = same_keys _ _ (λ q. in_retained rest s q ∙ none_less none q)

pub given_next : (old names : LocalNames) (key rest above : List ℕ) → IsGivingUp old names key rest → IsParent rest above → IsGivingUp old (without_dir above names) key above
given_next old names key rest above given parent = record {
  files = given.files;
  dirs = turn rest names.dirs given.root above parent ∙ given.dirs;
  root = in_removed above names.dirs [] ∙ both_false (not (bytes_eq above [])) (set.contains names.dirs []) given.root;
}

pub given_last : (old names : LocalNames) (key rest : List ℕ) → IsGivingUp old names key rest → ((q : List ℕ) → is_under rest q ≡ false) → names ≡ without_dirs_above key old
given_last old names key rest given none i = record {
  dirs = (sym (last rest names.dirs given.root none) ∙ given.dirs) i;
  files = given.files i;
}

pub given_first : (old : LocalNames) (key : List ℕ) → set.contains old.dirs [] ≡ false → IsGivingUp old old key key
given_first old key root = record { files = refl; dirs = refl; root = root }

pub given_none : (names : LocalNames) (key : List ℕ) → names.dirs ≡ set.empty → names ≡ without_dirs_above key names
given_none names key none i = record {
  dirs = same_keys names.dirs (set.retain names.dirs (not_above key)) (λ q.
      let empty : set.contains names.dirs q ≡ false = ap (λ (s : Keys). set.contains s q) none ∙ set.contains-empty (slice_cmp nat_cmp) q in
      empty ∙ sym (in_retained key names.dirs q ∙ ap (λ (b : Bool). b && not_above key q) empty)) i;
  files = names.files;
}
