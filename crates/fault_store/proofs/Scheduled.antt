-- Changes that are put in order, one by one from the end of the list.
use Rattle.std.proofs.Common.{◌≡◌, ℕ, Bool, true, false, cond, List, [], ◌∷◌, ◌++◌, Option, Some, None, refl, sym, ap, ◌∙◌, subst, append_assoc, BTreeMap, unwrap_or, nat_cmp, is_eq, eqb-true}
use Rattle.std.specs.BTreeMap as tree
use Rattle.std.specs.List.{AllByRecursion}
use Rattle.std.specs.Global.{Vec}
use Rattle.std.specs.Prelude.{nat_eq}
use Rattle.std.proofs.lemmas.Cmp.{ranked}
use Rattle.bucket_model.specs.declared.call.Call.{Call}
use Rattle.bucket_model.specs.History.{IsChange}
use Rattle.fault_store.specs.declared.change.Change.{Change}
use Rattle.fault_store.specs.Change.{call_of, calls_of}
use Rattle.fault_store.specs.Meddled.{calls_in, changes_at, changes_for}
use Rattle.fault_store.proofs.Listed.{same_test}

-- the changes in the map come behind those that are left of the list
pub record IsScheduled (all left : List (ℕ × Call)) (listed : BTreeMap ℕ (Vec Change)) : Type 0 where
  pub changes : AllByRecursion (λ change. IsChange change.1) left
  pub order : (number : ℕ) → changes_for number all ≡ changes_for number left ++ changes_at listed number

-- the last one kept is the first to be made
pub calls_of-push : (changes : List Change) (change : Change) → calls_of (changes ++ change ∷ []) ≡ call_of change ∷ calls_of changes
calls_of-push [] change = refl
calls_of-push (first ∷ changes) change = ap (λ cs. cs ++ call_of first ∷ []) (calls_of-push changes change)

pub front_all : {X : Type 0} (P : X → Type 0) (xs : List X) (x : X) → AllByRecursion P (xs ++ x ∷ []) → AllByRecursion P xs × P x
front_all P [] x all = (tt, all.0)
front_all P (y ∷ xs) x all = let rest = front_all P xs x all.1 in ((all.0, rest.0), rest.1)

pub changes_for-push : (number at : ℕ) (asked : Call) (changes : List (ℕ × Call)) → changes_for number (changes ++ (at, asked) ∷ []) ≡ changes_for number changes ++ cond (nat_eq at number) (asked ∷ []) []
changes_for-push number at asked [] = by_test (nat_eq at number) refl
  where
    by_test : (b : Bool) → nat_eq at number ≡ b → changes_for number ((at, asked) ∷ []) ≡ cond (nat_eq at number) (asked ∷ []) []
    by_test true e = rw e refl
    by_test false e = rw e refl
changes_for-push number at asked (change ∷ changes) = by_test (nat_eq change.0 number) refl (changes_for-push number at asked changes)
  where
    by_test : (b : Bool) → nat_eq change.0 number ≡ b → changes_for number (changes ++ (at, asked) ∷ []) ≡ changes_for number changes ++ cond (nat_eq at number) (asked ∷ []) []
        → changes_for number (change ∷ changes ++ (at, asked) ∷ []) ≡ changes_for number (change ∷ changes) ++ cond (nat_eq at number) (asked ∷ []) []
    by_test true e rest = rw e (ap (λ cs. change.1 ∷ cs) rest)
    by_test false e rest = rw e rest

fresh_or_same : (removed : Option (Vec Change)) (fresh same grown : Vec Change) (change : Change) → fresh.items ≡ [] → same ≡ unwrap_or removed fresh → grown.items ≡ same.items ++ change ∷ [] → calls_of grown.items ≡ call_of change ∷ calls_in removed
fresh_or_same None fresh same grown change empty is grows =
    ap calls_of grows ∙ ap (λ (v : Vec Change). calls_of (v.items ++ change ∷ [])) is ∙ ap (λ cs. calls_of (cs ++ change ∷ [])) empty
fresh_or_same (Some kept) fresh same grown change empty is grows =
    ap calls_of grows ∙ ap (λ (v : Vec Change). calls_of (v.items ++ change ∷ [])) is ∙ calls_of-push kept.items change

-- what the map has for a number, where a change is put in front for one
put_for : (test : Bool) (asked : Call) (removed before between after : Option (Vec Change)) (grown : Vec Change) → calls_of grown.items ≡ asked ∷ calls_in removed → (test ≡ true → removed ≡ before)
    → between ≡ cond test None before → after ≡ cond test (Some grown) between → cond test (asked ∷ []) [] ++ calls_in before ≡ calls_in after
put_for true asked removed before between after grown grows same takes puts = ap (λ o. asked ∷ calls_in o) (sym (same refl)) ∙ sym grows ∙ sym (ap calls_in puts)
put_for false asked removed before between after grown grows same takes puts = sym (ap calls_in (puts ∙ takes))

pub scheduled_next : (all left rest : List (ℕ × Call)) (listed between after : BTreeMap ℕ (Vec Change)) (at : ℕ) (asked : Call) (change : Change) (removed : Option (Vec Change)) (fresh same grown : Vec Change)
    → IsScheduled all left listed → left ≡ rest ++ (at, asked) ∷ [] → call_of change ≡ asked → fresh.items ≡ [] → same ≡ unwrap_or removed fresh → grown.items ≡ same.items ++ change ∷ []
    → removed ≡ tree.get nat_cmp listed at
    → ((q : ℕ) → tree.get nat_cmp between q ≡ cond (is_eq (nat_cmp at q)) None (tree.get nat_cmp listed q))
    → ((q : ℕ) → tree.get nat_cmp after q ≡ cond (is_eq (nat_cmp at q)) (Some grown) (tree.get nat_cmp between q))
    → IsScheduled all rest after
scheduled_next all left rest listed between after at asked change removed fresh same grown scheduled last is empty same_is grows found takes puts = record {
  changes = (front_all (λ (c : ℕ × Call). IsChange c.1) rest (at, asked) (subst (AllByRecursion (λ (c : ℕ × Call). IsChange c.1)) last scheduled.changes)).0;
  order = λ number.
      let test : is_eq (nat_cmp at number) ≡ nat_eq at number = same_test (nat_cmp at number) at number (ranked at number _ refl) in
      let here : cond (nat_eq at number) (asked ∷ []) [] ++ changes_at listed number ≡ changes_at after number =
      put_for (nat_eq at number) asked removed (tree.get nat_cmp listed number) (tree.get nat_cmp between number) (tree.get nat_cmp after number) grown (fresh_or_same removed fresh same grown change empty same_is grows ∙ ap (λ c. c ∷ calls_in removed) is)
      (λ ties. found ∙ ap (λ q. tree.get nat_cmp listed q) (eqb-true at number ties)) (takes number ∙ ap (λ b. cond b None (tree.get nat_cmp listed number)) test)
      (puts number ∙ ap (λ b. cond b (Some grown) (tree.get nat_cmp between number)) test) in
      scheduled.order number ∙ ap (λ cs. changes_for number cs ++ changes_at listed number) last ∙ ap (λ cs. cs ++ changes_at listed number) (changes_for-push number at asked rest)
      ∙ append_assoc (changes_for number rest) (cond (nat_eq at number) (asked ∷ []) []) (changes_at listed number) ∙ ap (λ cs. changes_for number rest ++ cs) here;
}
