-- What a table of names holds, where names are put into it and taken out of it.
use Rattle.std.proofs.Common.{◌≡◌, ◌≢◌, Bool, true, false, cond, Option, Some, None, refl, sym, ap, ◌∙◌}
use Rattle.std.specs.BTreeMap.{is_at}
use Rattle.std.specs.FinMap.{FinMap, get, insert, remove, get-insert, get-remove, same_map}
use Rattle.mp_types.specs.HandleName.{HandleName, name_cmp}
use Rattle.mp_handles.proofs.Names.{name_cmp_total, exact_names, same_name, name_is_itself}
use Rattle.mp_handles.proofs.Steps.{remove_absent}

module _ {T : Type 0} where
  -- the outer choice goes before the inner one at the same test
  chosen_over : (b : Bool) (outer inner other : Option T) → cond b outer (cond b inner other) ≡ cond b outer other
  chosen_over true outer inner other = refl
  chosen_over false outer inner other = refl

  -- a name has what was put under it last
  pub get_put : (m : FinMap name_cmp T) (name : HandleName) (value : T) → get (insert m name value) name ≡ Some value
  get_put m name value = get-insert name_cmp_total m name value name ∙ ap (λ b. cond b (Some value) (get m name)) (name_is_itself name)

  -- and each other name has what it had
  pub get_beside : (m : FinMap name_cmp T) (name : HandleName) (value : T) (other : HandleName) → other ≢ name → get (insert m name value) other ≡ get m other
  get_beside m name value other apart = get-insert name_cmp_total m name value other ∙ by (is_at (name_cmp other) name) refl
    where
      by : (b : Bool) → is_at (name_cmp other) name ≡ b → cond b (Some value) (get m other) ≡ get m other
      by true at = absurd (apart (same_name other name at))
      by false at = refl

  -- what is put under a name goes before what was put there
  pub put_over : (m : FinMap name_cmp T) (name : HandleName) (first last : T) → insert (insert m name first) name last ≡ insert m name last
  put_over m name first last = same_map name_cmp_total exact_names _ _ (λ q.
      get-insert name_cmp_total (insert m name first) name last q
      ∙ ap (cond (is_at (name_cmp q) name) (Some last)) (get-insert name_cmp_total m name first q)
      ∙ chosen_over (is_at (name_cmp q) name) (Some last) (Some first) (get m q)
      ∙ sym (get-insert name_cmp_total m name last q))

  -- what stands under a name may be put there again
  pub put_again : (m : FinMap name_cmp T) (name : HandleName) (value : T) → get m name ≡ Some value → insert m name value ≡ m
  put_again m name value stands = same_map name_cmp_total exact_names _ _ (λ q. get-insert name_cmp_total m name value q ∙ by q (is_at (name_cmp q) name) refl)
    where
      by : (q : HandleName) (b : Bool) → is_at (name_cmp q) name ≡ b → cond b (Some value) (get m q) ≡ get m q
      by q true at = sym stands ∙ ap (get m) (sym (same_name q name at))
      by q false at = refl

  -- what was put under a name goes with the name
  pub remove_put : (m : FinMap name_cmp T) (name : HandleName) (value : T) → remove (insert m name value) name ≡ remove m name
  remove_put m name value = same_map name_cmp_total exact_names _ _ (λ q.
      get-remove name_cmp_total (insert m name value) name q
      ∙ ap (cond (is_at (name_cmp q) name) None) (get-insert name_cmp_total m name value q)
      ∙ chosen_over (is_at (name_cmp q) name) None (Some value) (get m q)
      ∙ sym (get-remove name_cmp_total m name q))

  -- and where the name was free, the table is as it was
  pub remove_new : (m : FinMap name_cmp T) (name : HandleName) (value : T) → get m name ≡ None → remove (insert m name value) name ≡ m
  remove_new m name value free = remove_put m name value ∙ remove_absent m name free
