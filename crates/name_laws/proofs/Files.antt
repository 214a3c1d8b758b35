-- The files and their writers, where the handle under one name changes and the mount's own names with it.
use Rattle.std.proofs.Common.{◌≡◌, ◌≢◌, ℕ, cond, Bool, true, false, if◌then◌else◌, List, Option, Some, None, inl, inr, refl, sym, ap, ◌∙◌, subst}
use Rattle.std.specs.FinSet as set
use Rattle.std.specs.FinMap as map
use Rattle.mp_types.specs.HandleName.{HandleName}
use Rattle.mp_rules.specs.Local.{LocalNames, with_dir, with_file, without_name}
use Rattle.upload_rules.specs.Upload.{Upload, written}
use Rattle.mount_model.specs.declared.handle.Handle.TheVariants.{Writing}
use Rattle.mount_model.specs.Handles.{Handle, Writer}
use Rattle.mount_model.specs.Writers.{is_under_way}
use Rattle.mount_model.specs.State.{names_behind}
use Rattle.run_laws.proofs.Handles.{Look, is_name, name-is, with_at, at-same, at-other, names as handle-names, some-writer}
use Rattle.name_laws.specs.Files.{IsBeingWritten, HasFiles, IsNoName, IsEmptyDir}
use Rattle.name_laws.proofs.Bytes.{GoesOn}
use Rattle.name_laws.proofs.Names.{keys, file-made, file-made-other, no-file-gone, dir-made, dir-removed, names-removed, names-kept}

-- the same handles under all names
pub files-look : (look now : Look) (names : LocalNames) → ((q : HandleName) → look q ≡ now q) → HasFiles look names → HasFiles now names
files-look look now names same has = record {
  each = λ q v stands way. has.each q v (same q ∙ stands) way;
  alone = λ q p v w first second v_way w_way one. has.alone q p v w (same q ∙ first) (same p ∙ second) v_way w_way one;
  owned = λ key size is. let old = has.owned key size is in record { name = old.name; writer = old.writer; stands = sym (same old.name) ∙ old.stands; under_way = old.under_way; key_is = old.key_is };
  apart = has.apart;
}

-- a handle in its own place
pub at-itself : (name : HandleName) (o : Option Handle) (look : Look) → look name ≡ o → (q : HandleName) → look q ≡ with_at name o look q
at-itself name o look here q = go (is_name q name) refl
  where
    go : (b : Bool) → is_name q name ≡ b → look q ≡ cond b o (look q)
    go true is = ap look (name-is q name is) ∙ here
    go false is = refl

-- What it takes that another handle stands under a name, with these names: where it writes, it has its file and no
-- other writer its key, and the other writers keep their files.
record Becomes (look : Look) (before : LocalNames) (name : HandleName) (o : Option Handle) (now : LocalNames) : Type 0 where
  own : (v : Writer) → o ≡ Some (Writing v) → is_under_way v.upload.state ≡ true → map.get now.files v.key ≡ Some (written v.upload)
  only : (q : HandleName) (v other : Writer) → q ≢ name → o ≡ Some (Writing v) → look q ≡ Some (Writing other) → is_under_way v.upload.state ≡ true → is_under_way other.upload.state ≡ true → other.key ≢ v.key
  others : (q : HandleName) (v : Writer) → q ≢ name → look q ≡ Some (Writing v) → is_under_way v.upload.state ≡ true → map.get now.files v.key ≡ map.get before.files v.key
  owned : (key : List ℕ) (size : ℕ) → map.get now.files key ≡ Some size → IsBeingWritten (with_at name o look) key
  apart : (key : List ℕ) → set.contains now.dirs key ≡ true → map.get now.files key ≡ None

files-become : (look : Look) (before : LocalNames) (name : HandleName) (o : Option Handle) (now : LocalNames) → HasFiles look before → Becomes look before name o now → HasFiles (with_at name o look) now
files-become look before name o now has becomes = record { each = each; alone = alone; owned = becomes.owned; apart = becomes.apart }
  where
    behind : Look
    behind = with_at name o look

    here : (q : HandleName) (h : Option Handle) → q ≡ name → behind q ≡ h → o ≡ h
    here q h is stands = sym (ap behind is ∙ at-same name o look) ∙ stands

    there : (q : HandleName) (h : Option Handle) → q ≢ name → behind q ≡ h → look q ≡ h
    there q h apart stands = sym (at-other name o look q apart) ∙ stands

    each : (q : HandleName) (v : Writer) → behind q ≡ Some (Writing v) → is_under_way v.upload.state ≡ true → map.get now.files v.key ≡ Some (written v.upload)
    each q v stands way = elim (handle-names q name) [
      | inl is ↦ becomes.own v (here q (Some (Writing v)) is stands) way
      | inr apart ↦ (let old = there q (Some (Writing v)) apart stands in becomes.others q v apart old way ∙ has.each q v old way)
    ]

    alone : (q p : HandleName) (v w : Writer) → behind q ≡ Some (Writing v) → behind p ≡ Some (Writing w) → is_under_way v.upload.state ≡ true → is_under_way w.upload.state ≡ true → v.key ≡ w.key → q ≡ p
    alone q p v w first second v_way w_way one = elim (handle-names q name) [
      | inl q_is ↦ elim (handle-names p name) [
        | inl p_is ↦ q_is ∙ sym p_is
        | inr p_apart ↦ absurd (becomes.only p v w p_apart (here q (Some (Writing v)) q_is first) (there p (Some (Writing w)) p_apart second) v_way w_way (sym one))
      ]
      | inr q_apart ↦ elim (handle-names p name) [
        | inl p_is ↦ absurd (becomes.only q w v q_apart (here p (Some (Writing w)) p_is second) (there q (Some (Writing v)) q_apart first) w_way v_way one)
        | inr p_apart ↦ has.alone q p v w (there q (Some (Writing v)) q_apart first) (there p (Some (Writing w)) p_apart second) v_way w_way one
      ]
    ]

-- a writer under another name stays
moves : (look : Look) (name : HandleName) (o : Option Handle) (key : List ℕ) → IsBeingWritten look key → ((w : Writer) → look name ≡ Some (Writing w) → is_under_way w.upload.state ≡ true → w.key ≡ key → IsBeingWritten (with_at name o look) key) → IsBeingWritten (with_at name o look) key
moves look name o key old here = elim (handle-names old.name name) [
  | inl is ↦ here old.writer (ap look (sym is) ∙ old.stands) old.under_way old.key_is
  | inr apart ↦ record { name = old.name; writer = old.writer; stands = at-other name o look old.name apart ∙ old.stands; under_way = old.under_way; key_is = old.key_is }
]

-- no writer comes and none goes
pub files-unwritten : (look : Look) (before : LocalNames) (name : HandleName) (o : Option Handle) → ((v : Writer) → look name ≡ Some (Writing v) → ⊥) → ((v : Writer) → o ≡ Some (Writing v) → ⊥) → HasFiles look before → HasFiles (with_at name o look) before
files-unwritten look before name o none_before none has = files-become look before name o before has (record {
  own = λ v stands way. absurd (none v stands);
  only = λ q v other apart stands there v_way way. absurd (none v stands);
  others = λ q v apart stands way. refl;
  owned = λ key size is. moves look name o key (has.owned key size is) (λ w stands way key_is. absurd (none_before w stands));
  apart = has.apart;
})

-- a directory is made, where no name was
pub files-made : (look : Look) (before : LocalNames) (key : List ℕ) → IsNoName before key → HasFiles look before → HasFiles look (with_dir key before)
files-made look before key free has = record {
  each = has.each;
  alone = has.alone;
  owned = has.owned;
  apart = λ q is. elim (keys q key) [
    | inl here ↦ ap (map.get before.files) here ∙ free.no_file
    | inr apart ↦ has.apart q (sym (dir-made before.dirs key q apart) ∙ is)
  ];
}

-- one is removed
pub files-removed : (look : Look) (before : LocalNames) (key : List ℕ) → IsEmptyDir before key → HasFiles look before → HasFiles look (without_name key before)
files-removed look before key empty has = record {
  each = λ q v stands way. stay v.key ∙ has.each q v stands way;
  alone = has.alone;
  owned = λ q size is. has.owned q size (sym (stay q) ∙ is);
  apart = λ q is. stay q ∙ has.apart q (dir-removed before.dirs key q is);
}
  where
    stay : (q : List ℕ) → map.get (without_name key before).files q ≡ map.get before.files q
    stay = no-file-gone before key (has.apart key empty.is_dir)

-- a file is made, where no name was
pub files-created : (look : Look) (before : LocalNames) (name : HandleName) (w : Writer) → IsNoName before w.key → ((v : Writer) → look name ≡ Some (Writing v) → ⊥) → is_under_way w.upload.state ≡ true → HasFiles look before → HasFiles (with_at name (Some (Writing w)) look) (with_file w.key (written w.upload) before)
files-created look before name w free none_before way has = files-become look before name o now has (record {
  own = λ v stands v_way. let same = some-writer w v stands in ap (λ (x : Writer). map.get now.files x.key) (sym same) ∙ file-made before w.key (written w.upload) ∙ ap (λ (x : Writer). Some (written x.upload)) same;
  only = λ q v other apart stands there v_way other_way one. apart_from q other there other_way (one ∙ ap (λ (x : Writer). x.key) (sym (some-writer w v stands)));
  others = λ q v apart stands v_way. file-made-other before w.key (written w.upload) v.key (apart_from q v stands v_way);
  owned = λ key size is. elim (keys key w.key) [
    | inl here ↦ record { name = name; writer = w; stands = at-same name o look; under_way = way; key_is = sym here }
    | inr apart ↦ moves look name o key (has.owned key size (sym (file-made-other before w.key (written w.upload) key apart) ∙ is)) (λ v stands v_way key_is. absurd (none_before v stands))
  ];
  apart = λ key is. elim (keys key w.key) [
    | inl here ↦ absurd (let made : set.contains before.dirs w.key ≡ true = ap (set.contains before.dirs) (sym here) ∙ is in let free_dir = free.no_dir in cc)
    | inr apart ↦ file-made-other before w.key (written w.upload) key apart ∙ has.apart key is
  ];
})
  where
    o : Option Handle
    o = Some (Writing w)

    now : LocalNames
    now = with_file w.key (written w.upload) before

    apart_from : (q : HandleName) (v : Writer) → look q ≡ Some (Writing v) → is_under_way v.upload.state ≡ true → v.key ≢ w.key
    apart_from q v stands v_way same = let some = has.each q v stands v_way in let none : map.get before.files v.key ≡ None = ap (map.get before.files) same ∙ free.no_file in absurd (cc)

-- a file has more bytes
pub files-grown : (look : Look) (before : LocalNames) (name : HandleName) (old w : Writer) → look name ≡ Some (Writing old) → is_under_way old.upload.state ≡ true → w.key ≡ old.key → is_under_way w.upload.state ≡ true → HasFiles look before → HasFiles (with_at name (Some (Writing w)) look) (with_file w.key (written w.upload) before)
files-grown look before name old w here old_way key_is way has = files-become look before name o now has (record {
  own = λ v stands v_way. let same = some-writer w v stands in ap (λ (x : Writer). map.get now.files x.key) (sym same) ∙ file-made before w.key (written w.upload) ∙ ap (λ (x : Writer). Some (written x.upload)) same;
  only = λ q v other apart stands there v_way other_way one. apart_from q other apart there other_way (one ∙ ap (λ (x : Writer). x.key) (sym (some-writer w v stands)));
  others = λ q v apart stands v_way. file-made-other before w.key (written w.upload) v.key (apart_from q v apart stands v_way);
  owned = λ key size is. elim (keys key w.key) [
    | inl same ↦ record { name = name; writer = w; stands = at-same name o look; under_way = way; key_is = sym same }
    | inr apart ↦ moves look name o key (has.owned key size (sym (file-made-other before w.key (written w.upload) key apart) ∙ is)) (λ v stands v_way v_key. absurd (apart (sym v_key ∙ ap (λ (x : Writer). x.key) (sym (some-writer old v (sym here ∙ stands))) ∙ sym key_is)))
  ];
  apart = λ key is. elim (keys key w.key) [
    | inl same ↦ absurd (let none : map.get before.files old.key ≡ None = ap (map.get before.files) (sym key_is ∙ sym same) ∙ has.apart key is in let some = has.each name old here old_way in cc)
    | inr apart ↦ file-made-other before w.key (written w.upload) key apart ∙ has.apart key is
  ];
})
  where
    o : Option Handle
    o = Some (Writing w)

    now : LocalNames
    now = with_file w.key (written w.upload) before

    apart_from : (q : HandleName) (v : Writer) → q ≢ name → look q ≡ Some (Writing v) → is_under_way v.upload.state ≡ true → v.key ≢ w.key
    apart_from q v apart stands v_way same = apart (has.alone q name v old stands here v_way old_way (same ∙ key_is))

-- What is left of a writer behind its turn: the handle is still the writer's, with this upload, or none where it is no longer
-- under way.
pub record IsLeft (o : Option Handle) (key : List ℕ) (final : Upload) : Type 0 where
  pub is : (v : Writer) → o ≡ Some (Writing v) → (v.key ≡ key) × (v.upload ≡ final)
  pub stays : is_under_way final.state ≡ true → (v : Writer) × (o ≡ Some (Writing v))

-- its file goes with it
pub files-left : (look : Look) (before : LocalNames) (name : HandleName) (old : Writer) (o : Option Handle) (final : Upload) → look name ≡ Some (Writing old) → GoesOn old.upload final → IsLeft o old.key final → HasFiles look before → HasFiles (with_at name o look) (if is_under_way old.upload.state then names_behind final.state old.key before else before)
files-left look before name old o final here goes left has = go (is_under_way old.upload.state) (is_under_way final.state) refl refl
  where
    own_way : (v : Writer) → o ≡ Some (Writing v) → is_under_way final.state ≡ false → is_under_way v.upload.state ≡ true → ⊥
    own_way v stands ends way = let ended : is_under_way v.upload.state ≡ false = ap (λ (u : Upload). is_under_way u.state) (left.is v stands).1 ∙ ends in absurd (cc)

    old_key : (v : Writer) (key : List ℕ) → look name ≡ Some (Writing v) → v.key ≡ key → old.key ≡ key
    old_key v key stands key_is = ap (λ (x : Writer). x.key) (some-writer old v (sym here ∙ stands)) ∙ key_is

    old_way : (v : Writer) → look name ≡ Some (Writing v) → is_under_way v.upload.state ≡ true → is_under_way old.upload.state ≡ true
    old_way v stands way = ap (λ (x : Writer). is_under_way x.upload.state) (some-writer old v (sym here ∙ stands)) ∙ way

    goes_on : is_under_way final.state ≡ true → HasFiles (with_at name o look) before
    goes_on way = files-become look before name o before has (record {
      own = λ v stands v_way.
          let is = left.is v stands in
          ap (map.get before.files) is.0 ∙ has.each name old here (goes.was way) ∙ sym (ap (λ (u : Upload). Some (written u)) is.1 ∙ ap (λ (size : ℕ). Some size) (goes.same way));
      only = λ q v other apart stands there v_way other_way one. apart (has.alone q name other old there here other_way (goes.was way) (one ∙ (left.is v stands).0));
      others = λ q v apart stands v_way. refl;
      owned = λ key size is. moves look name o key (has.owned key size is) (λ v stands v_way key_is.
          let now = left.stays way in
          let is = left.is now.0 now.1 in
          record { name = name; writer = now.0; stands = at-same name o look ∙ now.1; under_way = ap (λ (u : Upload). is_under_way u.state) is.1 ∙ way; key_is = is.0 ∙ old_key v key stands key_is });
      apart = has.apart;
    })

    ends_now : is_under_way old.upload.state ≡ true → is_under_way final.state ≡ false → HasFiles (with_at name o look) (names_behind final.state old.key before)
    ends_now was ends =
        let removed = names-removed final.state old.key before ends in
        files-become look before name o (names_behind final.state old.key before) has (record {
          own = λ v stands way. absurd (own_way v stands ends way);
          only = λ q v other apart stands there way other_way. absurd (own_way v stands ends way);
          others = λ q v apart stands way. removed.others v.key (λ same. apart (has.alone q name v old stands here way was same));
          owned = λ key size is. elim (keys key old.key) [
            | inl same ↦ absurd (let none : map.get (names_behind final.state old.key before).files key ≡ None = ap (map.get (names_behind final.state old.key before).files) same ∙ removed.gone in cc)
            | inr apart ↦ moves look name o key (has.owned key size (sym (removed.others key apart) ∙ is)) (λ v stands way key_is. absurd (apart (sym (old_key v key stands key_is))))
          ];
          apart = λ key is. elim (keys key old.key) [
            | inl same ↦ ap (map.get (names_behind final.state old.key before).files) same ∙ removed.gone
            | inr apart ↦ removed.others key apart ∙ has.apart key (removed.dirs key is)
          ];
        })

    ended_before : is_under_way old.upload.state ≡ false → is_under_way final.state ≡ false → HasFiles (with_at name o look) before
    ended_before was ends = files-become look before name o before has (record {
      own = λ v stands way. absurd (own_way v stands ends way);
      only = λ q v other apart stands there way other_way. absurd (own_way v stands ends way);
      others = λ q v apart stands way. refl;
      owned = λ key size is. moves look name o key (has.owned key size is) (λ v stands way key_is. absurd (let old_is = old_way v stands way in cc));
      apart = has.apart;
    })

    go : (was way : Bool) → is_under_way old.upload.state ≡ was → is_under_way final.state ≡ way → HasFiles (with_at name o look) (if was then names_behind final.state old.key before else before)
    go true true was way = subst (HasFiles (with_at name o look)) (sym (names-kept final.state old.key before way)) (goes_on way)
    go true false was way = ends_now was way
    go false true was way = goes_on way
    go false false was way = ended_before was way
