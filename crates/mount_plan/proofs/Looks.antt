-- What a request with a path does by what stands there.
use Rattle.std.proofs.Common.{◌≡◌, ℕ, List, [], ◌∷◌, Option, Bor, None, Some, option_copied, is_some, false, slice_get, Ok, refl, sym, subst, ap, ◌∙◌}
use Rattle.mp_types.specs.Path.{joined}
use Rattle.mp_types.specs.declared.errno.Errno.TheVariants.{Eisdir}
use Rattle.mp_rules.specs.declared.entry.Entry.{Entry as Stands}
use Rattle.bucket_model.specs.declared.answer.Brief.{Brief}
use Rattle.bucket_model.specs.declared.answer.Brief.TheVariants as brief
use Rattle.mount_model.specs.declared.standing.Heard.{Heard}
use Rattle.mount_model.specs.Handles.{Handle}
use Rattle.mount_model.specs.Conversation.{Next, View, along, fails, unlink_at, unlink_next}
use Rattle.mount_plan.specs.declared.lookup.Found.{Found}
use Rattle.mount_plan.specs.declared.lookup.Found.TheVariants.{Entry}
use Rattle.mount_plan.specs.declared.planned.LinePlan.{LinePlan}
use Rattle.mount_plan.specs.Gone.{is_gone}
use Rattle.mount_plan.specs.Looked.{IsFound}
use Rattle.mount_plan.specs.Meant.{MeansOne}

-- an entry is that of the path's key
pub goes_by : (plan : LinePlan) (view : View) (root : Next) (at : List ℕ → Stands → Next) (names : List (List ℕ)) (heard : Heard) (found : Found) (key : Bor (List ℕ)) (entry : Stands) → found ≡ Entry key entry → IsFound names view heard found → MeansOne plan (at key.now entry)
    → MeansOne plan (along view root (at (joined names)) names heard)
goes_by plan view root at names heard found key entry is there means =
    let stands = subst (IsFound names view heard) is there in
    subst (MeansOne plan) (sym (stands.2 root (at (joined names)) ∙ ap (λ (k : List ℕ). at k entry) (sym stands.0))) means

pub not_live : (live : Option (Bor Handle)) → is_some live ≡ false → option_copied live ≡ None
not_live None none = refl
not_live (Some handle) none = absurd (cc)

-- until its object is gone, an unlink walks
pub walks : (plan : LinePlan) (view : View) (names : List (List ℕ)) (heard : Heard) → is_gone (slice_get heard.answers 0) ≡ false → MeansOne plan (along view (fails Eisdir) (unlink_at view.options.allow_delete (joined names)) names heard)
    → MeansOne plan (unlink_next view (Ok names) heard)
walks plan view names heard there means = subst (MeansOne plan) (sym (by_answers heard.answers there)) means
  where
    by_answers : (answers : List Brief) → is_gone (slice_get answers 0) ≡ false → unlink_next view (Ok names) (record { facts = heard.facts; answers = answers }) ≡ along view (fails Eisdir) (unlink_at view.options.allow_delete (joined names)) names (record { facts = heard.facts; answers = answers })
    by_answers [] there = refl
    by_answers (brief.Found etag size ∷ answers) there = refl
    by_answers (brief.Missing ∷ answers) there = refl
    by_answers (brief.Yes ∷ answers) there = refl
    by_answers (brief.No ∷ answers) there = refl
    by_answers (brief.Page page ∷ answers) there = refl
    by_answers (brief.Bytes count ∷ answers) there = refl
    by_answers (brief.Changed ∷ answers) there = refl
    by_answers (brief.Gone ∷ answers) there = absurd (cc)
    by_answers (brief.Made etag ∷ answers) there = refl
    by_answers (brief.Upload upload ∷ answers) there = refl
    by_answers (brief.Stored ∷ answers) there = refl
    by_answers (brief.NoUpload ∷ answers) there = refl
    by_answers (brief.Fault ∷ answers) there = refl
    by_answers (brief.NoMemory ∷ answers) there = refl
