-- What holds of a writer after each happening: its parts and what is left behind them are the bytes that it took.
use Rattle.std.proofs.Common.{◌≡◌, ℕ, ◌+◌, ◌-◌, ◌≤◌, List, [], ◌∷◌, ◌++◌, length, drop, fold, Bool, true, Some, inl, inr, refl, sym, ap, ◌∙◌, subst, arith, append_assoc, eqb-true}
use Rattle.std.proofs.lemmas.List.{append-nil, length-append, length-take, length-drop}
use Rattle.mp_types.specs.declared.errno.Errno.{Errno}
use Rattle.mp_types.specs.declared.errno.Errno.TheVariants.{Enomem}
use Rattle.bucket_model.specs.Along.{Along}
use Rattle.upload_rules.specs.declared.upload.UpState.{UpState}
use Rattle.upload_rules.specs.declared.upload.UpState.TheVariants.{Open, Finished, Done, Failed}
use Rattle.upload_rules.specs.declared.upload.Created.{Created}
use Rattle.upload_rules.specs.declared.upload.Created.TheVariants.{Asked, Known, GivenUp}
use Rattle.upload_rules.specs.declared.upload.UpAsk.{UpAsk}
use Rattle.upload_rules.specs.declared.upload.UpAsk.TheVariants.{Create, Part, Complete, Abort}
use Rattle.upload_rules.specs.Upload.{Upload, new_upload, due, next_part, with_ask, with_back, with_state, fails_with}
use Rattle.upload_rules.specs.Run.{Happening, Takes, Finishes, Closes, Asks, Creates, Stores, Completes, Fails, Lacks, Drops, GivesUp, after, MayHappen, IsLife, upload_after, bytes_in, bytes_taken, part_asked, parts_from, parts_asked, joined, AreCut, HasFailed}
use Rattle.upload_rules.proofs.Due.{IsPartDue, MayGrow, upload, part-left, open-alive, finished-alive, due-is}
use Rattle.upload_rules.proofs.Parts.{AreFull, full-empty, full-push, cut-push, joined-push, take-then-drop}

-- these parts were asked for, and these bytes were taken
pub record Holds (part : ℕ) (u : Upload) (parts : List (List ℕ)) (taken : List ℕ) : Type 0 where
  pub part_is : u.part ≡ part
  pub behind : List ℕ
  pub bytes : joined parts ++ behind ≡ taken
  pub rest : (HasFailed u → ⊥) → behind ≡ u.rest
  pub count : length parts ≡ u.asked
  pub sent : length (joined parts) ≡ u.sent
  pub cut : AreCut part parts
  pub full : MayGrow u → AreFull part parts

-- calls come and go
kept : (part : ℕ) (u : Upload) (parts : List (List ℕ)) (taken : List ℕ) (created : Created) (stored pending : ℕ) (closing : Bool) → Holds part u parts taken → Holds part (upload u.part u.state created u.asked u.sent stored u.rest pending closing) parts taken
kept part u parts taken created stored pending closing h = record { part_is = h.part_is; behind = h.behind; bytes = h.bytes; rest = h.rest; count = h.count; sent = h.sent; cut = h.cut; full = h.full }

-- no part is asked for, and no bytes are taken
quiet : (part : ℕ) (u : Upload) (parts : List (List ℕ)) (taken : List ℕ) → Holds part u parts taken → Holds part u (parts ++ []) (taken ++ [])
quiet part u parts taken h = subst (λ (ps : List (List ℕ)). Holds part u ps (taken ++ [])) (sym (append-nil parts)) (subst (λ (bs : List ℕ). Holds part u parts bs) (sym (append-nil taken)) h)

-- bytes come while the writer is open
takes : (part : ℕ) (u : Upload) (parts : List (List ℕ)) (taken more : List ℕ) → u.state ≡ Open → Holds part u parts taken → Holds part (after u (Takes more)) (parts ++ []) (taken ++ more)
takes part u parts taken more opened h =
    let rest_is : h.behind ≡ u.rest = h.rest (open-alive u opened) in
    subst (λ (ps : List (List ℕ)). Holds part (after u (Takes more)) ps (taken ++ more)) (sym (append-nil parts))
    (record {
      part_is = h.part_is;
      behind = h.behind ++ more;
      bytes = sym (append_assoc (joined parts) h.behind more) ∙ ap (λ (bs : List ℕ). bs ++ more) h.bytes;
      rest = λ alive. ap (λ (bs : List ℕ). bs ++ more) rest_is;
      count = h.count;
      sent = h.sent;
      cut = h.cut;
      full = λ grows. h.full (inl opened);
    })

finishes : (part : ℕ) (u : Upload) (parts : List (List ℕ)) (taken : List ℕ) → u.state ≡ Open → Holds part u parts taken → Holds part (with_state Finished u) parts taken
finishes part u parts taken opened h =
    record { part_is = h.part_is; behind = h.behind; bytes = h.bytes; rest = λ alive. h.rest (open-alive u opened); count = h.count; sent = h.sent; cut = h.cut; full = λ grows. h.full (inl opened) }

completes : (part : ℕ) (u : Upload) (parts : List (List ℕ)) (taken : List ℕ) → u.state ≡ Finished → Holds part u parts taken → Holds part (with_state Done u) parts taken
completes part u parts taken finished h =
    record {
      part_is = h.part_is;
      behind = h.behind;
      bytes = h.bytes;
      rest = λ alive. h.rest (finished-alive u finished);
      count = h.count;
      sent = h.sent;
      cut = h.cut;
      full = λ grows. elim grows [ inl opened ↦ absurd (cc) | inr has ↦ h.full (inr has) ];
    }

-- what no part was asked for is let go
lets-go : (part : ℕ) (u : Upload) (parts : List (List ℕ)) (taken : List ℕ) (errno : Errno) → Holds part u parts taken → Holds part (upload u.part (Failed errno) u.created u.asked u.sent u.stored [] u.pending u.closing) parts taken
lets-go part u parts taken errno h =
    record {
      part_is = h.part_is;
      behind = h.behind;
      bytes = h.bytes;
      rest = λ alive. absurd (alive (errno, refl));
      count = h.count;
      sent = h.sent;
      cut = h.cut;
      full = λ grows. elim grows [ inl opened ↦ absurd (cc) | inr has ↦ full-empty part parts (h.count ∙ eqb-true u.asked 0 has) ];
    }

fails-at : (part size : ℕ) (state : UpState) (created : Created) (asked sent stored : ℕ) (rest : List ℕ) (pending : ℕ) (closing : Bool) (parts : List (List ℕ)) (taken : List ℕ) (errno : Errno) → Holds part (upload size state created asked sent stored rest pending closing) parts taken → Holds part (fails_with errno (upload size state created asked sent stored rest pending closing)) parts taken
fails-at part size Open created asked sent stored rest pending closing parts taken errno h = lets-go part (upload size Open created asked sent stored rest pending closing) parts taken errno h
fails-at part size Finished created asked sent stored rest pending closing parts taken errno h = lets-go part (upload size Finished created asked sent stored rest pending closing) parts taken errno h
fails-at part size Done created asked sent stored rest pending closing parts taken errno h = h
fails-at part size (Failed first) created asked sent stored rest pending closing parts taken errno h = h

fails : (part : ℕ) (u : Upload) (parts : List (List ℕ)) (taken : List ℕ) (errno : Errno) → Holds part u parts taken → Holds part (fails_with errno u) parts taken
fails part u parts taken errno h = fails-at part u.part u.state u.created u.asked u.sent u.stored u.rest u.pending u.closing parts taken errno h

-- where more parts may come behind this one, it is full
full-part : (u : Upload) (number from to : ℕ) → IsPartDue u number from to → MayGrow (with_ask (Part number from to) u) → u.part ≤ length u.rest
full-part u number from to d grows = elim d.full_or_last [
  | inl full ↦ full
  | inr last ↦ elim grows [
    | inl opened ↦ absurd (let same : Open ≡ Finished = sym opened ∙ last.0 in cc)
    | inr has ↦ elim (part-left (length (drop (to - from) u.rest)) (u.asked + 1) has) [
      | inl some ↦ omega (arith, d.from_is, d.to_is, length-drop (to - from) u.rest, length-take u.part u.rest)
      | inr none ↦ absurd (omega arith)
    ]
  ]
]

part-asked : (part : ℕ) (u : Upload) (parts : List (List ℕ)) (taken : List ℕ) (number from to : ℕ) → IsPartDue u number from to → Holds part u parts taken → Holds part (with_ask (Part number from to) u) (parts ++ next_part u ∷ []) taken
part-asked part u parts taken number from to d h =
    let rest_is : h.behind ≡ u.rest = h.rest d.alive in
    let size : to - from ≡ length (next_part u) = omega (arith, d.from_is, d.to_is) in
    let next_and_behind : next_part u ++ drop (to - from) u.rest ≡ u.rest = rw size (take-then-drop u.part u.rest) in
    let joined_is = joined-push parts (next_part u) in
    let full = h.full d.grows in
    let part_is = h.part_is in
    let next_len = length-take u.part u.rest in
    record {
      part_is = h.part_is;
      behind = drop (to - from) u.rest;
      bytes = ap (λ (bs : List ℕ). bs ++ drop (to - from) u.rest) joined_is ∙ (append_assoc (joined parts) (next_part u) (drop (to - from) u.rest) ∙ (ap (λ (bs : List ℕ). joined parts ++ bs) (next_and_behind ∙ sym rest_is) ∙ h.bytes));
      rest = λ alive. refl;
      count = omega (arith, h.count, length-append parts (next_part u ∷ []));
      sent = omega (arith, h.sent, d.to_is, ap length joined_is, length-append (joined parts) (next_part u));
      cut = cut-push part parts (next_part u) full (omega arith);
      full = λ grows. full-push part parts (next_part u) full (let fits = full-part u number from to d grows in omega arith);
    }

asks : (part : ℕ) (u : Upload) (parts : List (List ℕ)) (taken : List ℕ) (ask : UpAsk) → due u ≡ Some ask → Holds part u parts taken → Holds part (after u (Asks ask)) (parts ++ part_asked u (Asks ask)) (taken ++ [])
asks part u parts taken Create is h = quiet part (with_ask Create u) parts taken (kept part u parts taken Asked u.stored (u.pending + 1) u.closing h)
asks part u parts taken (Part number from to) is h = subst (λ (bs : List ℕ). Holds part (with_ask (Part number from to) u) (parts ++ next_part u ∷ []) bs) (sym (append-nil taken)) (part-asked part u parts taken number from to (due-is u (Part number from to) is) h)
asks part u parts taken (Complete count) is h = quiet part (with_ask (Complete count) u) parts taken (kept part u parts taken u.created u.stored (u.pending + 1) u.closing h)
asks part u parts taken Abort is h = quiet part (with_ask Abort u) parts taken (kept part u parts taken u.created u.stored (u.pending + 1) u.closing h)

step : (part : ℕ) (u : Upload) (parts : List (List ℕ)) (taken : List ℕ) (happening : Happening) → MayHappen u happening → Holds part u parts taken → Holds part (after u happening) (parts ++ part_asked u happening) (taken ++ bytes_in happening)
step part u parts taken (Takes more) may h = takes part u parts taken more may h
step part u parts taken Finishes may h = quiet part (after u Finishes) parts taken (finishes part u parts taken may h)
step part u parts taken Closes may h = quiet part (after u Closes) parts taken (kept part u parts taken u.created u.stored u.pending true h)
step part u parts taken (Asks ask) may h = asks part u parts taken ask may h
step part u parts taken (Creates id) may h = quiet part (after u (Creates id)) parts taken (kept part u parts taken (Known id) u.stored (u.pending - 1) u.closing h)
step part u parts taken Stores may h = quiet part (after u Stores) parts taken (kept part u parts taken u.created (u.stored + 1) (u.pending - 1) u.closing h)
step part u parts taken Completes may h = quiet part (after u Completes) parts taken (kept part (with_state Done u) parts taken u.created u.stored (u.pending - 1) u.closing (completes part u parts taken may.0 h))
step part u parts taken (Fails errno) may h = quiet part (after u (Fails errno)) parts taken (fails part (with_back u) parts taken errno (kept part u parts taken u.created u.stored (u.pending - 1) u.closing h))
step part u parts taken Lacks may h = quiet part (after u Lacks) parts taken (fails part u parts taken Enomem h)
step part u parts taken Drops may h = quiet part (after u Drops) parts taken (kept part u parts taken u.created u.stored (u.pending - 1) u.closing h)
step part u parts taken GivesUp may h = quiet part (after u GivesUp) parts taken (kept part u parts taken GivenUp u.stored (u.pending - 1) u.closing h)

along : (part : ℕ) (u : Upload) (parts : List (List ℕ)) (taken : List ℕ) (happenings : List Happening) → Along MayHappen after u happenings → Holds part u parts taken → Holds part (fold after u happenings) (parts ++ parts_from u happenings) (taken ++ bytes_taken happenings)
along part u parts taken [] run h = quiet part u parts taken h
along part u parts taken (happening ∷ happenings) run h =
    let next = along part (after u happening) (parts ++ part_asked u happening) (taken ++ bytes_in happening) happenings run.1 (step part u parts taken happening run.0 h) in
    subst (λ (ps : List (List ℕ)). Holds part (fold after (after u happening) happenings) ps (taken ++ (bytes_in happening ++ bytes_taken happenings))) (append_assoc parts (part_asked u happening) (parts_from (after u happening) happenings))
    (subst (λ (bs : List ℕ). Holds part (fold after (after u happening) happenings) ((parts ++ part_asked u happening) ++ parts_from (after u happening) happenings) bs) (append_assoc taken (bytes_in happening) (bytes_taken happenings)) next)

new-holds : (part : ℕ) → Holds part (new_upload part) [] []
new-holds part = record { part_is = refl; behind = []; bytes = refl; rest = λ alive. refl; count = refl; sent = refl; cut = tt; full = λ grows. tt }

pub life-holds : (part : ℕ) (happenings : List Happening) → IsLife part happenings → Holds part (upload_after part happenings) (parts_asked part happenings) (bytes_taken happenings)
life-holds part happenings life = along part (new_upload part) [] [] happenings life (new-holds part)
