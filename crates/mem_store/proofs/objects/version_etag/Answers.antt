use Rattle.std.proofs.Common.{◌≡◌, true, false, ap, ◌∙◌, arith}
use Rattle.mp_types.specs.ETag.{is_etag}
use Rattle.mem_store.specs.Served.{etag_of_version}
use Rattle.mem_store.proofs.ETags.{version_is_etag}
use Rattle.mem_store.proofs.objects.version_etag.Goals as goal

false_is_true : false ≡ true → ⊥
false_is_true wrong = absurd (cc)

pub unreachable-requires : goal.unreachable-requires
unreachable-requires c =
    let same : c.as_str.result.now ≡ etag_of_version c.args.number = c.as_str.ensures.value ∙ c.in_ok-text.ensures.ok in
    let fine : is_etag c.as_str.result.now ≡ true = ap is_etag same ∙ version_is_etag c.args.number (omega arith) in
    false_is_true (c.in-Err.ensures.ok.1 fine)
