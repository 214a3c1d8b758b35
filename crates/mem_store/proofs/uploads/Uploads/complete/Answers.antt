use Rattle.std.proofs.Common.{refl, sym, ap, ◌∙◌, Some}
use Rattle.std.specs.FinMap as map
use Rattle.mem_store.proofs.Numbered.{found-map_of, remove-map_of}
use Rattle.mem_store.proofs.Staging.{completes_none, completes_lacking, completes_whole}
use Rattle.mem_store.proofs.uploads.Uploads.complete.Goals as goal

pub returns-in_default-clause-ok : goal.returns-in_default-clause-ok
returns-in_default-clause-ok c =
    completes_none c.args.objects.now c.args.objects.now c.args.self.now c.args.self.now c.args.upload c.args.parts c.args.number _
    (found-map_of c.self.inside.by_id c.args.self.now c.args.upload _ c.self.view_is c.in_default.ensures.value) refl refl refl

pub returns-in_default-2-clause-ok : goal.returns-in_default-2-clause-ok
returns-in_default-2-clause-ok c =
    completes_lacking c.args.objects.now c.args.objects.now c.args.self.now c.args.self.now c.args.upload c.args.parts c.args.number _ _
    (found-map_of c.self.inside.by_id c.args.self.now c.args.upload _ c.self.view_is (ap Some c.staged.view_is ∙ c.in-Some.ensures.value)) (sym c.in_default-2.is ∙ c.in_ok-bytes.ensures) refl refl refl

pub returns-clause-ok : goal.returns-clause-ok
returns-clause-ok c =
    completes_whole c.args.objects.now c.put_version-put.new.objects c.args.self.now _ c.args.upload c.args.parts c.args.number _ c.in-Some-2.bytes c.in_ok-etag.etag
    (found-map_of c.self.inside.by_id c.args.self.now c.args.upload _ c.self.view_is (ap Some c.staged.view_is ∙ c.in-Some.ensures.value))
    (sym c.in-Some-2.is ∙ c.in_ok-bytes.ensures) c.in_ok-etag.ensures.etag c.in_ok-etag.ensures.ok
    (remove-map_of c.self.inside.by_id c.remove.new.self c.args.upload c.remove.ensures.updates ∙ ap (λ m. map.remove m c.args.upload) c.self.view_is) c.in_ok-etag.ensures.fits
