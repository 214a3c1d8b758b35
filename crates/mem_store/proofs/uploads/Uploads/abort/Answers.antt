use Rattle.std.proofs.Common.{sym, ap, ◌∙◌}
use Rattle.std.specs.FinMap as map
use Rattle.bucket_model.specs.declared.answer.Brief.TheVariants as brief
use Rattle.bucket_model.specs.Answers.{brief_of}
use Rattle.bucket_model.specs.Bucket.{staged_or_not}
use Rattle.mem_store.proofs.Numbered.{found-map_of, remove-map_of}
use Rattle.mem_store.proofs.uploads.Uploads.abort.Goals as goal
use Rattle.mem_store.proofs.uploads.Uploads.abort.Goals.{in-Some, in-None}

pub returns-clause-answer : goal.returns-clause-answer
returns-clause-answer c =
    elim c.match-remove.branch [
      | in-Some w ↦ ap brief_of w.result-is ∙ ap (staged_or_not brief.Gone) (sym (found-map_of c.self.inside.by_id c.args.self.now c.args.upload _ c.self.view_is w.in-Some.ensures.value))
      | in-None w ↦ ap brief_of w.result-is ∙ ap (staged_or_not brief.Gone) (sym (found-map_of c.self.inside.by_id c.args.self.now c.args.upload _ c.self.view_is w.in-None.ensures.value))
    ]

pub returns-clause-gone : goal.returns-clause-gone
returns-clause-gone c = remove-map_of c.self.inside.by_id c.remove.new.self c.args.upload c.remove.ensures.updates ∙ ap (λ m. map.remove m c.args.upload) c.self.view_is
