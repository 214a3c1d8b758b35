use Rattle.std.proofs.Common.{Result, Ok, Err, OnErr, sym, ap, ◌∙◌}
use Rattle.bucket_model.specs.declared.answer.Brief.TheVariants as brief
use Rattle.bucket_model.specs.Bucket.{staged_or_not}
use Rattle.mem_store.proofs.Numbered.{found-map_of, unwritten-map_of}
use Rattle.mem_store.proofs.Staging.{part_of_none, part_stored}
use Rattle.mem_store.proofs.uploads.Uploads.put_part.Goals as goal

always : {T E P : Type 0} (result : Result T E) → P → OnErr result P
always (Ok x) fact = tt
always (Err e) fact = fact

pub returns-in_default-clause-answer : goal.returns-in_default-clause-answer
returns-in_default-clause-answer c = ap (staged_or_not brief.Stored) (sym (found-map_of c.self.inside.by_id c.args.self.now c.args.upload _ c.self.view_is c.in_default.ensures.value))

pub returns-in_default-clause-ok : goal.returns-in_default-clause-ok
returns-in_default-clause-ok c = part_of_none c.self.inside.by_id c.get_mut.follows.lender-at-none c.args.self.now c.args.upload c.args.number c.args.bytes.now c.self.view_is c.in_default.ensures.value c.get_mut.follows.holds-at-none

pub returns-in_err-put_part-clause-err : goal.returns-in_err-put_part-clause-err
returns-in_err-put_part-clause-err c =
    always c.from_residual.result
    (unwritten-map_of c.self.inside.by_id (c.get_mut.follows.lender c.put_part.new.self) c.args.upload c.in-Some.staged.now c.put_part.new.self c.in-Some.ensures.value
    c.in_err-put_part.ensures.err (c.get_mut.follows.holds c.put_part.new.self).0
    ∙ c.self.view_is)

pub returns-clause-answer : goal.returns-clause-answer
returns-clause-answer c = ap (staged_or_not brief.Stored) (sym (found-map_of c.self.inside.by_id c.args.self.now c.args.upload _ c.self.view_is c.in-Some.ensures.value))

pub returns-clause-ok : goal.returns-clause-ok
returns-clause-ok c =
    part_stored c.self.inside.by_id (c.get_mut.follows.lender c.put_part.new.self) c.args.self.now c.args.upload c.args.number c.args.bytes.now c.in-Some.staged.now c.put_part.new.self c.self.view_is c.in-Some.ensures.value
    c.in_ok-put_part.ensures.ok (c.get_mut.follows.holds c.put_part.new.self)
