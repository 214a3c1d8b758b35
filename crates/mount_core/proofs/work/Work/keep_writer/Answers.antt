use Rattle.std.proofs.Common.{◌≡◌, false, Some, None, sym, ap, ◌∙◌, subst}
use Rattle.std.specs.FinMap.{get}
use Rattle.mp_types.specs.HandleName.{HandleName}
use Rattle.mount_model.specs.declared.handle.Handle.TheVariants.{Writing}
use Rattle.mount_model.specs.declared.handle.Waiter.TheVariants.{Nobody}
use Rattle.mount_model.specs.declared.standing.Standing.{Standing}
use Rattle.mount_model.specs.Conversation.{Creates}
use Rattle.mount_model.specs.Handles.{Handles, Writer}
use Rattle.mount_model.specs.State.{has_effect}
use Rattle.local_names.specs.Names.{is_name}
use Rattle.run_laws.proofs.Handles.{handle-at, some-writer}
use Rattle.file_handles.proofs.Tables.{get_put}
use Rattle.mount_core.specs.Shared.{shared_in}
use Rattle.mount_core.proofs.Writers.{kept_writer, named-pair, unkept_writer}
use Rattle.mount_core.proofs.work.Work.keep_writer.Goals as goal

pub unreachable-requires-in_default-name_in : goal.unreachable-requires-in_default-name_in
unreachable-requires-in_default-name_in c =
    let place = c.requires.may c.in-Some.standing.now (sym c.in-Some.ensures.value) in
    c.in_default-name_in.not-Some place.name (c.name_in.ensures ∙ place.names)

pub open-requires-clause-free : goal.open-requires-clause-free
open-requires-clause-free c =
    let line = c.in-Some.standing.now.line in
    let named = sym c.name_in.ensures ∙ c.in-Some-name_in.is in
    ap (get c.args.self.now.handles) (named-pair line c.in-Some-name_in.name named)
    ∙ sym (handle-at line c.in-Some-name_in.name c.args.self.now.handles named)
    ∙ (c.requires.may c.in-Some.standing.now (sym c.in-Some.ensures.value)).free

pub open-requires-clause-place : goal.open-requires-clause-place
open-requires-clause-place c = (c.requires.may c.in-Some.standing.now (sym c.in-Some.ensures.value)).place

pub name_file-requires-clause-writer : goal.name_file-requires-clause-writer
name_file-requires-clause-writer c =
    let line = c.in-Some.standing.now.line in
    let name : HandleName = (line.actor, c.in-Some-name_in.name) in
    let first : Writer = record { line = line.number; key = c.args.key; upload = c.new.result; waiter = Nobody } in
    record { writer = first; stands = ap (λ (h : Handles). get h name) c.in_ok-open.ensures.ok ∙ get_put c.args.self.now.handles name (Writing first) }

pub name_file-requires-clause-new : goal.name_file-requires-clause-new
name_file-requires-clause-new c = λ w stands.
    let line = c.in-Some.standing.now.line in
    let name : HandleName = (line.actor, c.in-Some-name_in.name) in
    let first : Writer = record { line = line.number; key = c.args.key; upload = c.new.result; waiter = Nobody } in
    let there : get c.open.new.handles name ≡ Some (Writing first) = ap (λ (h : Handles). get h name) c.in_ok-open.ensures.ok ∙ get_put c.args.self.now.handles name (Writing first) in
    subst (λ (v : Writer). is_name c.args.self.now.names v.key ≡ false) (some-writer first w (sym there ∙ stands)) c.requires.new

pub returns-in-Ok-clause-ok : goal.returns-in-Ok-clause-ok
returns-in-Ok-clause-ok c = λ s stands.
    let old = c.args.self.now in
    let line = c.in-Some.standing.now.line in
    let name : HandleName = (line.actor, c.in-Some-name_in.name) in
    let first : Writer = record { line = line.number; key = c.args.key; upload = c.new.result; waiter = Nobody } in
    let there : get c.open.new.handles name ≡ Some (Writing first) = ap (λ (h : Handles). get h name) c.in_ok-open.ensures.ok ∙ get_put old.handles name (Writing first) in
    let kept = kept_writer line c.in-Some-name_in.name c.args.key c.new.result c.open.new.handles (shared_in old) (shared_in c.name_file.new.self) (sym c.name_in.ensures ∙ c.in-Some-name_in.is) c.new.ensures c.in_ok-open.ensures.ok (c.in-Ok.ensures.ok first there) in
    let found : Some c.in-Some.standing.now ≡ Some s = c.in-Some.ensures.value ∙ stands in
    let same : c.in-Some.standing.now ≡ s = cc in
    subst (λ (t : Standing). shared_in c.name_file.new.self ≡ has_effect (Creates c.args.key) t.line (shared_in old)) same kept

pub returns-in-Err-clause-err : goal.returns-in-Err-clause-err
returns-in-Err-clause-err c =
    let old = c.args.self.now in
    let line = c.in-Some.standing.now.line in
    let named = sym c.name_in.ensures ∙ c.in-Some-name_in.is in
    let name : HandleName = (line.actor, c.in-Some-name_in.name) in
    let first : Writer = record { line = line.number; key = c.args.key; upload = c.new.result; waiter = Nobody } in
    let free : get old.handles name ≡ None = ap (get old.handles) (named-pair line c.in-Some-name_in.name named) ∙ sym (handle-at line c.in-Some-name_in.name old.handles named) ∙ (c.requires.may c.in-Some.standing.now (sym c.in-Some.ensures.value)).free in
    unkept_writer name (Writing first) c.open.new.handles c.close.new.self (shared_in old) (shared_in c.name_file.new.self) free c.in_ok-open.ensures.ok c.in-Err.ensures.err c.close.ensures.removed
