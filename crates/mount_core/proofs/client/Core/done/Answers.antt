use Rattle.std.proofs.Common.{Some, [], ◌∷◌, ◌++◌, sym, ap, ◌∙◌, subst}
use Rattle.bucket_model.specs.Answers.{brief_of, bytes_in}
use Rattle.mount_model.specs.declared.event.Event.TheVariants.{Done}
use Rattle.mount_model.specs.Heard.{told_by}
use Rattle.mount_model.specs.Step.{step_of}
use Rattle.mount_model.specs.State.{line_at, turn_of_writer}
use Rattle.mount_model.specs.Run.{MayDone}
use Rattle.mount_core.specs.Core.{CoreState, state_of}
use Rattle.mount_core.specs.Shared.{shared_in}
use Rattle.mount_core.specs.Turn.{Takes, turn_behind, lines_behind}
use Rattle.mount_core.proofs.Steps.{has_step}
use Rattle.mount_core.proofs.Events.{HasEnded, is_of_job, no_writer, done_out, brought_page, unwritten_page, page_line, failed_leaves, told_so, is_heard, line_leaves, writer_may, writer_leaves, has_step_turned}
use Rattle.mount_core.proofs.client.Core.done.Goals as goal

pub end_job-asker-requires : goal.end_job-asker-requires
end_job-asker-requires c = done_out c.self.inside.work c.args.job c.args.position (brief_of c.args.answer) c.self.invariant (subst (λ (w : CoreState). MayDone (state_of w) c.args.job c.args.position (brief_of c.args.answer)) (sym c.self.view_is) c.requires)

pub unreachable-requires : goal.unreachable-requires
unreachable-requires c =
    let e = c.end_job-asker.ensures in
    let asker = c.end_job-asker.result in
    let may = subst (λ (w : CoreState). MayDone (state_of w) c.args.job c.args.position (brief_of c.args.answer)) (sym c.self.view_is) c.requires in
    let is = is_of_job c.self.inside.work c.args.job c.args.position (brief_of c.args.answer) asker.owner asker.line asker.purpose c.self.invariant may e.asker in
    let page = brought_page c.args.answer c.brief-heard.result c.brief-heard.ensures.plain c.in_default-heard.not-Ok in
    unwritten_page c.self.inside.work c.args.job c.args.position c.in-Writer.opened (brief_of c.args.answer) page.0 asker.owner asker.line asker.purpose c.self.invariant is c.in-Writer.is page.1

pub hear-requires-clause-hears : goal.hear-requires-clause-hears
hear-requires-clause-hears c =
    let e = c.end_job-asker.ensures in
    let asker = c.end_job-asker.result in
    let may = subst (λ (w : CoreState). MayDone (state_of w) c.args.job c.args.position (brief_of c.args.answer)) (sym c.self.view_is) c.requires in
    let parts : HasEnded c.args.job c.args.position (brief_of c.args.answer) c.self.inside.work c.end_job-asker.new.self = record { time = e.time; steps = e.steps ∙ ap (λ b. c.self.inside.work.record.steps ++ step_of (Done c.args.job c.args.position b) ∷ []) c.split-brief.ensures.brief; lines = e.lines; count = e.count; held = e.held; shared = e.shared } in
    writer_may c.self.inside.work c.end_job-asker.new.self c.args.job c.args.position c.in-Writer.opened (brief_of c.args.answer) asker.owner asker.line asker.purpose c.self.invariant (is_of_job c.self.inside.work c.args.job c.args.position (brief_of c.args.answer) asker.owner asker.line asker.purpose c.self.invariant may e.asker) c.in-Writer.is parts

pub answer_awaits-requires : goal.answer_awaits-requires
answer_awaits-requires c =
    let e = c.end_job-asker.ensures in
    let asker = c.end_job-asker.result in
    let may = subst (λ (w : CoreState). MayDone (state_of w) c.args.job c.args.position (brief_of c.args.answer)) (sym c.self.view_is) c.requires in
    let is = is_of_job c.self.inside.work c.args.job c.args.position (brief_of c.args.answer) asker.owner asker.line asker.purpose c.self.invariant may e.asker in
    has_step_turned _ _ [] c.end_job-asker.new.self c.hear.new.self (c.hear.ensures is.may.job.call [] (sym is.purpose_is)) (has_step c.self.inside.work.record.steps c.end_job-asker.new.self.record.steps _ e.steps)

pub invariant_of-self : goal.invariant_of-self
invariant_of-self c =
    let e = c.end_job-asker.ensures in
    let asker = c.end_job-asker.result in
    let may = subst (λ (w : CoreState). MayDone (state_of w) c.args.job c.args.position (brief_of c.args.answer)) (sym c.self.view_is) c.requires in
    let parts : HasEnded c.args.job c.args.position (brief_of c.args.answer) c.self.inside.work c.end_job-asker.new.self = record { time = e.time; steps = e.steps ∙ ap (λ b. c.self.inside.work.record.steps ++ step_of (Done c.args.job c.args.position b) ∷ []) c.split-brief.ensures.brief; lines = e.lines; count = e.count; held = e.held; shared = e.shared } in
    let heard = told_so c.brief-heard.result (brief_of c.args.answer) c.in-Ok.heard c.brief-heard.ensures.ok c.in-Ok.is in
    (writer_leaves c.self.inside.work c.end_job-asker.new.self c.hear.new.self c.answer_awaits.new.self c.args.job c.args.position c.in-Writer.opened c.args.answer asker.owner asker.line asker.purpose c.self.invariant (is_of_job c.self.inside.work c.args.job c.args.position (brief_of c.args.answer) asker.owner asker.line asker.purpose c.self.invariant may e.asker) c.in-Writer.is parts
    (λ called bytes purpose. subst (λ b. Takes (turn_of_writer (shared_in c.end_job-asker.new.self) called b (line_at c.in-Writer.opened c.end_job-asker.new.self.lines)) c.end_job-asker.new.self.lines bytes c.end_job-asker.new.self c.hear.new.self) heard (c.hear.ensures called bytes purpose))
    c.answer_awaits.ensures.answers c.answer_awaits.ensures.shared).stands

pub returns-in-Writer : goal.returns-in-Writer
returns-in-Writer c =
    let e = c.end_job-asker.ensures in
    let asker = c.end_job-asker.result in
    let may = subst (λ (w : CoreState). MayDone (state_of w) c.args.job c.args.position (brief_of c.args.answer)) (sym c.self.view_is) c.requires in
    let parts : HasEnded c.args.job c.args.position (brief_of c.args.answer) c.self.inside.work c.end_job-asker.new.self = record { time = e.time; steps = e.steps ∙ ap (λ b. c.self.inside.work.record.steps ++ step_of (Done c.args.job c.args.position b) ∷ []) c.split-brief.ensures.brief; lines = e.lines; count = e.count; held = e.held; shared = e.shared } in
    let heard = told_so c.brief-heard.result (brief_of c.args.answer) c.in-Ok.heard c.brief-heard.ensures.ok c.in-Ok.is in
    rw (← c.self.view_is) ((writer_leaves c.self.inside.work c.end_job-asker.new.self c.hear.new.self c.answer_awaits.new.self c.args.job c.args.position c.in-Writer.opened c.args.answer asker.owner asker.line asker.purpose c.self.invariant (is_of_job c.self.inside.work c.args.job c.args.position (brief_of c.args.answer) asker.owner asker.line asker.purpose c.self.invariant may e.asker) c.in-Writer.is parts
    (λ called bytes purpose. subst (λ b. Takes (turn_of_writer (shared_in c.end_job-asker.new.self) called b (line_at c.in-Writer.opened c.end_job-asker.new.self.lines)) c.end_job-asker.new.self.lines bytes c.end_job-asker.new.self c.hear.new.self) heard (c.hear.ensures called bytes purpose))
    c.answer_awaits.ensures.answers c.answer_awaits.ensures.shared).advances)

pub fail_listing-requires : goal.fail_listing-requires
fail_listing-requires c =
    let e = c.end_job-asker.ensures in
    let asker = c.end_job-asker.result in
    let may = subst (λ (w : CoreState). MayDone (state_of w) c.args.job c.args.position (brief_of c.args.answer)) (sym c.self.view_is) c.requires in
    let parts : HasEnded c.args.job c.args.position (brief_of c.args.answer) c.self.inside.work c.end_job-asker.new.self = record { time = e.time; steps = e.steps ∙ ap (λ b. c.self.inside.work.record.steps ++ step_of (Done c.args.job c.args.position b) ∷ []) c.split-brief.ensures.brief; lines = e.lines; count = e.count; held = e.held; shared = e.shared } in
    let is = is_of_job c.self.inside.work c.args.job c.args.position (brief_of c.args.answer) asker.owner asker.line asker.purpose c.self.invariant may e.asker in
    let page = brought_page c.args.answer c.brief-heard.result c.brief-heard.ensures.plain c.in_default-heard-2.not-Ok in
    record {
      listing = page_line c.self.inside.work c.end_job-asker.new.self c.args.job c.args.position (brief_of c.args.answer) page.0 asker.owner asker.line asker.purpose c.self.invariant is parts page.1;
      step = has_step c.self.inside.work.record.steps c.end_job-asker.new.self.record.steps _ e.steps;
    }

pub answer_awaits-requires-in_default-heard-2 : goal.answer_awaits-requires-in_default-heard-2
answer_awaits-requires-in_default-heard-2 c =
    let page = brought_page c.args.answer c.brief-heard.result c.brief-heard.ensures.plain c.in_default-heard-2.not-Ok in
    has_step_turned _ _ (bytes_in c.args.answer) c.end_job-asker.new.self c.fail_listing.new.self (c.fail_listing.ensures page.0 (bytes_in c.args.answer) (c.tells_more-more.ensures page.0 page.1)) (has_step c.self.inside.work.record.steps c.end_job-asker.new.self.record.steps _ c.end_job-asker.ensures.steps)

pub invariant_of-self-in_default-heard-2 : goal.invariant_of-self-in_default-heard-2
invariant_of-self-in_default-heard-2 c =
    let e = c.end_job-asker.ensures in
    let asker = c.end_job-asker.result in
    let may = subst (λ (w : CoreState). MayDone (state_of w) c.args.job c.args.position (brief_of c.args.answer)) (sym c.self.view_is) c.requires in
    let parts : HasEnded c.args.job c.args.position (brief_of c.args.answer) c.self.inside.work c.end_job-asker.new.self = record { time = e.time; steps = e.steps ∙ ap (λ b. c.self.inside.work.record.steps ++ step_of (Done c.args.job c.args.position b) ∷ []) c.split-brief.ensures.brief; lines = e.lines; count = e.count; held = e.held; shared = e.shared } in
    let is = is_of_job c.self.inside.work c.args.job c.args.position (brief_of c.args.answer) asker.owner asker.line asker.purpose c.self.invariant may e.asker in
    let page = brought_page c.args.answer c.brief-heard.result c.brief-heard.ensures.plain c.in_default-heard-2.not-Ok in
    (failed_leaves c.self.inside.work c.end_job-asker.new.self c.fail_listing.new.self c.answer_awaits-in_default-heard-2.new.self c.args.job c.args.position c.args.answer page.0 asker.owner asker.line asker.purpose c.self.invariant is (no_writer asker.owner c.in_default.not-Writer) parts page.1 (c.fail_listing.ensures page.0 (bytes_in c.args.answer) (c.tells_more-more.ensures page.0 page.1)) c.answer_awaits-in_default-heard-2.ensures.answers c.answer_awaits-in_default-heard-2.ensures.shared).stands

pub returns-in_default-heard-2 : goal.returns-in_default-heard-2
returns-in_default-heard-2 c =
    let e = c.end_job-asker.ensures in
    let asker = c.end_job-asker.result in
    let may = subst (λ (w : CoreState). MayDone (state_of w) c.args.job c.args.position (brief_of c.args.answer)) (sym c.self.view_is) c.requires in
    let parts : HasEnded c.args.job c.args.position (brief_of c.args.answer) c.self.inside.work c.end_job-asker.new.self = record { time = e.time; steps = e.steps ∙ ap (λ b. c.self.inside.work.record.steps ++ step_of (Done c.args.job c.args.position b) ∷ []) c.split-brief.ensures.brief; lines = e.lines; count = e.count; held = e.held; shared = e.shared } in
    let is = is_of_job c.self.inside.work c.args.job c.args.position (brief_of c.args.answer) asker.owner asker.line asker.purpose c.self.invariant may e.asker in
    let page = brought_page c.args.answer c.brief-heard.result c.brief-heard.ensures.plain c.in_default-heard-2.not-Ok in
    rw (← c.self.view_is) ((failed_leaves c.self.inside.work c.end_job-asker.new.self c.fail_listing.new.self c.answer_awaits-in_default-heard-2.new.self c.args.job c.args.position c.args.answer page.0 asker.owner asker.line asker.purpose c.self.invariant is (no_writer asker.owner c.in_default.not-Writer) parts page.1 (c.fail_listing.ensures page.0 (bytes_in c.args.answer) (c.tells_more-more.ensures page.0 page.1)) c.answer_awaits-in_default-heard-2.ensures.answers c.answer_awaits-in_default-heard-2.ensures.shared).advances)

pub turn_line-requires : goal.turn_line-requires
turn_line-requires c =
    let e = c.end_job-asker.ensures in
    let asker = c.end_job-asker.result in
    let may = subst (λ (w : CoreState). MayDone (state_of w) c.args.job c.args.position (brief_of c.args.answer)) (sym c.self.view_is) c.requires in
    let parts : HasEnded c.args.job c.args.position (brief_of c.args.answer) c.self.inside.work c.end_job-asker.new.self = record { time = e.time; steps = e.steps ∙ ap (λ b. c.self.inside.work.record.steps ++ step_of (Done c.args.job c.args.position b) ∷ []) c.split-brief.ensures.brief; lines = e.lines; count = e.count; held = e.held; shared = e.shared } in
    let told = told_so c.brief-heard.result (brief_of c.args.answer) c.in-Ok-heard.heard c.brief-heard.ensures.ok c.in-Ok-heard.is in
    let heard = is_heard c.self.inside.work c.end_job-asker.new.self c.args.job c.args.position c.args.answer asker.owner asker.line asker.purpose c.question_in.result c.told_by-told.result c.split-brief.result.1 c.self.invariant (is_of_job c.self.inside.work c.args.job c.args.position (brief_of c.args.answer) asker.owner asker.line asker.purpose c.self.invariant may e.asker) (no_writer asker.owner c.in_default.not-Writer) parts c.question_in.ensures (c.told_by-told.ensures ∙ ap (told_by c.question_in.result) told) c.split-brief.ensures.bytes in
    record {
      begun = heard.begun;
      step = has_step c.self.inside.work.record.steps c.end_job-asker.new.self.record.steps _ e.steps;
      not_idle = heard.not_idle;
      gives = heard.gives;
      writers = heard.writers;
    }

pub answer_awaits-requires-2 : goal.answer_awaits-requires-2
answer_awaits-requires-2 c =
    has_step_turned (turn_behind c.end_job-asker.result.line (Some c.told_by-told.result) c.end_job-asker.new.self) (lines_behind c.end_job-asker.result.line (Some c.told_by-told.result) c.end_job-asker.new.self) c.split-brief.result.1 c.end_job-asker.new.self c.turn_line.new.self c.turn_line.ensures (has_step c.self.inside.work.record.steps c.end_job-asker.new.self.record.steps _ c.end_job-asker.ensures.steps)

pub invariant_of-self-2 : goal.invariant_of-self-2
invariant_of-self-2 c =
    let e = c.end_job-asker.ensures in
    let asker = c.end_job-asker.result in
    let may = subst (λ (w : CoreState). MayDone (state_of w) c.args.job c.args.position (brief_of c.args.answer)) (sym c.self.view_is) c.requires in
    let parts : HasEnded c.args.job c.args.position (brief_of c.args.answer) c.self.inside.work c.end_job-asker.new.self = record { time = e.time; steps = e.steps ∙ ap (λ b. c.self.inside.work.record.steps ++ step_of (Done c.args.job c.args.position b) ∷ []) c.split-brief.ensures.brief; lines = e.lines; count = e.count; held = e.held; shared = e.shared } in
    let told = told_so c.brief-heard.result (brief_of c.args.answer) c.in-Ok-heard.heard c.brief-heard.ensures.ok c.in-Ok-heard.is in
    (line_leaves c.self.inside.work c.end_job-asker.new.self c.turn_line.new.self c.answer_awaits-2.new.self c.args.job c.args.position c.args.answer asker.owner asker.line asker.purpose c.question_in.result c.told_by-told.result c.split-brief.result.1 c.self.invariant (is_of_job c.self.inside.work c.args.job c.args.position (brief_of c.args.answer) asker.owner asker.line asker.purpose c.self.invariant may e.asker) (no_writer asker.owner c.in_default.not-Writer) parts c.question_in.ensures (c.told_by-told.ensures ∙ ap (told_by c.question_in.result) told) c.split-brief.ensures.bytes c.turn_line.ensures c.answer_awaits-2.ensures.answers c.answer_awaits-2.ensures.shared).stands

pub returns : goal.returns
returns c =
    let e = c.end_job-asker.ensures in
    let asker = c.end_job-asker.result in
    let may = subst (λ (w : CoreState). MayDone (state_of w) c.args.job c.args.position (brief_of c.args.answer)) (sym c.self.view_is) c.requires in
    let parts : HasEnded c.args.job c.args.position (brief_of c.args.answer) c.self.inside.work c.end_job-asker.new.self = record { time = e.time; steps = e.steps ∙ ap (λ b. c.self.inside.work.record.steps ++ step_of (Done c.args.job c.args.position b) ∷ []) c.split-brief.ensures.brief; lines = e.lines; count = e.count; held = e.held; shared = e.shared } in
    let told = told_so c.brief-heard.result (brief_of c.args.answer) c.in-Ok-heard.heard c.brief-heard.ensures.ok c.in-Ok-heard.is in
    rw (← c.self.view_is) ((line_leaves c.self.inside.work c.end_job-asker.new.self c.turn_line.new.self c.answer_awaits-2.new.self c.args.job c.args.position c.args.answer asker.owner asker.line asker.purpose c.question_in.result c.told_by-told.result c.split-brief.result.1 c.self.invariant (is_of_job c.self.inside.work c.args.job c.args.position (brief_of c.args.answer) asker.owner asker.line asker.purpose c.self.invariant may e.asker) (no_writer asker.owner c.in_default.not-Writer) parts c.question_in.ensures (c.told_by-told.ensures ∙ ap (told_by c.question_in.result) told) c.split-brief.ensures.bytes c.turn_line.ensures c.answer_awaits-2.ensures.answers c.answer_awaits-2.ensures.shared).advances)
