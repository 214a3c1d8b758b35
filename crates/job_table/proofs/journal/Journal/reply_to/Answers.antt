use Rattle.std.proofs.Common.{refl, sym, ◌∙◌, ap}
use Rattle.std.specs.Prelude.{position, option_copied}
use Rattle.std.proofs.lemmas.Option.{slice_get_read}
use Rattle.job_table.specs.Journal.{is_reply_to}
use Rattle.job_table.proofs.Places.{reply_to-nowhere, reply_to-there}
use Rattle.job_table.proofs.journal.Journal.reply_to.Goals as goal

pub returns-in_err-place : goal.returns-in_err-place
returns-in_err-place c =
    let items = c.items-items.ensures in
    let stands = c.place_of.ensures ∙ (c.self.invariant c.args.line ∙ ap (position (is_reply_to c.args.line)) (sym items.items)) in
    rw (← c.self.view_is) (ap option_copied c.from_residual.ensures ∙ reply_to-nowhere c.args.line c.items-items.result.now c.self.inside.record.steps c.place_of.result items.row items.steps stands c.in_err-place.was)

pub returns : goal.returns
returns c =
    let items = c.items-items.ensures in
    let stands = c.place_of.ensures ∙ (c.self.invariant c.args.line ∙ ap (position (is_reply_to c.args.line)) (sym items.items)) in
    let found = c.in_ok-get.ensures.lookup in
    let there = slice_get_read c.items-items.result.now _ c.in_ok-place.place c.in_ok-get.field-0.now refl found.3.0 found.1 in
    rw (← c.self.view_is) (c.reply_of.ensures ∙ reply_to-there c.args.line c.items-items.result.now c.self.inside.record.steps c.place_of.result items.row items.steps stands c.in_ok-place.place c.in_ok-get.field-0.now c.in_ok-place.was there)
