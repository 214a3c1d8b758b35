use Rattle.std.proofs.Common.{◌≡◌, true, sym, ap, ◌∙◌, subst, length}
use Rattle.mount_model.specs.Run.{is_among}
use Rattle.job_table.specs.Journal.{Journaled, place_in}
use Rattle.job_table.proofs.Known.{known-get}
use Rattle.job_table.proofs.Places.{noted-push}
use Rattle.job_table.proofs.journal.Journal.reply.Goals as goal

pub note_place-requires : goal.note_place-requires
note_place-requires c = known-get c.args.reply.line c.self.inside.places.entries ∙ subst (λ (w : Journaled). is_among c.args.reply.line w.known ≡ true) (sym c.self.view_is) c.requires.known

pub invariant_of-self : goal.invariant_of-self
invariant_of-self c = rw c.reply.ensures.items (noted-push c.args.reply c.self.inside.record.items (place_in c.self.inside.places) (place_in c.note_place.new.places) (length c.items.result.now) (ap length c.items.ensures.items) c.note_place.ensures.places c.self.invariant)
