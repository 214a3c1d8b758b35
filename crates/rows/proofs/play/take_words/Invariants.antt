use Rattle.std.specs.List.{AllByRecursion}
use Rattle.mp_types.specs.Options.{AreWithin}
use Rattle.bucket_model.specs.History.{IsChange}
use Rattle.rows.proofs.play.take_words.Given as goal

abbrev pub invariant-loop-word : goal.invariant-loop-word
invariant-loop-word l =
    (goal.iterator-loop-word).can_next l.word-iterator ×
    (goal.iterator-loop-word).is_finite l.word-iterator ×
    AreWithin l.options ×
    AllByRecursion (λ change. IsChange change.1) l.changes.items
