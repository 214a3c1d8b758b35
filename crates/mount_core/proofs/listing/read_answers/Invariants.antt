use Rattle.std.proofs.Common.{◌≡◌, fold, take}
use Rattle.mount_core.specs.Listing.{with_answer}
use Rattle.mount_core.proofs.listing.read_answers.Given as goal

abbrev pub invariant-loop-answer : goal.invariant-loop-answer
invariant-loop-answer l = l.reader ≡ fold with_answer l.fn.reader (take l.answer-index l.answers)
