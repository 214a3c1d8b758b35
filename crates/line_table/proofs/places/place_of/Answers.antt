use Rattle.std.proofs.Common.{rules, Ok, Err}
use Rattle.std.proofs.lemmas.List.Sorted.{answers_always}
use Rattle.line_table.proofs.Searches.{searched, none_in_gap}
use Rattle.line_table.proofs.Starts.{number_of, rising_lines}
use Rattle.line_table.proofs.places.place_of.Goals as goal

pub returns-in-Ok : goal.returns-in-Ok
returns-in-Ok c =
    let by_key = c.in-Ok.ensures.position number_of (answers_always _ _ _ (λ f a r g called. search rules)) in
    let place = searched number_of c.args.number 0 c.args.lines.now (rising_lines 0 c.args.lines.now c.requires) (Ok c.in-Ok.i) c.in-Ok.ensures.bound by_key in
    record { standing = place.value; stands = place.stands; has_number = place.has_key }

pub returns-in-Err : goal.returns-in-Err
returns-in-Err c =
    let by_key = c.in-Err.ensures.position number_of (answers_always _ _ _ (λ f a r g called. search rules)) in
    none_in_gap number_of c.args.number c.args.lines.now c.in-Err.field-0 (searched number_of c.args.number 0 c.args.lines.now (rising_lines 0 c.args.lines.now c.requires) (Err c.in-Err.field-0) c.in-Err.ensures.bound by_key)
