use Rattle.std.proofs.Common.{◌∙◌, ap, map}
use Rattle.mount_model.specs.Run.{startable}
use Rattle.line_table.specs.Table.{waiting, followers_of, open_place}
use Rattle.line_table.proofs.Prepared.{new_table}
use Rattle.line_table.proofs.lines.Lines.new.Goals as goal

pub invariant_of-result : goal.invariant_of-result
invariant_of-result c =
    let first = c.as_slice.ensures.value ∙ c.into_vec-lines.ensures in
    let second = c.as_slice-2.ensures.value ∙ c.into_vec-lines.ensures in
    new_table c.args.script _ _ _ _ _ c.requires
    (c.in_ok-standings.ensures ∙ ap (map waiting) c.into_vec-lines.ensures)
    (c.in_ok-followers.ensures ∙ ap followers_of first)
    (c.in_ok-startable.ensures.0 ∙ ap (λ xs. startable (map waiting xs)) second)
    (rw second at c.in_ok-startable.ensures.1)
    (c.open_from-first_open.ensures ∙ ap open_place c.as_slice-3.ensures.value)
