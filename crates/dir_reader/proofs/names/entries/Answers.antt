use Rattle.std.proofs.Common.{ℕ, List, [], ◌∷◌, ◌++◌, map as each, append_assoc, append-nil, sym, ap, ◌∙◌}
use Rattle.listing_rules.specs.declared.listed.Listed.{Listed}
use Rattle.listing_rules.specs.Names.{entry_of}
use Rattle.mp_rules.specs.declared.entry.DirEntry.{DirEntry}
use Rattle.dir_reader.proofs.Tables.{found_entries}
use Rattle.dir_reader.proofs.names.entries.Goals as goal

pub loop-name-init : goal.loop-name-init
loop-name-init c =
    ap (λ (entries : List DirEntry). entries ++ each entry_of c.into_iter-name-iterator.result) c.in_ok-entries.ensures.items
    ∙ ap (each entry_of) c.into_iter-name-iterator.ensures.into_iter_gives.0

pub loop-name-preserved : goal.loop-name-preserved
loop-name-preserved c =
    let before : List DirEntry = c.loop-name.entries.items in
    let after : List DirEntry = each entry_of c.next.new.self in
    ap (λ (entries : List DirEntry). entries ++ after) c.in_ok-push.ensures.items
    ∙ append_assoc before (c.entry.result ∷ []) after
    ∙ ap (λ (entry : DirEntry). before ++ entry ∷ after) (c.entry.ensures ∙ ap (λ (name : List ℕ). entry_of (name, c.in-Some.listed)) c.into_text.ensures)
    ∙ ap (λ (rest : List (List ℕ × Listed)). before ++ each entry_of rest) (sym c.in-Some.ensures.steps)
    ∙ c.loop-name.invariant

pub returns : goal.returns
returns c =
    sym (append-nil c.loop-name.entries.items)
    ∙ ap (λ (rest : List (List ℕ × Listed)). c.loop-name.entries.items ++ each entry_of rest) (sym c.in-None.ensures.steps.0)
    ∙ c.loop-name.invariant
    ∙ ap (each entry_of) (sym (found_entries c.args.names c.len.ensures.ordered))
