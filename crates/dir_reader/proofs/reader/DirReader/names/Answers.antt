use Rattle.std.proofs.Common.{◌≡◌, List, IfOk, ap, ◌∙◌, subst}
use Rattle.mp_rules.specs.declared.entry.DirEntry.{DirEntry}
use Rattle.listing_rules.specs.Names.{entries_of, with_all_own}
use Rattle.dir_reader.specs.Gathered.{Gathered, found_in, started}
use Rattle.dir_reader.proofs.Children.{own_shown}
use Rattle.dir_reader.proofs.Pages.{pages_found, pages_prefix}
use Rattle.dir_reader.proofs.reader.DirReader.names.Goals as goal

pub returns-clause-gathered : goal.returns-clause-gathered
returns-clause-gathered c =
    subst (λ (all : List DirEntry). IfOk c.entries.result (λ entries. entries.items ≡ all))
    (ap entries_of (
    c.in_ok-show_children.ensures
    ∙ own_shown c.args.locals.now c.as_str.result.now c.in_ok-children.field-0.items c.in_ok-children.ensures (found_in c.self.inside.names)
    ∙ (λ i. with_all_own ((c.as_str.ensures ∙ ap (λ (g : Gathered). g.prefix) c.self.view_is) i) c.args.locals.now (ap (λ (g : Gathered). g.found) c.self.view_is i))
    )) c.entries.ensures

pub returns-clause-pages : goal.returns-clause-pages
returns-clause-pages c = λ path pages is.
    let prefix = ap (λ (g : Gathered). g.prefix) is ∙ pages_prefix (started path) pages in
    let found = ap (λ (g : Gathered). g.found) is ∙ pages_found (started path) pages in
    subst (λ (all : List DirEntry). IfOk c.entries.result (λ entries. entries.items ≡ all)) (λ i. entries_of (with_all_own (prefix i) c.args.locals.now (found i))) (returns-clause-gathered c)
