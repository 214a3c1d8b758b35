use Rattle.std.proofs.Common.{◌≡◌, ℕ, List, OnOk, sym, ap, ◌∙◌, subst}
use Rattle.listing_rules.specs.declared.listed.Listed.TheVariants.{Remote}
use Rattle.listing_rules.specs.Names.{Names, with_entry, with_item}
use Rattle.dir_reader.specs.Gathered.{found_in}
use Rattle.dir_reader.proofs.Items.{shown_object, shown_prefix}
use Rattle.dir_reader.proofs.names.show_item.Goals as goal

pub returns-in_ok-copy-in-Some : goal.returns-in_ok-copy-in-Some
returns-in_ok-copy-in-Some c =
    let found : Names = found_in c.args.names.now in
    subst (λ (names : Names). OnOk c.show.result (found_in c.show.new.names ≡ names))
    (ap (λ (name : List ℕ). with_entry name (Remote c.in-Object.size) found) c.in_ok-copy-in-Some.ensures
    ∙ shown_object c.args.prefix.now c.in-Object.key found c.in-Some.name.now (sym c.as_str.ensures.text ∙ c.in-Some.ensures) c.in-Object.etag c.in-Object.size
    ∙ ap (with_item c.args.prefix.now found) (sym c.in-Object.is)) c.show.ensures

pub returns-in-Some-behind : goal.returns-in-Some-behind
returns-in-Some-behind c =
    let found : Names = found_in c.args.names.now in
    subst (λ (names : Names). OnOk c.show_dir.result (found_in c.show_dir.new.names ≡ names))
    (shown_prefix c.args.prefix.now c.in-Prefix.text found c.in-Some-behind.rest.now (sym c.as_str-in-Prefix.ensures ∙ c.in-Some-behind.ensures)
    ∙ ap (with_item c.args.prefix.now found) (sym c.in-Prefix.is)) c.show_dir.ensures
