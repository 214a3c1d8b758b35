use Rattle.std.proofs.Common.{◌≡◌, true, ℕ, List, sym, ap, ◌∙◌}
use Rattle.std.specs.BTreeMap.{insert_entry}
use Rattle.std.specs.FinMap as map
use Rattle.mp_rules.specs.Names.{name_cmp}
use Rattle.mp_types.specs.Path.{is_valid_name}
use Rattle.listing_rules.specs.Names.{is_dir}
use Rattle.dir_reader.specs.Gathered.{found_in}
use Rattle.dir_reader.proofs.Tables.{found_insert, told}
use Rattle.dir_reader.proofs.names.show.Goals as goal

pub returns : goal.returns
returns c =
    let valid : is_valid_name c.args.name ≡ true = sym (c.is_name.ensures ∙ ap is_valid_name c.as_str.ensures) ∙ c.if-not-is_name.false in
    found_insert c.args.names.now c.insert.new.self c.args.name c.args.listed (c.in_ok-insert.ensures.entries ∙ ap (λ (name : List ℕ). insert_entry name_cmp c.args.names.now.entries name c.args.listed) c.new-name.ensures)
    ∙ told c.args.name c.args.listed (found_in c.args.names.now) valid
    (sym (c.has_dir.ensures ∙ ap (λ (name : List ℕ). is_dir (map.get (found_in c.args.names.now) name)) c.new-name.ensures) ∙ c.if-has_dir.false)
