use Rattle.std.proofs.Common.{lit<, ap, ◌∙◌}
use Rattle.std.proofs.lemmas.Str.Pattern.{split_parts}
use Rattle.bucket_model.specs.Listing.{up_to_slash}
use Rattle.mem_store.proofs.Cuts.{no_slash, slash_behind}
use Rattle.mem_store.proofs.listing.before_slash.Goals as goal

pub returns-in-None : goal.returns-in-None
returns-in-None c =
    let parts = split_parts 47 c.args.text.now c.split_once.result c.split_once.ensures.cases (lit< tt) in
    no_slash c.args.text.now (rw c.in-None.is at parts)

pub returns-in-Some : goal.returns-in-Some
returns-in-Some c =
    let parts = split_parts 47 c.args.text.now c.split_once.result c.split_once.ensures.cases (lit< tt) in
    let found = rw c.in-Some.is at parts in
    ap up_to_slash found.0 ∙ slash_behind c.in-Some.name.now _ found.1
