use Rattle.std.proofs.Common.{ap, ◌∙◌}
use Rattle.mp_rules.specs.Local.{with_file}
use Rattle.local_names.proofs.Names.{is_kept_file, resized_names, resized_kept}
use Rattle.local_names.proofs.locals.Locals.resize.Goals as goal

pub set_size-requires : goal.set_size-requires
set_size-requires c = is_kept_file c.self.inside.nodes c.args.self.now c.args.key.now c.self.view_is c.requires

pub invariant_of-self : goal.invariant_of-self
invariant_of-self c =
    let file = is_kept_file c.self.inside.nodes c.args.self.now c.args.key.now c.self.view_is c.requires in
    resized_kept c.self.inside.nodes c.set_size.new.nodes c.self.invariant c.args.key.now c.args.size file c.set_size.ensures.kinds c.set_size.ensures.counts

pub returns : goal.returns
returns c =
    let file = is_kept_file c.self.inside.nodes c.args.self.now c.args.key.now c.self.view_is c.requires in
    resized_names c.self.inside.nodes c.set_size.new.nodes c.self.invariant c.args.key.now c.args.size file c.set_size.ensures.kinds
    ∙ ap (with_file c.args.key.now c.args.size) c.self.view_is
