use Rattle.std.proofs.Common.{Err, sym, ap, ◌∙◌}
use Rattle.mp_types.specs.declared.path.PathFault.{PathFault}
use Rattle.mp_types.specs.Path.{path_of}
use Rattle.mp_script.proofs.Asking.{path_read}
use Rattle.mp_script.proofs.word.path.Goals as goal

pub returns-in-BadName : goal.returns-in-BadName
returns-in-BadName c =
    let fault = (c.in-Err.ensures.bad_name c.in-BadName.place).0 (ap (λ (why : PathFault). Err why) c.in-BadName.is) in
    path_read c.args.word.now c.in_ok-text.text.bytes.items _ c.in_ok-text.ensures (ap path_of (sym c.as_str.ensures.value) ∙ fault)
