use Rattle.std.proofs.Common.{sym, ap, ◌∙◌}
use Rattle.mp_types.specs.Path.{joined}
use Rattle.mp_types.proofs.Paths.{joined_is}
use Rattle.mp_types.proofs.path.FilePath.as_text.Goals as goal

pub returns : goal.returns
returns c = sym (joined_is c.self.inside.text) ∙ ap joined c.self.view_is
