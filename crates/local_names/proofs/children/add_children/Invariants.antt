use Rattle.std.proofs.Common.{string_bytes}
use Rattle.local_names.proofs.Directory.{IsWalking}
use Rattle.local_names.proofs.children.add_children.Given as goal

abbrev pub invariant-loop-key : goal.invariant-loop-key
invariant-loop-key l = IsWalking l.prefix (string_bytes l.from) l.nodes.entries l.key-iterator l.initial.children.items l.children.items
