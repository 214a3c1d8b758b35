use Rattle.std.proofs.Common.{◌≡◌, take}
use Rattle.std.specs.List.{list_all}
use Rattle.mp_script.specs.ScriptText as script
use Rattle.mp_script.proofs.escape.all_stand.Given as goal

abbrev pub invariant-loop-byte : goal.invariant-loop-byte
invariant-loop-byte l = l.all ≡ list_all script.stands_for_itself (take l.byte-index l.text)
