use Rattle.std.proofs.Common.{◌≡◌, ℕ, List, Option, Result, Ok, Err, OnOk, OnErr, sym, subst, set, get_or}
use Rattle.std.specs.declared.alloc.AllocError.{AllocError}
use Rattle.mount_model.specs.declared.standing.Told.{Told}
use Rattle.mount_model.specs.declared.standing.Standing.{Standing}
use Rattle.mount_model.specs.State.{change_line, heard}
use Rattle.mount_model.specs.Run.{AreRising}
use Rattle.line_table.specs.Table.{IsTable, StandsAt, script_of}
use Rattle.line_table.proofs.Starts.{number_of, rephrase}
use Rattle.line_table.proofs.Searches.{change_none}
use Rattle.line_table.proofs.Kept.{set_phase, set_nothing, hear_table}
use Rattle.line_table.proofs.lines.Lines.hear.Goals as goal

module _ (n : ℕ) (told : Told) (lines : List Standing) (i : ℕ) (old new : Standing) (rising : AreRising 0 (script_of lines)) (at : StandsAt n lines i) (read : old ≡ get_or lines i old) (line : new.line ≡ old.line) where
  when_ok : (r : Result (Unit {0}) AllocError) → OnOk r (new.phase ≡ heard told old.phase) → OnOk r (set lines i new ≡ change_line n (heard told) lines)
  when_ok (Ok u) phase = set_phase n (heard told) lines i old new rising at read line phase
  when_ok (Err e) phase = tt

  when_err : (r : Result (Unit {0}) AllocError) → OnErr r (new.phase ≡ old.phase) → OnErr r (set lines i new ≡ lines)
  when_err (Ok u) phase = tt
  when_err (Err e) phase = set_nothing n lines i old new rising at read line phase

  kept : (followers : List (Option ℕ)) (numbers : List ℕ) (room first : ℕ) → IsTable lines followers numbers room first → (r : Result (Unit {0}) AllocError) → OnOk r (new.phase ≡ heard told old.phase) → OnErr r (new.phase ≡ old.phase) → IsTable (set lines i new) followers numbers room first
  kept followers numbers room first table (Ok u) ok err = subst (λ xs. IsTable xs followers numbers room first) (sym (when_ok (Ok u) ok)) (hear_table n lines followers numbers room first table told)
  kept followers numbers room first table (Err e) ok err = subst (λ xs. IsTable xs followers numbers room first) (sym (when_err (Err e) err)) table

pub invariant_of-self : goal.invariant_of-self
invariant_of-self c = kept c.args.number c.args.told c.self.inside.standings.items c.in-Some.i c.index_mut.result.now c.hear_one.new.standing c.self.invariant.rising (rw (← c.as_slice.ensures.value) c.in-Some.ensures) c.index_mut.ensures.value c.hear_one.ensures.line _ _ _ _ c.self.invariant c.hear_one.result c.hear_one.ensures.ok c.hear_one.ensures.err

pub returns-in-Some-clause-ok : goal.returns-in-Some-clause-ok
returns-in-Some-clause-ok c = rw (← c.self.view_is) (when_ok c.args.number c.args.told c.self.inside.standings.items c.in-Some.i c.index_mut.result.now c.hear_one.new.standing c.self.invariant.rising (rw (← c.as_slice.ensures.value) c.in-Some.ensures) c.index_mut.ensures.value c.hear_one.ensures.line c.hear_one.result c.hear_one.ensures.ok)

pub returns-in-Some-clause-err : goal.returns-in-Some-clause-err
returns-in-Some-clause-err c = rw (← c.self.view_is) (when_err c.args.number c.args.told c.self.inside.standings.items c.in-Some.i c.index_mut.result.now c.hear_one.new.standing c.self.invariant.rising (rw (← c.as_slice.ensures.value) c.in-Some.ensures) c.index_mut.ensures.value c.hear_one.ensures.line c.hear_one.result c.hear_one.ensures.err)

pub returns-in-None-clause-ok : goal.returns-in-None-clause-ok
returns-in-None-clause-ok c = rw (← c.self.view_is) (sym (change_none number_of c.args.number (rephrase (heard c.args.told)) c.self.inside.standings.items (rw (← c.as_slice.ensures.value) c.in-None.ensures)))
