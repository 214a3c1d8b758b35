use Rattle.std.proofs.Common.{arith}
use Rattle.mp_record.proofs.Appends.{AppendsBut-write}
use Rattle.mp_record.proofs.write.write_all.Goals as goal

pub loop-rest-preserved : goal.loop-rest-preserved
loop-rest-preserved g c = record {
  appended = AppendsBut-write _ _ _ _ _ _ c.loop-rest.invariant.appended c.in_ok-count.ensures.told;
  faults = omega (arith, c.write.ensures.faults_grow);
}
