use Rattle.job_table.proofs.AllJobs.{ready_numbers-held_of}
use Rattle.mount_core.proofs.client.Core.ready_len.Goals as goal

pub returns : goal.returns
returns c = rw (← c.self.view_is, ← ready_numbers-held_of, ← c.self.invariant.held) c.ready_len.ensures
