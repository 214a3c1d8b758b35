use Rattle.mem_store.proofs.Adds.{adds}
use Rattle.mem_store.proofs.Lists.{list_fits}
use Rattle.mem_store.proofs.store.MemStoreStore.call.Goals as goal

pub returns-in-Head-clause-told : goal.returns-in-Head-clause-told
returns-in-Head-clause-told c = adds _ _ _ _ _ _ c.in-Head.is c.head.ensures

pub returns-in-Probe-clause-told : goal.returns-in-Probe-clause-told
returns-in-Probe-clause-told c = adds _ _ _ _ _ _ c.in-Probe.is c.probe.ensures

pub returns-in-List-clause-told : goal.returns-in-List-clause-told
returns-in-List-clause-told c = adds _ _ _ _ _ _ c.in-List.is c.list.ensures

pub returns-in-List-clause-kind : goal.returns-in-List-clause-kind
returns-in-List-clause-kind c = list_fits c.args.call c.in-List.is c.requires c.list.ensures

pub returns-in-Get-clause-told : goal.returns-in-Get-clause-told
returns-in-Get-clause-told c = adds _ _ _ _ _ _ c.in-Get.is c.get.ensures.served

pub returns-in-Delete-clause-told : goal.returns-in-Delete-clause-told
returns-in-Delete-clause-told c = adds _ _ _ _ _ _ c.in-Delete.is c.delete.ensures

pub returns-in-Put-clause-told : goal.returns-in-Put-clause-told
returns-in-Put-clause-told c = adds _ _ _ _ _ _ c.in-Put.is c.put.ensures

pub returns-in-Create-clause-told : goal.returns-in-Create-clause-told
returns-in-Create-clause-told c = adds _ _ _ _ _ _ c.in-Create.is c.create.ensures

pub returns-in-Part-clause-told : goal.returns-in-Part-clause-told
returns-in-Part-clause-told c = adds _ _ _ _ _ _ c.in-Part.is c.part.ensures

pub returns-in-Complete-clause-told : goal.returns-in-Complete-clause-told
returns-in-Complete-clause-told c = adds _ _ _ _ _ _ c.in-Complete.is c.complete.ensures

pub returns-in-Abort-clause-told : goal.returns-in-Abort-clause-told
returns-in-Abort-clause-told c = adds _ _ _ _ _ _ c.in-Abort.is c.abort.ensures
