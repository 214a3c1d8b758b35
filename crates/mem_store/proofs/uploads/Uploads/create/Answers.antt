use Rattle.mem_store.proofs.Staging.{upload_staged}
use Rattle.mem_store.proofs.uploads.Uploads.create.Goals as goal

pub returns-clause-ok : goal.returns-clause-ok
returns-clause-ok c = upload_staged c.self.inside.by_id c.insert.new.self c.args.self.now c.args.upload _ _ _ c.self.view_is c.in_ok-key.ensures c.new.ensures c.in_ok-insert.ensures.updates
