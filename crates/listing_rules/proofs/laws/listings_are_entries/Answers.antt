use Rattle.listing_rules.proofs.Remote.{entry_shown, never_shown}
use Rattle.listing_rules.proofs.laws.listings_are_entries.Goals as goal

pub returns-clause-entry : goal.returns-clause-entry
returns-clause-entry c = λ state prefix own name below valid tells. entry_shown prefix name valid state own below tells.0 tells.1

pub returns-clause-invalid : goal.returns-clause-invalid
returns-clause-invalid c = λ prefix items own name invalid. never_shown name invalid prefix items own
