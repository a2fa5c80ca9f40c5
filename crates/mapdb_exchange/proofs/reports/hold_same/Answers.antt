use Rattle.mapdb_exchange.proofs.SameCopies.{same_copies}
use Rattle.mapdb_exchange.proofs.reports.hold_same.Goals as goal

pub returns : goal.returns
returns c = same_copies _ _ c.requires
