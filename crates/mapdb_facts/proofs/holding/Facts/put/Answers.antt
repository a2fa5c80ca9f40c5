use Rattle.std.proofs.Common.{rules}
use Rattle.mapdb_facts.proofs.holding.Facts.put.Goals as goal

pub returns-in-Cut-clause-said : goal.returns-in-Cut-clause-said
returns-in-Cut-clause-said c = search rules
