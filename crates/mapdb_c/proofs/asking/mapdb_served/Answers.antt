use Rattle.std.proofs.Common.{rules}
use Rattle.mapdb_c.proofs.asking.mapdb_served.Goals as goal

pub returns-clause-serves : goal.returns-clause-serves
returns-clause-serves c = search rules
