use Rattle.std.proofs.Common.{rules}
use Rattle.mapdb_replica.proofs.running.continues.Goals as goal

pub returns-in-None-None : goal.returns-in-None-None
returns-in-None-None c = search rules
