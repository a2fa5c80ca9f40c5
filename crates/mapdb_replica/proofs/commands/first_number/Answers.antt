use Rattle.std.proofs.Common.{rules}
use Rattle.mapdb_replica.proofs.commands.first_number.Goals as goal

pub returns-in-Some : goal.returns-in-Some
returns-in-Some c = search rules
