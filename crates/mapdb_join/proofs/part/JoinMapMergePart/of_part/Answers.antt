use Rattle.std.proofs.Common.{rules}
use Rattle.mapdb_join.proofs.part.JoinMapMergePart.of_part.Goals as goal

pub returns-clause-keys : goal.returns-clause-keys
returns-clause-keys g c = search rules
