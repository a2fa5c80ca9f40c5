use Rattle.std.proofs.Common.{rules}
use Rattle.mapdb_facts.proofs.names.Space.first.Goals as goal

pub returns : goal.returns
returns c = search rules
