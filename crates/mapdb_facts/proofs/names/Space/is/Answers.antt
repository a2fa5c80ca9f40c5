use Rattle.std.proofs.Common.{rules}
use Rattle.mapdb_facts.proofs.names.Space.is.Goals as goal

pub returns-then-self-other : goal.returns-then-self-other
returns-then-self-other c = search rules
