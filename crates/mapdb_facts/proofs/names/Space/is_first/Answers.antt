use Rattle.std.proofs.Common.{rules}
use Rattle.mapdb_facts.proofs.names.Space.is_first.Goals as goal

pub returns-then-self : goal.returns-then-self
returns-then-self c = search rules
