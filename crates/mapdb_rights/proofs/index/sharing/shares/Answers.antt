use Rattle.std.proofs.Common.{rules}
use Rattle.mapdb_rights.proofs.index.sharing.shares.Goals as goal

pub returns-then-is-2 : goal.returns-then-is-2
returns-then-is-2 c = search rules
