use Rattle.std.proofs.Common.{rules}
use Rattle.mapdb_node.proofs.sharing.Shared.give.Goals as goal

pub returns-then-number-ge-MOST_SEATS-clause-full : goal.returns-then-number-ge-MOST_SEATS-clause-full
returns-then-number-ge-MOST_SEATS-clause-full c = search rules
