use Rattle.std.proofs.Common.{rules}
use Rattle.mapdb_lists.proofs.place_sets.start_of.Goals as goal

pub returns : goal.returns
returns c = search rules
