use Rattle.std.proofs.Common.{rules}
use Rattle.mapdb_c.proofs.issuing.mapdb_map_words.Goals as goal

pub returns : goal.returns
returns c = search rules
