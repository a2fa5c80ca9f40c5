use Rattle.std.proofs.Common.{rules}
use Rattle.mapdb_c.proofs.issuing.mapdb_unmap_word.Goals as goal

pub returns : goal.returns
returns c = search rules
