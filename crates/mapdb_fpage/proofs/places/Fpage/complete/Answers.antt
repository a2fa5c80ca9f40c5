use Rattle.std.proofs.Common.{rules}
use Rattle.mapdb_fpage.proofs.places.Fpage.complete.Goals as goal

pub returns : goal.returns
returns c = search rules
