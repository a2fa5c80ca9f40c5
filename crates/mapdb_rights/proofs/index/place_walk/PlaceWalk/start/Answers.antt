use Rattle.std.proofs.Common.{rules}
use Rattle.mapdb_rights.proofs.index.place_walk.PlaceWalk.start.Goals as goal

pub returns : goal.returns
returns c = search rules
