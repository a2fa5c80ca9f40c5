use Rattle.std.proofs.Common.{refl}
use Rattle.mapdb_rights.proofs.index.rights_index.RightsIndex.build.Goals as goal

pub returns : goal.returns
returns c = record { there = refl; stands = c.in_ok-settle_all.ensures }
