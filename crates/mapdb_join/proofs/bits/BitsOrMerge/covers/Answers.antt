use Rattle.mapdb_join.proofs.Byte.{covers_bits}
use Rattle.mapdb_join.proofs.bits.BitsOrMerge.covers.Goals as goal

pub returns : goal.returns
returns c = rw (c.self.view_is, c.other.view_is) (covers_bits _ _)
