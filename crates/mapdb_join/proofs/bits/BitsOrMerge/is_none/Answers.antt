use Rattle.mapdb_join.proofs.Byte.{none_bits}
use Rattle.mapdb_join.proofs.bits.BitsOrMerge.is_none.Goals as goal

pub returns : goal.returns
returns c = rw c.self.view_is (none_bits _)
