use Rattle.mapdb_join.proofs.Byte.{adds_bits}
use Rattle.mapdb_join.proofs.bits.BitsOr.add.Goals as goal

pub returns-clause-result : goal.returns-clause-result
returns-clause-result c = rw c.self.view_is (adds_bits _ _)
