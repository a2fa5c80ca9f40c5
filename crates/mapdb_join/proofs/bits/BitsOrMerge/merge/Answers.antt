use Rattle.mapdb_join.specs.Lawful.Bits.{has_or}
use Rattle.mapdb_join.proofs.bits.BitsOrMerge.merge.Goals as goal

pub returns-clause-ok : goal.returns-clause-ok
returns-clause-ok c = rw (c.self.view_is, c.other.view_is) (has_or _ _, λ h. h.apart)
