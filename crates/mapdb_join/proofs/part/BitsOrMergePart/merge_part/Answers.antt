use Rattle.mapdb_join.specs.Lawful.Bits.{has_or}
use Rattle.mapdb_join.proofs.part.BitsOrMergePart.merge_part.Goals as goal

pub returns-clause-ok : goal.returns-clause-ok
returns-clause-ok c = rw c.add.ensures.added (has_or _ _, λ h. h.apart)
