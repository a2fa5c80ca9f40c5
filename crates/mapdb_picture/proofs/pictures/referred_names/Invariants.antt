use Rattle.mapdb_facts.specs.Facts.{records_of_facts}
use Rattle.mapdb_snapshot.specs.Cutting.{cut_names}
use Rattle.mapdb_picture.proofs.ReferredNames.{Gathered}
use Rattle.mapdb_picture.proofs.pictures.referred_names.Given as goal

-- the names so far, in order, with the parents of the records that are left
abbrev pub invariant-loop-mapping : goal.invariant-loop-mapping
invariant-loop-mapping l = Gathered (records_of_facts l.facts) l.mapping-iterator (cut_names l.ops) l.names.keys
