use Rattle.std.proofs.Common.{drop}
use Rattle.mapdb_facts.proofs.NameLemmas.OwnNames.{own_names}
use Rattle.mapdb_facts.proofs.RecordLemmas.HeldInOrder.{IsLeastSoFar}
use Rattle.mapdb_facts.proofs.records_by_name.RecordsByName.clash.Given as goal

abbrev pub invariant-loop-theirs : goal.invariant-loop-theirs
invariant-loop-theirs l = IsLeastSoFar l.self l.other (own_names (drop l.theirs-index l.theirs-items)) l.least
