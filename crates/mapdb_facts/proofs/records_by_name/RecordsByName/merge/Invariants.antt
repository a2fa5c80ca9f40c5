use Rattle.std.proofs.Common.{drop}
use Rattle.mapdb_join.proofs.Walking.{Merged}
use Rattle.mapdb_facts.specs.Adding.{same_record}
use Rattle.mapdb_facts.specs.Kept.{id_cmp}
use Rattle.mapdb_facts.proofs.NameLemmas.NamesInOrder.{found_by}
use Rattle.mapdb_facts.proofs.NameLemmas.OwnNames.{own_names}
use Rattle.mapdb_facts.proofs.records_by_name.RecordsByName.merge.Given as goal

abbrev pub invariant-loop-theirs : goal.invariant-loop-theirs
invariant-loop-theirs l = Merged id_cmp same_record l.fn.self l.other l.self (found_by l.other (own_names (drop l.theirs-index l.theirs-items)))
