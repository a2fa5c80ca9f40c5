use Rattle.mapdb_facts.proofs.Maps.NamedCuts.{MergedTo}
use Rattle.mapdb_facts.proofs.cuts_by_record.merge_all.Given as goal

abbrev pub invariant-loop-id : goal.invariant-loop-id
invariant-loop-id l = MergedTo l.fn.cuts.entries l.other.entries l.cuts.entries l.id-items l.id-index
