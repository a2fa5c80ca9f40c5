use Rattle.mapdb_facts.proofs.Maps.NamedCuts.{CoversBut}
use Rattle.mapdb_facts.proofs.cuts_by_record.covers_all.Given as goal

abbrev pub invariant-loop-id : goal.invariant-loop-id
invariant-loop-id l = CoversBut l.cuts.entries l.other.entries l.id-items l.id-index
