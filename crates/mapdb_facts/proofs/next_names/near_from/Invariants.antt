use Rattle.std.proofs.Common.{◌-◌}
use Rattle.mapdb_facts.proofs.NameLemmas.NextNames.{IsWalked}
use Rattle.mapdb_facts.proofs.next_names.near_from.Given as goal

abbrev pub invariant-loop-at : goal.invariant-loop-at
invariant-loop-at l = IsWalked l.near l.number l.first l.at l.processor

abbrev pub decreases-loop-at : goal.decreases-loop-at
decreases-loop-at l = l.end - l.at
