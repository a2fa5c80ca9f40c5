use Rattle.std.proofs.Common.{◌≡◌, take}
use Rattle.std.specs.List.{filter}
use Rattle.mapdb_facts.specs.Adding.{is_new}
use Rattle.mapdb_facts.specs.State.{state_of}
use Rattle.mapdb_replica.proofs.replicas.Replica.unheld.Given as goal

-- those so far that say something new
abbrev pub invariant-loop-op : goal.invariant-loop-op
invariant-loop-op l = l.unheld.items ≡ filter (is_new (state_of l.self.ops)) (take l.op-index l.batch)
