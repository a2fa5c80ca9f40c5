use Rattle.std.proofs.Common.{◌≤◌, ◌-◌, ◌+◌, length}
use Rattle.mapdb_facts.specs.State.{state_of}
use Rattle.mapdb_replica.specs.Replica.{most_operations}
use Rattle.mapdb_replica.specs.Versions.{EndBefore}
use Rattle.mapdb_replica.proofs.replicas.Replica.free_version.Given as goal

-- the versions so far have ended
abbrev pub invariant-versions : goal.invariant-versions
invariant-versions l = record {
  before : EndBefore (state_of l.self.ops) l.number l.version;
  limit : l.version ≤ length l.self.ops;
  small : l.version ≤ most_operations;
}

abbrev pub decreases-versions : goal.decreases-versions
decreases-versions l = most_operations + 1 - l.version
