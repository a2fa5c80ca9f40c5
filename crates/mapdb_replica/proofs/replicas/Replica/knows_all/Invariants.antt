use Rattle.std.proofs.Common.{◌≡◌, take, true}
use Rattle.mapdb_replica.specs.Agreement.{knows_all}
use Rattle.mapdb_replica.proofs.replicas.Replica.knows_all.Given as goal

-- those so far are known
abbrev pub invariant-loop-op : goal.invariant-loop-op
invariant-loop-op l = knows_all l.self.ops (take l.op-index l.ops) ≡ true
