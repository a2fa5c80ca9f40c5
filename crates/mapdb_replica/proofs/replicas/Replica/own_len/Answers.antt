use Rattle.std.proofs.Common.{ap, arith, length}
use Rattle.mapdb_replica.specs.Replica.{Log}
use Rattle.mapdb_replica.proofs.Copies.PlacedOps.{length-ops_at}
use Rattle.mapdb_replica.proofs.replicas.Replica.own_len.Goals as goal

pub returns : goal.returns
returns c =
    let few = length-ops_at c.self.inside.ops.keys c.self.inside.own.items c.self.invariant.places_own in
    omega (arith, few, c.len.ensures, ap (λ (log : Log). length log.own) c.self.view_is)
