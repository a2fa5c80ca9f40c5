use Rattle.std.proofs.Common.{List, [], subst, sym}
use Rattle.mapdb_replica.specs.Replica.{Log}
use Rattle.mapdb_facts.specs.declared.operations.Op.{Op}
use Rattle.mapdb_cluster.specs.Kept.{IsKeptNet}
use Rattle.mapdb_cluster.proofs.Moves.HonestRuns.{new_kept}
use Rattle.mapdb_cluster.proofs.clusters.Cluster.new.Goals as goal

pub invariant_of-result : goal.invariant_of-result
invariant_of-result c =
    subst (λ (ms : List (List Op)). IsKeptNet (record { copies = c.in_ok-copies.copies.items; messages = ms })) (sym c.new.ensures.items)
    (subst (λ (xs : List Log). IsKeptNet (record { copies = xs; messages = [] })) (sym c.in_ok-copies.ensures) (new_kept c.args.processors c.requires.most))
