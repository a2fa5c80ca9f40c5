use Rattle.std.proofs.Common.{subst}
use Rattle.mapdb_facts.specs.State.{IsSound}
use Rattle.mapdb_replica.specs.Replica.{Log}
use Rattle.mapdb_replica.proofs.replicas.Replica.knows_all.Goals as goal

pub returns-then-is_new-clause-sound : goal.returns-then-is_new-clause-sound
returns-then-is_new-clause-sound c = subst (λ (log : Log). IsSound log.ops) c.self.view_is c.self.invariant.sound

pub returns-clause-sound : goal.returns-clause-sound
returns-clause-sound c = subst (λ (log : Log). IsSound log.ops) c.self.view_is c.self.invariant.sound
