use Rattle.mapdb_replica.specs.Commands.{command_outcome}
use Rattle.mapdb_replica.proofs.Calls.AppliedLemmas.{applied_few}
use Rattle.mapdb_replica.proofs.replicas.Replica.apply.Goals as goal

pub returns-clause-few : goal.returns-clause-few
returns-clause-few c =
    applied_few c.args.command.now (command_outcome c.args.self.now c.args.command.now) c.apply_by_kind-applied.result c.args.self.now c.apply_by_kind-applied.new.self
    c.apply_by_kind-applied.ensures.applies c.prove_formed.ensures.few
