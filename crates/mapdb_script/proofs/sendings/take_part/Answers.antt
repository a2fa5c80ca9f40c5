use Rattle.std.proofs.Common.{List, drop, subst}
use Rattle.std.specs.Prelude.{Result}
use Rattle.mapdb_facts.specs.declared.operations.Op.{Op}
use Rattle.mapdb_replica.specs.Taking.{Takes}
use Rattle.mapdb_replica.specs.declared.faults.TakeFault.{TakeFault}
use Rattle.mapdb_script.proofs.SendingLemmas.{held_after, outcome_behind}
use Rattle.mapdb_script.proofs.sendings.take_part.Goals as goal

pub returns : goal.returns
returns c =
    let held = c.args.copy.now.ops in
    let batch = c.args.batch.now in
    let takes = subst (λ (outcome : Result (List Op) TakeFault). Takes (drop c.args.known batch) outcome c.take.result c.args.copy.now c.take.new.self)
    (outcome_behind held batch c.args.known c.requires.known c.ops-held.ensures.sound c.requires.formed) (rw (← c.split_at.ensures.back) c.take.ensures.takes) in
    record { takes = takes; held = held_after (drop c.args.known batch) batch c.take.result c.args.copy.now c.take.new.self c.ops-held.ensures.sound takes }
