use Rattle.mapdb_facts.specs.Facts.{state_of_facts}
use Rattle.mapdb_facts.specs.State.{State}
use Rattle.mapdb_replica.specs.Pairs.{holder_pair}
use Rattle.mapdb_replica.proofs.Copies.FoundAnswers.{found_value}
use Rattle.mapdb_replica.proofs.asking.held_pair.Goals as goal

pub returns-in-Some : goal.returns-in-Some
returns-in-Some c =
    found_value c.args.index.now (state_of_facts c.args.facts.now) c.pair_at.result c.in-Some.pair (λ (S : State). holder_pair S c.args.page c.args.id)
    c.requires c.pair_at.ensures.absent c.pair_at.ensures.pair c.in-Some.is
