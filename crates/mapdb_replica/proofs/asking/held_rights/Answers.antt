use Rattle.mapdb_facts.specs.Facts.{state_of_facts}
use Rattle.mapdb_facts.specs.State.{State}
use Rattle.mapdb_rights.specs.Right.{rights_at}
use Rattle.mapdb_replica.proofs.Copies.FoundAnswers.{found_value}
use Rattle.mapdb_replica.proofs.asking.held_rights.Goals as goal

pub returns-in-Some : goal.returns-in-Some
returns-in-Some c =
    found_value c.args.index.now (state_of_facts c.args.facts.now) c.right_at.result c.in-Some.rights (λ (S : State). rights_at S c.args.id c.args.page)
    c.requires c.right_at.ensures.absent c.right_at.ensures.rights c.in-Some.is
