use Rattle.std.proofs.Common.{◌≡◌, ℕ, ◌≤◌, ◌<◌}
use Rattle.mapdb_facts.specs.Facts.{state_of_facts}
use Rattle.mapdb_facts.specs.State.{State}
use Rattle.mapdb_rights.specs.Right.{rights_at}
use Rattle.mapdb_replica.proofs.Copies.FoundAnswers.{equal_on, found_fact}
use Rattle.mapdb_replica.proofs.asking.equal_until.Goals as goal

pub returns-in-Some-clause-same : goal.returns-in-Some-clause-same
returns-in-Some-clause-same c =
    found_fact c.args.index.now (state_of_facts c.args.facts.now) c.unchanged_until.result c.in-Some.end
    (λ (S : State) (end : ℕ). (q : ℕ) → c.args.page ≤ q → q < end → rights_at S c.args.id q ≡ rights_at S c.args.id c.args.page)
    c.requires.kept c.unchanged_until.ensures.absent c.unchanged_until.ensures.same c.in-Some.is

pub returns-in-None-clause-same : goal.returns-in-None-clause-same
returns-in-None-clause-same c = equal_on (state_of_facts c.args.facts.now) c.args.id c.args.page c.steady_until.result c.steady_until.ensures.steady
