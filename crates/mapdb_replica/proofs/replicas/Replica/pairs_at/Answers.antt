use Rattle.std.proofs.Common.{◌≡◌, ap, subst, ◌∙◌}
use Rattle.std.specs.Prelude.{IfOk, IfSome}
use Rattle.mapdb_facts.specs.Facts.{state_of_facts}
use Rattle.mapdb_facts.specs.State.{State, state_of}
use Rattle.mapdb_rights.specs.PagePairs.{ArePagePairs}
use Rattle.mapdb_replica.specs.Replica.{Log}
use Rattle.mapdb_replica.proofs.replicas.Replica.pairs_at.Goals as goal

pub returns-clause-pairs : goal.returns-clause-pairs
returns-clause-pairs c =
    let state : state_of_facts c.self.inside.facts ≡ state_of c.args.self.now.ops = c.self.invariant.said ∙ ap (λ (log : Log). state_of log.ops) c.self.view_is in
    subst (λ (S : State). IfOk c.pairs_at.result (λ pairs. IfSome pairs (λ list. ArePagePairs S c.args.space c.args.page list.items))) state c.pairs_at.ensures.pairs
