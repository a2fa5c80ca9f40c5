use Rattle.std.proofs.Common.{◌≡◌, ap, subst, ◌∙◌}
use Rattle.mapdb_facts.specs.Facts.{state_of_facts}
use Rattle.mapdb_facts.specs.State.{State, state_of}
use Rattle.mapdb_rights.specs.Live.{ShowUntil}
use Rattle.mapdb_replica.specs.Replica.{Log}
use Rattle.mapdb_replica.proofs.replicas.Replica.end_by_all.Goals as goal

pub returns-clause-shown : goal.returns-clause-shown
returns-clause-shown c =
    let state : state_of_facts c.self.inside.facts ≡ state_of c.args.self.now.ops = c.self.invariant.said ∙ ap (λ (log : Log). state_of log.ops) c.self.view_is in
    subst (λ (S : State). ShowUntil S c.args.space c.args.page c.show_until.result) state c.show_until.ensures.shown
