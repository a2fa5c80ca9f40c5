use Rattle.std.proofs.Common.{◌≡◌, ap, subst, ◌∙◌}
use Rattle.std.specs.Prelude.{IfSome}
use Rattle.mapdb_facts.specs.Facts.{state_of_facts}
use Rattle.mapdb_facts.specs.State.{State, state_of}
use Rattle.mapdb_rights.specs.Live.{ShowUntil}
use Rattle.mapdb_rights.specs.Served.{IsServed}
use Rattle.mapdb_replica.specs.Replica.{Log}
use Rattle.mapdb_replica.proofs.replicas.Replica.shown_at.Goals as goal

pub returns-clause-served : goal.returns-clause-served
returns-clause-served c =
    let state : state_of_facts c.self.inside.facts ≡ state_of c.args.self.now.ops = c.self.invariant.said ∙ ap (λ (log : Log). state_of log.ops) c.self.view_is in
    subst (λ (S : State). IfSome c.shown_at.result (λ shown. IsServed S c.args.space c.args.page shown.served)) state c.shown_at.ensures.served

pub returns-clause-shown : goal.returns-clause-shown
returns-clause-shown c =
    let state : state_of_facts c.self.inside.facts ≡ state_of c.args.self.now.ops = c.self.invariant.said ∙ ap (λ (log : Log). state_of log.ops) c.self.view_is in
    subst (λ (S : State). IfSome c.shown_at.result (λ shown. ShowUntil S c.args.space c.args.page shown.end)) state c.shown_at.ensures.shown
