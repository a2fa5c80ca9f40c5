use Rattle.std.proofs.Common.{◌≡◌, ap, subst, sym, ◌∙◌}
use Rattle.std.specs.Prelude.{None}
use Rattle.mapdb_facts.specs.Facts.{state_of_facts}
use Rattle.mapdb_facts.specs.State.{State, state_of}
use Rattle.mapdb_rights.specs.Served.{IsServed}
use Rattle.mapdb_replica.specs.Replica.{Log}
use Rattle.mapdb_replica.proofs.Pages.ServedAlone.{served_is}
use Rattle.mapdb_replica.proofs.replicas.Replica.shows_nothing.Goals as goal

pub returns : goal.returns
returns c clear page inside =
    let state : state_of_facts c.self.inside.facts ≡ state_of c.args.self.now.ops = c.self.invariant.said ∙ ap (λ (log : Log). state_of log.ops) c.self.view_is in
    sym (served_is c.args.self.now.ops c.args.space page c.prove_formed.ensures.formed None
    (subst (λ (S : State). IsServed S c.args.space page None) state (c.shows_nothing.ensures clear page inside)))
