use Rattle.std.proofs.Common.{◌≡◌, ◌++◌, List, subst, rules}
use Rattle.mapdb_exchange.specs.Ends.{Outlet}
use Rattle.mapdb_exchange.specs.Links.{IsFinLast}
use Rattle.mapdb_exchange.specs.declared.messages.Message.{Message}
use Rattle.mapdb_exchange.proofs.Carrying.{merges}
use Rattle.mapdb_exchange.proofs.Fins.{settles}
use Rattle.mapdb_exchange.proofs.links.settle.Goals as goal

pub absorb-requires-clause-rule : goal.absorb-requires-clause-rule
absorb-requires-clause-rule g c = merges _ _ _ _ c.outgoing.invariant.1 c.incoming.invariant.1

pub returns-clause-whole : goal.returns-clause-whole
returns-clause-whole g c =
    let p : (rest : List Message) × (c.args.outgoing.put ≡ c.args.incoming.received ++ rest) = search rules in
    let last : IsFinLast c.args.outgoing.put = subst (λ (o : Outlet). IsFinLast o.put) c.outgoing.view_is c.outgoing.invariant.3 in
    settles c.args.outgoing.put c.args.incoming.received last p.0 p.1
