use Rattle.std.proofs.Common.{ap, rules}
use Rattle.mapdb_exchange.specs.declared.rules.PassView.{PassView}
use Rattle.mapdb_exchange.proofs.Carrying.{begins, forks}
use Rattle.mapdb_exchange.proofs.links.link.Goals as goal

pub bounded_with-requires-clause-rule : goal.bounded_with-requires-clause-rule
bounded_with-requires-clause-rule g c = begins

pub another-other-requires-clause-rule : goal.another-other-requires-clause-rule
another-other-requires-clause-rule g c =
    forks _ _ (ap (λ (v : PassView). v.sends) c.in_ok-sender.ensures.3) (ap (λ (v : PassView). v.receives) c.in_ok-sender.ensures.3)

pub invariant_of-incoming : goal.invariant_of-incoming
invariant_of-incoming g c = search rules
