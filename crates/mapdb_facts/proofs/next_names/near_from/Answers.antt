use Rattle.std.proofs.Common.{sym, inr}
use Rattle.mapdb_facts.proofs.NameLemmas.NextNames.{walked_on}
use Rattle.mapdb_facts.proofs.next_names.near_from.Goals as goal

pub returns-in-Some-clause-found : goal.returns-in-Some-clause-found
returns-in-Some-clause-found c =
    let found = c.in-Some.ensures.found in
    (c.loop-at.invariant.within c.in-Some.id (inr (sym found.0, found.1)), found.2)

pub loop-at-preserved : goal.loop-at-preserved
loop-at-preserved c = walked_on c.args.near.now c.args.number c.args.first c.loop-at.at c.loop-at.processor c.loop-at.invariant c.in_default.ensures.none
