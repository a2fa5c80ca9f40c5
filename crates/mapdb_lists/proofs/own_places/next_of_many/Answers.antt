use Rattle.mapdb_lists.proofs.PlaceLemmas.OwnSweeps.{many_found, many_none}
use Rattle.mapdb_lists.proofs.own_places.next_of_many.Goals as goal

pub returns-in-Some : goal.returns-in-Some
returns-in-Some c =
    many_found c.args.many.now.places c.args.first c.args.end c.args.sweep c.if-sweep.false c.in-Some.found c.in-Some.ensures.next c.in-Some.ensures.last

pub returns-in-None : goal.returns-in-None
returns-in-None c = many_none c.args.many.now.places c.args.first c.args.end c.args.sweep c.if-sweep.false c.in-None.ensures.next
