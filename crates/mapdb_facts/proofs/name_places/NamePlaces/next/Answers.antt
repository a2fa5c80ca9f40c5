use Rattle.mapdb_facts.specs.NamePlaces.{place_in}
use Rattle.mapdb_facts.proofs.NameLemmas.NextNames.{least_of_both, none_of_both, place_reached}
use Rattle.mapdb_facts.proofs.name_places.NamePlaces.next.Goals as goal

pub returns-clause-none : goal.returns-clause-none
returns-clause-none c =
    let near = c.near_above.ensures in
    let far = c.far_above-far.ensures in
    none_of_both c.near_above.result c.far_above-far.result c.lesser.result c.args.after (place_in c.args.self.now) c.lesser.ensures.none
    (place_reached c.args.self.now c.args.after c.walk_end-end.result c.near_above.result c.far_above-far.result
    (rw c.as_slice-lists.ensures.value at near.none) (rw c.as_slice-lists.ensures.value at near.least) far.none far.least (rw c.as_slice-lists.ensures.value at c.walk_end-end.ensures.behind))

pub returns-clause-least : goal.returns-clause-least
returns-clause-least c =
    let near = c.near_above.ensures in
    let far = c.far_above-far.ensures in
    least_of_both c.near_above.result c.far_above-far.result c.lesser.result c.args.after (place_in c.args.self.now) c.lesser.ensures.least
    (place_reached c.args.self.now c.args.after c.walk_end-end.result c.near_above.result c.far_above-far.result
    (rw c.as_slice-lists.ensures.value at near.none) (rw c.as_slice-lists.ensures.value at near.least) far.none far.least (rw c.as_slice-lists.ensures.value at c.walk_end-end.ensures.behind))
