use Rattle.std.proofs.Common.{[], ap, sym}
use Rattle.std.proofs.lemmas.Bool.{false≢true}
use Rattle.mapdb_facts.specs.Exact.{exact_space}
use Rattle.mapdb_lists.specs.declared.places.Owner.TheVariants as owners
use Rattle.mapdb_lists.specs.OwnPlaces.{own_list}
use Rattle.std.proofs.lemmas.Result.{on_ok_weaker}
use Rattle.mapdb_lists.proofs.PlaceLemmas.OwnersPlaces.{own_aligned, there}
use Rattle.mapdb_rights.specs.HeldPlaces.{place_of}
use Rattle.mapdb_rights.proofs.index.children.push_space.Goals as goal

pub push_places-requires : goal.push_places-requires
push_places-requires c = own_aligned c.args.live.now (owners.Space c.args.space) (own_list c.in-Some.own.now) (sym c.in-Some.ensures) c.requires

pub returns-in-Some : goal.returns-in-Some
returns-in-Some c =
    on_ok_weaker c.push_places.result
    (λ stale r held place listed same.
    stale r held place
    (there c.args.live.now (owners.Space c.args.space) (own_list c.in-Some.own.now) (sym c.in-Some.ensures) (place_of r) (ap owners.Space (sym (exact_space c.args.space r.space same))) listed))
    c.push_places.ensures

pub returns-in-None : goal.returns-in-None
returns-in-None c r held place listed same =
    absurd (false≢true (there c.args.live.now (owners.Space c.args.space) [] (sym c.in-None.ensures) (place_of r) (ap owners.Space (sym (exact_space c.args.space r.space same))) listed))
