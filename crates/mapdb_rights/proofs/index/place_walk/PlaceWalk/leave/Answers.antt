use Rattle.std.proofs.Common.{◌+◌, refl, rules}
use Rattle.std.specs.Prelude.{nat_lt}
use Rattle.std.proofs.lemmas.Fn.{filter_same}
use Rattle.mapdb_lists.specs.OwnPlaces.{own_pages}
use Rattle.mapdb_lists.specs.declared.own_place.OwnPlace.{OwnPlace}
use Rattle.mapdb_rights.proofs.Places.PlaceWalks.{come_without}
use Rattle.mapdb_rights.proofs.index.place_walk.PlaceWalk.leave.Goals as goal

pub returns : goal.returns
returns c places come =
    come_without places c.args.page c.args.self.now _
    (filter_same _ (λ (x : OwnPlace). nat_lt c.args.page (x.first + own_pages x)) _ (λ x b g called. search rules) _ _ c.retain.ensures.filtered) refl come
