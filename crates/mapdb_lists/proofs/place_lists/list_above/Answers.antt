use Rattle.std.proofs.Common.{sym, subst}
use Rattle.std.specs.Prelude.{Option}
use Rattle.std.specs.BTreeMap.Range.{is_from_start}
use Rattle.std.specs.declared.ops.Bound.TheVariants.{Excluded}
use Rattle.mapdb_lists.specs.declared.own_place.OwnPlace.{OwnPlace}
use Rattle.mapdb_lists.specs.OwnPlaces.{IsFirstPlaceWhere, place_cmp}
use Rattle.mapdb_lists.proofs.place_lists.list_above.Goals as goal

pub returns-clause-least : goal.returns-clause-least
returns-clause-least c =
    subst (λ (r : Option OwnPlace). IsFirstPlaceWhere (is_from_start place_cmp (Excluded c.args.after)) c.args.list.now r) (sym c.spot_at.ensures.here) c.index_above.ensures
