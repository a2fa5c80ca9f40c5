use Rattle.std.specs.BTreeMap.Range.{is_from_start}
use Rattle.std.specs.Ordering.{is_lt}
use Rattle.std.specs.declared.ops.Bound.TheVariants.{Included}
use Rattle.mapdb_lists.specs.declared.own_place.OwnPlace.{OwnPlace}
use Rattle.mapdb_lists.specs.OwnPlaces.{place_cmp}
use Rattle.mapdb_lists.proofs.PlaceLemmas.PlaceLists.{first_where, not_from}
use Rattle.mapdb_lists.proofs.place_lists.index_from.Goals as goal

pub returns : goal.returns
returns c =
    first_where c.args.list.now c.requires (λ (y : OwnPlace). is_lt (place_cmp y c.args.from)) (is_from_start place_cmp (Included c.args.from))
    (not_from c.args.from) c.index_for.result c.index_for.ensures.parted
