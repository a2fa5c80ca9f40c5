use Rattle.std.proofs.Common.{rules}
use Rattle.std.specs.Ordering.{is_lt}
use Rattle.std.proofs.lemmas.List.Sorted.{IsPartitionPoint-from_clause}
use Rattle.mapdb_lists.specs.declared.own_place.OwnPlace.{OwnPlace}
use Rattle.mapdb_lists.specs.OwnPlaces.{place_cmp}
use Rattle.mapdb_lists.proofs.PlaceLemmas.PlaceLists.{before_parts}
use Rattle.mapdb_lists.proofs.place_lists.index_for.Goals as goal

pub returns-clause-parted : goal.returns-clause-parted
returns-clause-parted c =
    IsPartitionPoint-from_clause (λ (y : OwnPlace). is_lt (place_cmp y c.args.place)) c.args.list.now c.partition_point.result c.partition_point.ensures.partitioned
    (before_parts c.args.list.now c.requires c.args.place) (λ a r f k. search rules)
