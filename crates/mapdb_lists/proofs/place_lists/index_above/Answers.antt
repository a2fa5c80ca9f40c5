use Rattle.std.proofs.Common.{refl, rules}
use Rattle.std.specs.Prelude.{not}
use Rattle.std.specs.BTreeMap.Range.{is_from_start}
use Rattle.std.specs.Ordering.{is_lt}
use Rattle.std.specs.declared.ops.Bound.TheVariants.{Excluded}
use Rattle.std.proofs.lemmas.List.Sorted.{IsPartitionPoint-from_clause}
use Rattle.mapdb_lists.specs.declared.own_place.OwnPlace.{OwnPlace}
use Rattle.mapdb_lists.specs.OwnPlaces.{place_cmp}
use Rattle.mapdb_lists.proofs.PlaceLemmas.PlaceLists.{after_parts, behind_one, first_where}
use Rattle.mapdb_lists.proofs.place_lists.index_above.Goals as goal

pub returns-then-is_there : goal.returns-then-is_there
returns-then-is_there c =
    behind_one c.args.list.now c.requires c.args.at c.args.after (c.is_there.ensures.here c.if-is_there.true)

pub returns : goal.returns
returns c =
    first_where c.args.list.now c.requires (λ (y : OwnPlace). not (is_lt (place_cmp c.args.after y))) (is_from_start place_cmp (Excluded c.args.after))
    (λ k. refl) c.partition_point.result
    (IsPartitionPoint-from_clause (λ (y : OwnPlace). not (is_lt (place_cmp c.args.after y))) c.args.list.now c.partition_point.result c.partition_point.ensures.partitioned
    (after_parts c.args.list.now c.requires c.args.after) (λ a r f k. search rules))
