use Rattle.std.proofs.Common.{sym, subst, length, arith}
use Rattle.std.specs.Prelude.{slice_get}
use Rattle.std.specs.BTreeMap.Range.{is_from_start}
use Rattle.std.specs.declared.ops.Bound.TheVariants.{Included}
use Rattle.std.proofs.lemmas.Option.{slice_get_past}
use Rattle.mapdb_lists.specs.declared.own_place.OwnPlace.{OwnPlace}
use Rattle.mapdb_lists.specs.OwnPlaces.{HasReachedFrom, IsFirstPlaceWhere, place_cmp}
use Rattle.mapdb_lists.proofs.PlaceLemmas.Meetings.{first_reached, none_left}
use Rattle.mapdb_lists.proofs.list_sweeps.list_reach.Goals as goal

pub returns-in_default : goal.returns-in_default
returns-in_default c end =
    subst (HasReachedFrom c.args.list.now c.args.order c.args.page end) (sym (slice_get_past c.args.list.now (length c.args.list.now) (omega arith)))
    (none_left c.args.list.now c.args.orders c.requires.aligned c.requires.ordered c.args.order c.max.result c.args.page end (omega (arith, c.max.ensures)) (λ m up least. omega (arith, c.max.ensures)) c.in_default.ensures)

pub returns : goal.returns
returns c end =
    first_reached c.args.list.now c.args.orders c.requires.aligned c.requires.ordered c.args.order c.max.result c.args.page end
    (omega (arith, c.max.ensures)) (λ m up least. omega (arith, c.max.ensures)) c.in-Some.next c.in-Some.ensures (slice_get c.args.list.now c.index_from.result)
    (subst (λ (p : OwnPlace). IsFirstPlaceWhere (is_from_start place_cmp (Included p)) c.args.list.now (slice_get c.args.list.now c.index_from.result)) c.start_of.ensures c.index_from.ensures)
