use Rattle.std.proofs.Common.{◌≡◌, ◌∙◌, ◌<◌, List, length, get_or, true, false, subst, ap}
use Rattle.std.specs.List.Sorted.{IsPartitionPoint}
use Rattle.std.specs.Ordering.{is_lt}
use Rattle.mapdb_lists.specs.declared.own_place.OwnPlace.{OwnPlace}
use Rattle.mapdb_lists.specs.Ascending.{IsAtIndex}
use Rattle.mapdb_lists.specs.OwnPlaces.{place_cmp, stands}
use Rattle.mapdb_lists.proofs.PlaceLemmas.LessPlaces.{absent_stands, remove_stands, stands_nowhere}
use Rattle.mapdb_lists.proofs.place_lists.list_remove.Goals as goal

pub returns-then-is_there-clause-removed : goal.returns-then-is_there-clause-removed
returns-then-is_there-clause-removed c k =
    let here : IsAtIndex c.args.list.now.items c.index_for-index.result c.args.place =
    subst (λ (l : List OwnPlace). IsAtIndex l c.index_for-index.result c.args.place) c.as_slice-2.ensures.value (c.is_there.ensures.here c.if-is_there.true) in
    ap (λ (l : List OwnPlace). stands l k) c.remove.ensures.items
    ∙ remove_stands c.args.list.now.items c.requires c.index_for-index.result here.0 c.args.place k here

pub returns-else-is_there-clause-removed : goal.returns-else-is_there-clause-removed
returns-else-is_there-clause-removed c k =
    absent_stands c.args.list.now.items c.args.place k
    (stands_nowhere c.args.list.now.items c.requires c.index_for-index.result c.args.place
    (subst (λ (l : List OwnPlace). IsPartitionPoint (λ (y : OwnPlace). is_lt (place_cmp y c.args.place) ≡ true) (λ (y : OwnPlace). is_lt (place_cmp y c.args.place) ≡ false) l c.index_for-index.result)
    c.as_slice.ensures.value c.index_for-index.ensures.parted)
    (subst (λ (l : List OwnPlace). (d : OwnPlace) → c.index_for-index.result < length l → ¬ (get_or l c.index_for-index.result d ≡ c.args.place))
    c.as_slice-2.ensures.value (c.is_there.ensures.not_there c.if-is_there.false)))
