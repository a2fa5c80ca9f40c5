use Rattle.std.proofs.Common.{◌≡◌, ◌∙◌, ◌<◌, List, length, get_or, true, false, rules, subst, sym, ap}
use Rattle.std.specs.List.Sorted.{IsPartitionPoint}
use Rattle.std.specs.Ordering.{is_lt}
use Rattle.mapdb_lists.specs.declared.own_place.OwnPlace.{OwnPlace}
use Rattle.mapdb_lists.specs.Ascending.{Ascend}
use Rattle.mapdb_lists.specs.OwnPlaces.{place_cmp, stands}
use Rattle.mapdb_lists.proofs.PlaceLemmas.PlaceLists.{put_ascends, put_stands}
use Rattle.mapdb_lists.proofs.place_lists.list_put.Goals as goal

pub returns-clause-ascends : goal.returns-clause-ascends
returns-clause-ascends c =
    subst (λ (l : List OwnPlace). Ascend l) (sym (c.in_ok-insert.ensures {u = tt}).items)
    (put_ascends c.args.list.now.items c.requires c.index_for-index.result c.args.place (search rules)
    (subst (λ (l : List OwnPlace). IsPartitionPoint (λ (y : OwnPlace). is_lt (place_cmp y c.args.place) ≡ true) (λ (y : OwnPlace). is_lt (place_cmp y c.args.place) ≡ false) l c.index_for-index.result)
    c.as_slice.ensures.value c.index_for-index.ensures.parted)
    (subst (λ (l : List OwnPlace). (d : OwnPlace) → c.index_for-index.result < length l → ¬ (get_or l c.index_for-index.result d ≡ c.args.place))
    c.as_slice-2.ensures.value (c.is_there.ensures.not_there c.if-is_there.false)))

pub returns-clause-put : goal.returns-clause-put
returns-clause-put c k =
    ap (λ (l : List OwnPlace). stands l k) ((c.in_ok-insert.ensures {u = tt}).items) ∙ put_stands c.args.list.now.items c.index_for-index.result c.args.place k
