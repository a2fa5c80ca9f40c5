use Rattle.std.proofs.Common.{◌+◌}
use Rattle.mapdb_lists.proofs.PlaceLemmas.PlaceLists.{item_at, next_is, none_next}
use Rattle.mapdb_lists.proofs.place_lists.spot_at.Goals as goal

pub returns-then-index-list-2-clause-behind : goal.returns-then-index-list-2-clause-behind
returns-then-index-list-2-clause-behind c =
    next_is c.args.list.now c.requires c.args.index _ _ (item_at c.args.list.now c.args.index c.index-list-index.result c.index-list-index.is c.if-index-list.false)
    (item_at c.args.list.now (c.args.index + 1) c.index-list-index-then-index-list-2.result c.index-list-index-then-index-list-2.is c.if-index-list-2.true)

pub returns-else-index-list-2-clause-behind : goal.returns-else-index-list-2-clause-behind
returns-else-index-list-2-clause-behind c =
    none_next c.args.list.now c.requires c.args.index _ (item_at c.args.list.now c.args.index c.index-list-index.result c.index-list-index.is c.if-index-list.false) c.if-index-list-2.false
