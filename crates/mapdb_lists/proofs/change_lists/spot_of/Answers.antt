use Rattle.std.proofs.Common.{rules}
use Rattle.std.specs.Prelude.{nat_le}
use Rattle.std.proofs.lemmas.List.Sorted.{IsPartitionPoint-from_clause}
use Rattle.mapdb_lists.specs.declared.few_changes.PageRights.{PageRights}
use Rattle.mapdb_lists.proofs.ChangeLemmas.FewChanges.{pages_part, spot_is}
use Rattle.mapdb_lists.proofs.change_lists.spot_of.Goals as goal

pub returns : goal.returns
returns c =
    spot_is c.args.list.now c.requires c.args.page c.partition_point.result c.partition_point.ensures.bound
    (IsPartitionPoint-from_clause (λ (e : PageRights). nat_le e.page c.args.page) c.args.list.now c.partition_point.result c.partition_point.ensures.partitioned
    (pages_part c.args.list.now c.requires c.args.page) (λ a r f k. search rules))
