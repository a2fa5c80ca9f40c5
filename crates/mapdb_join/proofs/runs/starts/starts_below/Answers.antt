use Rattle.std.proofs.Common.{rules, ltb}
use Rattle.std.proofs.lemmas.List.Sorted.{IsPartitionedBy-ltb, IsPartitionPoint-from_clause}
use Rattle.mapdb_join.proofs.Counting.{count_at, pages_rise}
use Rattle.mapdb_join.specs.declared.runs.starts.Start.{Start}
use Rattle.mapdb_join.proofs.runs.starts.starts_below.Goals as goal

pub returns-clause-count : goal.returns-clause-count
returns-clause-count c =
    count_at c.args.starts.now c.args.page c.partition_point.result c.partition_point.ensures.bound
    (IsPartitionPoint-from_clause (λ (s : Start). ltb s.page c.args.page) c.args.starts.now c.partition_point.result c.partition_point.ensures.partitioned (IsPartitionedBy-ltb (λ (s : Start). s.page) c.args.starts.now c.args.page (pages_rise 0 c.args.starts.now c.requires)) (λ a r f k. search rules))
