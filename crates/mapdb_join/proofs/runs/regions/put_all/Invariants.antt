use Rattle.std.specs.Prelude.{◌≡◌, ◌++◌, List, take, map}
use Rattle.mapdb_join.specs.Tidy.{tidy, with_bits}
use Rattle.mapdb_join.specs.declared.runs.starts.Start.{Start}
use Rattle.mapdb_join.proofs.runs.regions.put_all.Given as goal

abbrev pub invariant-loop-start : goal.invariant-loop-start
invariant-loop-start l =
    (xs : List Start) → l.fn.list.items ≡ tidy l.before xs →
    l.list.items ≡ tidy l.before (xs ++ map (with_bits l.bits) (take l.start-index l.starts))
