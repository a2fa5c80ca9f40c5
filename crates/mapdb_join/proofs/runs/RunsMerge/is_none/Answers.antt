use Rattle.std.proofs.Common.{subst}
use Rattle.mapdb_join.specs.Runs.{IsRuns}
use Rattle.mapdb_join.proofs.Telling.{none_told}
use Rattle.mapdb_join.proofs.runs.RunsMerge.is_none.Goals as goal

pub returns : goal.returns
returns c =
    none_told c.is_empty.result c.args.self.now c.self.inside.starts.items c.self.view_is (subst IsRuns c.self.view_is c.self.invariant)
    c.is_empty.ensures
