use Rattle.std.proofs.Common.{◌∙◌, subst}
use Rattle.mapdb_join.specs.Runs.{IsRuns}
use Rattle.mapdb_join.proofs.Telling.{covers_told}
use Rattle.mapdb_join.proofs.runs.RunsMerge.covers.Goals as goal

pub returns : goal.returns
returns c =
    covers_told c.covers_all.result c.args.self.now c.args.other.now c.as_slice.result.now c.as_slice-2.result.now
    (c.as_slice.ensures ∙ c.self.view_is) (c.as_slice-2.ensures ∙ c.other.view_is)
    (subst IsRuns c.self.view_is c.self.invariant) (subst IsRuns c.other.view_is c.other.invariant) c.covers_all.ensures
