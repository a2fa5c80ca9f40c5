use Rattle.std.proofs.Common.{◌∙◌, subst}
use Rattle.mapdb_join.specs.Runs.{IsRuns}
use Rattle.mapdb_join.proofs.Telling.{has_told}
use Rattle.mapdb_join.proofs.runs.Runs.has.Goals as goal

pub returns : goal.returns
returns c =
    has_told c.has_over.result c.args.self.now c.as_slice.result.now c.args.first c.args.count c.args.bits
    (c.as_slice.ensures ∙ c.self.view_is) (subst IsRuns c.self.view_is c.self.invariant) c.has_over.ensures
