use Rattle.std.proofs.Common.{◌∙◌, subst}
use Rattle.mapdb_join.specs.Runs.{IsRuns}
use Rattle.mapdb_join.proofs.Telling.{between_told, union_told}
use Rattle.mapdb_join.proofs.runs.RunsMerge.merge.Goals as goal

pub returns-in-Err-clause-err : goal.returns-in-Err-clause-err
returns-in-Err-clause-err c = (
  λ h. h.apart,
  between_told c.args.self.now c.args.other.now c.self.inside.starts.items c.as_slice.result.now c.merge_all.new.mine.items
      c.self.view_is (c.as_slice.ensures ∙ c.other.view_is)
      (subst IsRuns c.self.view_is c.self.invariant) (subst IsRuns c.other.view_is c.other.invariant) c.merge_all.ensures.runs c.in-Err.ensures.err,
)

pub returns-clause-ok : goal.returns-clause-ok
returns-clause-ok c = (
  union_told c.args.self.now c.args.other.now c.self.inside.starts.items c.as_slice.result.now c.merge_all.new.mine.items
      c.self.view_is (c.as_slice.ensures ∙ c.other.view_is)
      (subst IsRuns c.self.view_is c.self.invariant) (subst IsRuns c.other.view_is c.other.invariant) c.merge_all.ensures.runs c.in_default.ensures.ok,
  λ h. h.apart,
)
