use Rattle.std.proofs.Common.{◌≡◌, ◌||◌, ℕ, subst}
use Rattle.mapdb_join.proofs.Telling.{lacks_told}
use Rattle.mapdb_join.specs.Runs.{IsRuns, has_at, in_region}
use Rattle.mapdb_join.proofs.Telling.{added_has, new_told}
use Rattle.mapdb_join.proofs.runs.Runs.add.Goals as goal

pub returns-clause-atoms : goal.returns-clause-atoms
returns-clause-atoms c =
    subst (λ l. (p : ℕ × ℕ) → has_at c.add_region.new.starts.items p ≡ (has_at l p || in_region c.args.first c.args.count c.args.bits p)) c.self.view_is
    (added_has c.self.inside.starts.items c.add_region.new.starts.items c.args.first c.args.count c.args.bits c.self.invariant c.add_region.ensures.runs c.in_ok-new.ensures.over)

pub returns-clause-new : goal.returns-clause-new
returns-clause-new c =
    new_told c.in_ok-new.new c.args.self.now c.self.inside.starts.items c.args.first c.args.count c.args.bits c.self.view_is
    (subst IsRuns c.self.view_is c.self.invariant) c.in_ok-new.ensures.new

pub returns-in_err-new-clause-lacks : goal.returns-in_err-new-clause-lacks
returns-in_err-new-clause-lacks c =
    lacks_told c.from_residual.result c.args.self.now c.self.inside.starts.items c.args.first c.args.count c.args.bits c.self.view_is
    (subst IsRuns c.self.view_is c.self.invariant) c.in_err-new.ensures.lacks
