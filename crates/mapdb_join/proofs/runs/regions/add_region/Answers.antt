use Rattle.std.proofs.Common.{rules}
use Rattle.mapdb_join.proofs.runs.regions.add_region.Goals as goal

pub returns-then-has_over-clause-new : goal.returns-then-has_over-clause-new
returns-then-has_over-clause-new c = search rules

pub returns-in_err-add_over-clause-lacks : goal.returns-in_err-add_over-clause-lacks
returns-in_err-add_over-clause-lacks c = search rules
