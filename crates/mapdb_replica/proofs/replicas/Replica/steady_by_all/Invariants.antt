use Rattle.std.proofs.Common.{◌-◌, ◌≤◌}
use Rattle.mapdb_fpage.specs.Bounds.{page_limit}
use Rattle.mapdb_rights.specs.ShownSpaces.{CoverPages}
use Rattle.mapdb_replica.specs.Running.{IsSteadyPart}
use Rattle.mapdb_replica.specs.Served.{served}
use Rattle.mapdb_replica.proofs.replicas.Replica.steady_by_all.Given as goal

-- the pages so far
abbrev pub invariant-pages : goal.invariant-pages
invariant-pages l = record {
  limit : l.page ≤ page_limit;
  steady : CoverPages (IsSteadyPart (served l.self.ops l.space)) 0 l.page l.parts.items;
}

abbrev pub decreases-pages : goal.decreases-pages
decreases-pages l = page_limit - l.page
