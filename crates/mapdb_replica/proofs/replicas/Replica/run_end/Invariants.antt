use Rattle.std.proofs.Common.{◌≤◌, ◌<◌, ◌-◌}
use Rattle.mapdb_fpage.specs.Bounds.{page_limit}
use Rattle.mapdb_replica.specs.Served.{served}
use Rattle.mapdb_replica.proofs.Pages.RunningPages.{Runs}
use Rattle.mapdb_replica.proofs.replicas.Replica.run_end.Given as goal

-- the pages so far belong to the run
abbrev pub invariant-pages : goal.invariant-pages
invariant-pages l = record {
  above : l.page < l.end;
  limit : l.end ≤ page_limit;
  same : Runs (served l.self.ops l.space) l.page l.end;
}

abbrev pub decreases-pages : goal.decreases-pages
decreases-pages l = page_limit - l.end
