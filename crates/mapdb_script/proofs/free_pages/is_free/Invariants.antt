use Rattle.std.proofs.Common.{◌≤◌, ◌-◌}
use Rattle.mapdb_replica.specs.Served.{served}
use Rattle.mapdb_script.proofs.FreePages.{AreFree}
use Rattle.mapdb_script.proofs.free_pages.is_free.Given as goal

-- the pages so far are free
abbrev pub invariant-pages : goal.invariant-pages
invariant-pages l = record {
  above : l.carried.target.first_page ≤ l.page;
  free : AreFree (served l.copy.ops) l.sender l.carried l.receiver l.page;
}

abbrev pub decreases-pages : goal.decreases-pages
decreases-pages l = l.end - l.page
