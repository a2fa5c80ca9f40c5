use Rattle.std.proofs.Common.{◌≡◌, ◌-◌, ◌≤◌, ◌<◌, ℕ}
use Rattle.mapdb_fpage.specs.Bounds.{page_limit}
use Rattle.mapdb_lists.specs.Changes.{cached_in}
use Rattle.mapdb_rights.proofs.index.runs.run_end.Given as goal

-- the pages that were passed have the same rights
abbrev pub invariant-pages : goal.invariant-pages
invariant-pages l = record {
  above : l.start < l.end;
  limit : l.end ≤ page_limit;
  same : (q : ℕ) → l.start ≤ q → q < l.end → cached_in l.changes.own.entries l.id q ≡ l.rights;
}

abbrev pub decreases-pages : goal.decreases-pages
decreases-pages l = page_limit - l.end
