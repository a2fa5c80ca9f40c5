use Rattle.std.proofs.Common.{◌≡◌, ◌≤◌, ◌<◌, ◌-◌, ℕ, false}
use Rattle.mapdb_replica.specs.Served.{served}
use Rattle.mapdb_script.specs.Standing.{sent_page, shares}
use Rattle.mapdb_script.proofs.free_pages.brings_some.Given as goal

-- nothing comes to the pages so far
abbrev pub invariant-pages : goal.invariant-pages
invariant-pages l = record {
  above : l.first ≤ l.page;
  none : (number : ℕ) → l.first ≤ number → number < l.page
      → shares (served l.copy.ops l.sender (sent_page l.carried number)) l.carried.rights ≡ false;
}

abbrev pub decreases-pages : goal.decreases-pages
decreases-pages l = l.end - l.page
