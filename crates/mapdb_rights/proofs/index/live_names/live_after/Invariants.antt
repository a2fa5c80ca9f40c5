use Rattle.std.proofs.Common.{◌≤◌}
use Rattle.std.specs.Prelude.{IfSome}
use Rattle.mapdb_fpage.specs.Bounds.{page_limit}
use Rattle.mapdb_facts.specs.Facts.{state_of_facts}
use Rattle.mapdb_rights.proofs.Live.LiveOrders.{Swept, orders_behind}
use Rattle.mapdb_rights.proofs.index.live_names.live_after.Given as goal

-- the least of what was passed is found
abbrev pub invariant-orders : goal.invariant-orders
invariant-orders l = record {
  swept : Swept (state_of_facts l.facts) l.live l.space l.page l.after l.passed l.found;
  near : IfSome l.passed (λ e. e.first ≤ page_limit);
}

abbrev pub decreases-orders : goal.decreases-orders
decreases-orders l = orders_behind l.passed
