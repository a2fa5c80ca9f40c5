use Rattle.std.proofs.Common.{◌≤◌, ◌<◌}
use Rattle.mapdb_fpage.specs.Bounds.{page_limit}
use Rattle.mapdb_facts.specs.Facts.{state_of_facts}
use Rattle.mapdb_rights.proofs.Steady.SteadySpaces.{Passed}
use Rattle.mapdb_rights.proofs.steady_spaces.show_until.Given as goal

-- all that are not left go on up to the end
abbrev pub invariant-loop-mapping : goal.invariant-loop-mapping
invariant-loop-mapping l = record {
  above : l.page < l.end;
  limit : l.end ≤ page_limit;
  passed : Passed (state_of_facts l.facts) l.space l.page l.mapping-iterator l.end;
}
