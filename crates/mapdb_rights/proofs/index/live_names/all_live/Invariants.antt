use Rattle.std.proofs.Common.{◌≡◌, ◌++◌, length}
use Rattle.mapdb_facts.specs.Facts.{records_of_facts, state_of_facts}
use Rattle.mapdb_rights.specs.Live.{live_names}
use Rattle.mapdb_rights.proofs.Live.LiveLists.{names_behind}
use Rattle.mapdb_rights.proofs.index.live_names.all_live.Given as goal

-- the names so far with those that are left
abbrev pub invariant-names : goal.invariant-names
invariant-names l =
    l.found.items ++ names_behind l.after (live_names (state_of_facts l.facts) (records_of_facts l.facts) l.space l.page)
    ≡ live_names (state_of_facts l.facts) (records_of_facts l.facts) l.space l.page

abbrev pub decreases-names : goal.decreases-names
decreases-names l = length (names_behind l.after (live_names (state_of_facts l.facts) (records_of_facts l.facts) l.space l.page))
