use Rattle.std.proofs.Common.{drop}
use Rattle.mapdb_facts.specs.Facts.{state_of_facts}
use Rattle.mapdb_lists.specs.Changes.{Cached}
use Rattle.mapdb_rights.specs.Following.{AreListed}
use Rattle.mapdb_rights.specs.IdlePlaces.{HasIdleBut}
use Rattle.mapdb_rights.proofs.index.idle_places.list_idle.Given as goal

-- the names that are left may lack their places
abbrev pub invariant-loop-id : goal.invariant-loop-id
invariant-loop-id l = record {
  listed : AreListed (state_of_facts l.facts) l.listed;
  idle : (cached : Cached) → HasIdleBut (state_of_facts l.facts) cached l.names l.fn.listed
      → HasIdleBut (state_of_facts l.facts) cached (drop l.id-index l.names) l.listed;
}
