use Rattle.mapdb_facts.specs.Facts.{state_of_facts}
use Rattle.mapdb_lists.specs.Changes.{Cached}
use Rattle.mapdb_rights.specs.Following.{AreListed}
use Rattle.mapdb_rights.specs.IdlePlaces.{HasIdle}
use Rattle.mapdb_rights.proofs.index.unlisting.unlist_revoked.Given as goal

-- what is listed stands for the facts all the time
abbrev pub invariant-loop-mapping : goal.invariant-loop-mapping
invariant-loop-mapping l = record {
  listed : AreListed (state_of_facts l.facts) l.listed;
  idle : (cached : Cached) → HasIdle (state_of_facts l.facts) cached l.fn.listed → HasIdle (state_of_facts l.facts) cached l.listed;
}
