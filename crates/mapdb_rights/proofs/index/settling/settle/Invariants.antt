use Rattle.mapdb_facts.specs.Facts.{state_of_facts}
use Rattle.mapdb_lists.specs.Changes.{cached_in}
use Rattle.mapdb_rights.specs.CachedFrames.{AreFrames}
use Rattle.mapdb_rights.specs.IdlePlaces.{StayNoted}
use Rattle.mapdb_rights.specs.LivePlaces.{ListsLive}
use Rattle.mapdb_rights.specs.Pending.{AreSettledBut, base_of, weight}
use Rattle.mapdb_rights.proofs.index.settling.settle.Given as goal

-- all but what is stale follows from the parents', no frame is wrong, what has rights is listed, and
-- what lost them is noted
abbrev pub invariant-stale : goal.invariant-stale
invariant-stale l = record {
  settled : AreSettledBut (state_of_facts l.facts) (cached_in l.changes.own.entries) l.stack.items;
  frames : AreFrames (state_of_facts l.facts) l.changes.own.entries;
  live : ListsLive (state_of_facts l.facts) (cached_in l.changes.own.entries) l.live;
  noted : StayNoted (cached_in l.fn.changes.own.entries) l.fn.idle.items (cached_in l.changes.own.entries) l.idle.items;
}

abbrev pub decreases-stale : goal.decreases-stale
decreases-stale l = weight (base_of l.listed) l.stack.items
