use Rattle.std.proofs.Common.{◌≡◌, ◌≤◌, ◌<◌, true, take}
use Rattle.mapdb_facts.specs.Facts.{state_of_facts}
use Rattle.mapdb_facts.specs.Names.{is_first_space, root}
use Rattle.mapdb_lists.specs.Changes.{cached_in}
use Rattle.mapdb_lists.specs.OwnPlaces.{own_meets, stands}
use Rattle.mapdb_lists.specs.declared.own_place.OwnPlace.{OwnPlace}
use Rattle.mapdb_rights.proofs.Live.HeldWalks.{FirstHeld}
use Rattle.mapdb_rights.proofs.Steady.ShownRuns.{Stays}
use Rattle.mapdb_rights.proofs.index.first_until.first_until_held.Given as goal

-- none of the records of the places that were passed comes before the one that was found, and all
-- of them go on up to the end
abbrev pub invariant-loop-place : goal.invariant-loop-place
invariant-loop-place l = record {
  above : l.page < l.end;
  limit : l.end ≤ l.until;
  top : is_first_space l.space ≡ true → Stays l.live l.space (cached_in l.changes.own.entries) l.page root l.end;
  kept : (p : OwnPlace) → stands (take l.place-index l.held) p ≡ true → own_meets p l.page l.end ≡ true
      → Stays l.live l.space (cached_in l.changes.own.entries) l.page p.id l.end;
  found : FirstHeld (state_of_facts l.facts) l.changes.own.entries l.space l.page (take l.place-index l.held) l.first;
}
