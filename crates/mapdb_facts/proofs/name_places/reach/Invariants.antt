use Rattle.std.proofs.Common.{◌≡◌, ◌+◌, ◌-◌, vec_len}
use Rattle.mapdb_facts.specs.declared.names.RecordId.{RecordId}
use Rattle.mapdb_facts.specs.NamePlaces.{HaveFewLists, near_word}
use Rattle.mapdb_facts.proofs.name_places.reach.Given as goal

abbrev pub invariant-loop-alloc : goal.invariant-loop-alloc
invariant-loop-alloc l = ((q : RecordId) → near_word l.near.items q ≡ near_word l.initial.near.items q) × (HaveFewLists l.initial.near.items → HaveFewLists l.near.items)

abbrev pub decreases-loop-alloc : goal.decreases-loop-alloc
decreases-loop-alloc l = l.processor + 1 - vec_len l.near
