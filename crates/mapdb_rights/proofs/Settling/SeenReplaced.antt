-- What pages come to that were to get a change, and what stands where nothing is stale any more.
use Rattle.std.proofs.Common.{◌≡◌, ℕ, Some, subst, inl, inr, []}
use Rattle.std.specs.Prelude.{Bool, None, Option}
use Rattle.mapdb_facts.specs.State.{State}
use Rattle.mapdb_facts.specs.declared.names.RecordId.{RecordId}
use Rattle.mapdb_lists.specs.Changes.{PageChanges, cached_in}
use Rattle.mapdb_lists.specs.Replacing.{IsSeenOverwritten, IsSeenUnchanged, IsSeenReplaced}
use Rattle.mapdb_lists.specs.declared.changes.AllChanges.{AllChanges}
use Rattle.mapdb_lists.specs.declared.changes.Change.{Change}
use Rattle.mapdb_lists.specs.declared.places.Places.{Places}
use Rattle.mapdb_rights.specs.Caching.{AreRights}
use Rattle.mapdb_rights.specs.CachedFrames.{AreFrames}
use Rattle.mapdb_rights.specs.Following.{AreListed, Shows}
use Rattle.mapdb_rights.specs.LivePlaces.{ListsLive}
use Rattle.mapdb_rights.specs.Pending.{AreSettledBut}
use Rattle.mapdb_rights.proofs.Rights.Settled.{settled_is_exact}
use Rattle.mapdb_rights.proofs.Settling.LiveRecords.{are_live}

-- where nothing is stale, what is cached stands for the state
pub shown : (S : State) (changes : AllChanges) (listed live : Places) → AreListed S listed → AreSettledBut S (cached_in changes.own.entries) []
    → AreFrames S changes.own.entries → ListsLive S (cached_in changes.own.entries) live → Shows changes live S
shown S changes listed live are_listed settled frames lists =
    let rights : AreRights S (cached_in changes.own.entries) = settled_is_exact S (cached_in changes.own.entries)
    (λ id page. elim (settled id page) [ inl is ↦ is | inr pending ↦ absurd pending ]) in
    record { rights = rights; frames = frames; live_there = are_live S (cached_in changes.own.entries) listed live are_listed rights lists }

-- nothing is seen otherwise than before
pub kept : {old new : PageChanges} {id : RecordId} {first end : ℕ} {change : Change} {had_some : Option Bool}
    → had_some ≡ None → IsSeenReplaced old id first end change new had_some → IsSeenUnchanged old id first end change new
kept {old = old} {new = new} {id = id} {first = first} {end = end} {change = change} none how =
    subst (λ (had : Option Bool). IsSeenReplaced old id first end change new had) none how

pub still : {old new : PageChanges} {id : RecordId} {first end : ℕ} {change : Change} → IsSeenUnchanged old id first end change new → cached_in new ≡ cached_in old
still as_before = λ i. λ other page. (as_before.same other page i).rights

-- what is seen where other rights were given
pub got : {old new : PageChanges} {id : RecordId} {first end : ℕ} {change : Change} {had_some : Option Bool} {had : Bool}
    → had_some ≡ Some had → IsSeenReplaced old id first end change new had_some → IsSeenOverwritten old id first end change new had
got {old = old} {new = new} {id = id} {first = first} {end = end} {change = change} some how =
    subst (λ (had : Option Bool). IsSeenReplaced old id first end change new had) some how
