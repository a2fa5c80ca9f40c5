use Rattle.std.proofs.Common.{◌≡◌, List, Some, ap, inl, sym, subst, ◌∙◌, arith}
use Rattle.mapdb_fpage.specs.Bounds.{page_limit}
use Rattle.mapdb_facts.specs.Facts.{state_of_facts}
use Rattle.mapdb_facts.specs.Names.{root}
use Rattle.mapdb_facts.specs.State.{State}
use Rattle.mapdb_facts.specs.declared.names.RecordId.{RecordId}
use Rattle.mapdb_lists.specs.Changes.{Cached, cached_in}
use Rattle.mapdb_rights.proofs.Rights.SourcePages.{source_below}
use Rattle.mapdb_rights.specs.CachedFrames.{AreFrames}
use Rattle.mapdb_rights.specs.IdlePlaces.{HasIdleBut}
use Rattle.mapdb_rights.specs.LivePlaces.{ListsLive}
use Rattle.mapdb_rights.specs.Pending.{AreSettledBut, IsPending}
use Rattle.mapdb_rights.proofs.Settling.Built.{left_from_nothing}
use Rattle.mapdb_rights.proofs.Rights.FramesFrom.{no_change_frames}
use Rattle.mapdb_rights.proofs.Settling.LiveRecords.{none_live}
use Rattle.mapdb_rights.proofs.Settling.Pendings.{pending_last}
use Rattle.mapdb_rights.proofs.Settling.Settlement.{to_covers}
use Rattle.mapdb_rights.proofs.index.building.settle_all.Goals as goal

pub settle-requires : goal.settle-requires
settle-requires c = record {
  listed_there = c.in_ok-list_sources.ensures.listed;
  settled =
      let S : State = state_of_facts c.args.facts.now in
      subst (λ e. AreSettledBut S (cached_in e) c.push_children.new.stack.items) (sym c.requires.changes)
      (left_from_nothing S c.push_children.new.stack.items
      (λ page below. c.in_ok-push_children.ensures.kept root page (rw c.in_ok-push.ensures.ok (pending_last _ _ root page (to_covers root 0 page_limit page (omega arith) below))))
      (λ id r held parent page inside.
      let named = c.in_ok-list_sources.ensures.listed.named id r held in
      let own : S.record_at r.id ≡ Some r = ap S.record_at named ∙ held in
      let formed = c.in_ok-list_sources.ensures.listed.formed r own in
      let source = c.in_ok-list_sources.ensures.all r own in
      let below = source_below r page source.place formed inside in
      subst (λ (o : RecordId). IsPending c.push_children.new.stack.items o page) named
      (c.in_ok-push_children.ensures.stale r own formed source.by_parent parent page inside (omega arith) below)));
  frames = subst (λ e. AreFrames (state_of_facts c.args.facts.now) e) (sym c.requires.changes) (no_change_frames (state_of_facts c.args.facts.now));
  live_there =
      let S : State = state_of_facts c.args.facts.now in
      subst (λ e. ListsLive S (cached_in e) c.args.live.now) (sym c.requires.changes)
      (none_live S c.args.live.now c.in_ok-list_sources.ensures.listed.formed c.requires.no_place);
}

pub returns : goal.returns
returns c =
    let S : State = state_of_facts c.args.facts.now in
    let cached : Cached = cached_in c.settle.new.changes.own.entries in
    let noted : HasIdleBut S cached c.as_slice.result.now c.list_sources.new.listed =
    subst (λ (names : List RecordId). HasIdleBut S cached names c.list_sources.new.listed) (sym c.as_slice.ensures)
    (λ r held. inl (c.in_ok-note_all_without_rights.ensures r held)) in
    record {
      shows = c.in_ok-settle.ensures.shows;
      listed_there = c.unlist_revoked.ensures.listed;
      idle_there = c.unlist_revoked.ensures.idle cached (c.in_ok-list_idle.ensures.idle cached noted);
    }
