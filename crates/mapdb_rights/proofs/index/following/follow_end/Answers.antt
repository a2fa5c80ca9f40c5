use Rattle.std.proofs.Common.{◌≡◌, List, refl, false, Some, ap, subst, sym, ◌∙◌}
use Rattle.mapdb_fpage.specs.RightSets.{is_empty}
use Rattle.mapdb_facts.specs.Facts.{state_of_facts}
use Rattle.mapdb_facts.specs.Names.{is_root}
use Rattle.mapdb_facts.specs.State.{State, said}
use Rattle.mapdb_facts.specs.declared.names.RecordId.{RecordId}
use Rattle.mapdb_facts.specs.declared.operations.Op.TheVariants.{Closed}
use Rattle.mapdb_facts.specs.declared.operations.Record.{Record}
use Rattle.mapdb_lists.specs.Changes.{Cached, cached_in}
use Rattle.mapdb_lists.proofs.Lists.Results.{on_both}
use Rattle.mapdb_rights.specs.Following.{AreListed}
use Rattle.mapdb_rights.specs.Pending.{IsPending}
use Rattle.mapdb_rights.specs.Right.{rights_at}
use Rattle.mapdb_rights.proofs.Settling.Ended.{numbered_is_other, rights_in_place}
use Rattle.mapdb_rights.proofs.Settling.Followed.{frames_by_op, left_by_op, listed_by_end}
use Rattle.mapdb_rights.specs.IdlePlaces.{HasIdleBut, StayNoted}
use Rattle.mapdb_rights.proofs.Settling.IdleRecords.{idle_alike, idle_but}
use Rattle.mapdb_rights.proofs.Settling.LiveRecords.{live_later}
use Rattle.mapdb_facts.proofs.States.Newness.{first_of_none}
use Rattle.mapdb_rights.proofs.index.following.follow_end.Goals as goal

pub push_space-requires : goal.push_space-requires
push_space-requires c = c.requires.stood.stood.shows.live_there.listed.aligned

pub settle-requires : goal.settle-requires
settle-requires c = record {
  listed_there = listed_by_end (state_of_facts c.args.facts.now) c.requires.stood.before c.args.space c.args.listed.now c.requires.stood.is c.requires.stood.stood.listed_there;
  settled =
      let S : State = state_of_facts c.args.facts.now in
      left_by_op S c.requires.stood.before (Closed c.args.space) (cached_in c.args.changes.now.own.entries) c.push_space.new.stack.items
      c.requires.stood.is c.requires.stood.stood.shows.rights
      (λ id page unsettles.
      let there : AreListed S c.args.listed.now = listed_by_end S c.requires.stood.before c.args.space c.args.listed.now c.requires.stood.is c.requires.stood.stood.listed_there in
      let r : Record = unsettles.0 in
      let held : S.record_at id ≡ Some r = ap (λ (T : State). T.record_at id) c.requires.stood.is ∙ first_of_none (c.requires.stood.before.record_at id) ∙ unsettles.1 in
      let named = there.named id r held in
      let own : S.record_at r.id ≡ Some r = ap S.record_at named ∙ held in
      let other : is_root id ≡ false = subst (λ (o : RecordId). is_root o ≡ false) named (numbered_is_other r.id (there.formed r own).has_number) in
      subst (λ (o : RecordId). IsPending c.push_space.new.stack.items o page) named
      (c.in_ok-push_space.ensures r own (there.sources r own).place
      (c.requires.stood.stood.shows.live_there.listed.places r (ap c.requires.stood.before.record_at named ∙ unsettles.1)
      (page, subst (λ (o : RecordId). is_empty (rights_at c.requires.stood.before o page) ≡ false) (sym named) unsettles.3))
      unsettles.2 page (rights_in_place c.requires.stood.before id r page other unsettles.1 unsettles.3)));
  frames = frames_by_op (state_of_facts c.args.facts.now) c.requires.stood.before (Closed c.args.space) c.args.changes.now.own.entries c.requires.stood.is c.requires.stood.stood.shows.frames;
  live_there =
      let S = state_of_facts c.args.facts.now in
      let stood = c.requires.stood in
      live_later S stood.before (said (Closed c.args.space)) (cached_in c.args.changes.now.own.entries) c.args.live.now stood.is
      (listed_by_end S stood.before c.args.space c.args.listed.now stood.is stood.stood.listed_there).formed stood.stood.shows.rights stood.stood.shows.live_there;
}

pub list_idle-requires : goal.list_idle-requires
list_idle-requires c =
    listed_by_end (state_of_facts c.args.facts.now) c.requires.stood.before c.args.space c.args.listed.now c.requires.stood.is c.requires.stood.stood.listed_there

pub returns : goal.returns
returns c =
    let S : State = state_of_facts c.args.facts.now in
    let stood = c.requires.stood in
    let cached : Cached = cached_in c.args.changes.now.own.entries in
    let later : Cached = cached_in c.settle.new.changes.own.entries in
    let noted : HasIdleBut S later c.as_slice.result.now c.args.listed.now =
    subst (λ (names : List RecordId). HasIdleBut S later names c.args.listed.now) (sym c.as_slice.ensures)
    (idle_but S cached later c.settle.new.idle.items c.args.listed.now (subst (λ (names : List RecordId). StayNoted cached names later c.settle.new.idle.items) c.new-idle.ensures.items c.in_ok-settle.ensures.noted)
    (idle_alike S stood.before (said (Closed c.args.space)) cached c.args.listed.now stood.is (λ id. refl) stood.stood.idle_there)) in
    on_both c.list_idle.result (λ listed idle. record { shows = c.in_ok-settle.ensures.shows; listed_there = listed; idle_there = idle later noted })
    c.list_idle.ensures.listed c.list_idle.ensures.idle
