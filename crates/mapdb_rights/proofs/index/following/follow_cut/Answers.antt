use Rattle.std.proofs.Common.{◌∙◌, List, refl, subst, sym}
use Rattle.std.specs.Prelude.{◌&&◌, nat_le, nat_lt}
use Rattle.std.proofs.lemmas.Bool.{and_from}
use Rattle.mapdb_fpage.specs.Place.{holds}
use Rattle.mapdb_facts.specs.Facts.{state_of_facts}
use Rattle.mapdb_facts.specs.Names.{same_id}
use Rattle.mapdb_facts.specs.State.{State, said}
use Rattle.mapdb_facts.specs.declared.names.RecordId.{RecordId}
use Rattle.mapdb_facts.specs.declared.operations.Op.TheVariants.{Cut}
use Rattle.mapdb_lists.specs.Changes.{Cached, cached_in}
use Rattle.mapdb_rights.proofs.Settling.Followed.{frames_by_op, left_by_op, listed_by_cut}
use Rattle.mapdb_rights.specs.IdlePlaces.{HasIdleBut, StayNoted}
use Rattle.mapdb_rights.proofs.Settling.IdleRecords.{idle_alike, idle_but}
use Rattle.mapdb_rights.proofs.Settling.LiveRecords.{live_later}
use Rattle.mapdb_rights.proofs.Settling.Pendings.{pending_last}
use Rattle.mapdb_rights.proofs.index.following.follow_cut.Goals as goal

pub settle-requires : goal.settle-requires
settle-requires c = record {
  listed_there = listed_by_cut (state_of_facts c.args.facts.now) c.requires.stood.before c.args.cut.now c.args.listed.now c.requires.stood.is c.requires.stood.stood.listed_there;
  settled =
      left_by_op (state_of_facts c.args.facts.now) c.requires.stood.before (Cut c.args.cut.now) (cached_in c.args.changes.now.own.entries) c.add_item.new.list.items
      c.requires.stood.is c.requires.stood.stood.shows.rights
      (λ id page unsettles. rw c.in_ok-add_item.ensures (pending_last _ _ id page
      ((λ i. same_id c.args.cut.now.target id && (nat_le (c.first_page.ensures.page i) page && nat_lt page (c.end.ensures.end i)))
      ∙ and_from (same_id c.args.cut.now.target id) (holds c.args.cut.now.part page) unsettles.0 unsettles.1)));
  frames = frames_by_op (state_of_facts c.args.facts.now) c.requires.stood.before (Cut c.args.cut.now) c.args.changes.now.own.entries c.requires.stood.is c.requires.stood.stood.shows.frames;
  live_there =
      let S = state_of_facts c.args.facts.now in
      let stood = c.requires.stood in
      live_later S stood.before (said (Cut c.args.cut.now)) (cached_in c.args.changes.now.own.entries) c.args.live.now stood.is
      (listed_by_cut S stood.before c.args.cut.now c.args.listed.now stood.is stood.stood.listed_there).formed stood.stood.shows.rights stood.stood.shows.live_there;
}

pub list_idle-requires : goal.list_idle-requires
list_idle-requires c =
    listed_by_cut (state_of_facts c.args.facts.now) c.requires.stood.before c.args.cut.now c.args.listed.now c.requires.stood.is c.requires.stood.stood.listed_there

pub returns : goal.returns
returns c =
    let S : State = state_of_facts c.args.facts.now in
    let stood = c.requires.stood in
    let cached : Cached = cached_in c.args.changes.now.own.entries in
    let later : Cached = cached_in c.settle.new.changes.own.entries in
    let noted : HasIdleBut S later c.as_slice.result.now c.args.listed.now =
    subst (λ (names : List RecordId). HasIdleBut S later names c.args.listed.now) (sym c.as_slice.ensures)
    (idle_but S cached later c.settle.new.idle.items c.args.listed.now (subst (λ (names : List RecordId). StayNoted cached names later c.settle.new.idle.items) c.new-idle.ensures.items c.in_ok-settle.ensures.noted)
    (idle_alike S stood.before (said (Cut c.args.cut.now)) cached c.args.listed.now stood.is (λ id. refl) stood.stood.idle_there)) in
    record {
      shows = c.in_ok-settle.ensures.shows;
      listed_there = c.unlist.ensures.listed;
      idle_there = c.unlist.ensures.idle later (c.in_ok-list_idle.ensures.idle later noted);
    }
