use Rattle.std.proofs.Common.{◌∙◌, List, [], inl, inr, subst, sym}
use Rattle.std.specs.Prelude.{◌&&◌, nat_le, nat_lt}
use Rattle.std.proofs.lemmas.Bool.{and_from}
use Rattle.mapdb_fpage.specs.Place.{holds}
use Rattle.mapdb_facts.specs.Facts.{state_of_facts}
use Rattle.mapdb_facts.specs.Names.{same_id}
use Rattle.mapdb_facts.specs.State.{State, said}
use Rattle.mapdb_facts.specs.declared.names.RecordId.{RecordId}
use Rattle.mapdb_facts.specs.declared.operations.Op.TheVariants.{Born}
use Rattle.mapdb_lists.specs.Changes.{Cached, cached_in}
use Rattle.mapdb_lists.proofs.Lists.Results.{on_both}
use Rattle.mapdb_rights.proofs.Settling.Followed.{frames_by_op}
use Rattle.mapdb_rights.specs.IdlePlaces.{HasIdleBut, StayNoted}
use Rattle.mapdb_rights.proofs.Settling.IdleRecords.{idle_noted}
use Rattle.mapdb_rights.proofs.Settling.LiveRecords.{live_later}
use Rattle.mapdb_rights.proofs.Settling.Unsettling.{operations_unsettle}
use Rattle.mapdb_rights.specs.Caching.{IsSettled}
use Rattle.mapdb_rights.proofs.index.following.follow_record.Goals as goal

pub list_came-requires : goal.list_came-requires
list_came-requires c = record { before = c.requires.stood.before; is = c.requires.stood.is; listed_there = c.requires.stood.stood.listed_there }

pub settle_from-requires : goal.settle_from-requires
settle_from-requires c = record {
  listed_there = c.in_ok-list_came.ensures.listed;
  settled =
      λ id page. let cached : Cached = cached_in c.args.changes.now.own.entries in
      elim (operations_unsettle c.requires.stood.before (Born c.args.mapping.now) cached c.requires.stood.stood.shows.rights id page) [
        | inl settled ↦ inl (subst (λ (T : State). IsSettled T cached id page) (sym c.requires.stood.is) settled)
        | inr unsettles ↦ inr (inl
            ((λ i. same_id c.args.mapping.now.id id && (nat_le (c.first_page.ensures.page i) page && nat_lt page (c.end.ensures.end i)))
            ∙ and_from (same_id c.args.mapping.now.id id) (holds c.args.mapping.now.place page) unsettles.0 unsettles.1))
      ];
  frames = frames_by_op (state_of_facts c.args.facts.now) c.requires.stood.before (Born c.args.mapping.now) c.args.changes.now.own.entries c.requires.stood.is c.requires.stood.stood.shows.frames;
  live_there =
      let stood = c.requires.stood in
      live_later (state_of_facts c.args.facts.now) stood.before (said (Born c.args.mapping.now)) (cached_in c.args.changes.now.own.entries) c.args.live.now stood.is
      c.in_ok-list_came.ensures.listed.formed stood.stood.shows.rights stood.stood.shows.live_there;
}

pub returns : goal.returns
returns c =
    let S : State = state_of_facts c.args.facts.now in
    let stood = c.requires.stood in
    let cached : Cached = cached_in c.args.changes.now.own.entries in
    let later : Cached = cached_in c.settle_from.new.changes.own.entries in
    let names = c.note_unless_known.new.idle.items in
    let stay : StayNoted cached [] later c.settle_from.new.idle.items =
    subst (λ (old : List RecordId). StayNoted cached old later c.settle_from.new.idle.items) c.new-idle.ensures.items c.in_ok-has_some.ensures.noted in
    let noted : HasIdleBut S later c.as_slice.result.now c.list_came.new.listed =
    subst (λ (read : List RecordId). HasIdleBut S later read c.list_came.new.listed) (sym c.as_slice.ensures)
    (idle_noted S cached later c.args.mapping.now.id c.settle_from.new.idle.items names c.list_came.new.listed stay
    c.in_ok-note_unless_known.ensures.kept c.in_ok-note_unless_known.ensures.noted
    (c.in_ok-list_came.ensures.idle stood.before cached stood.is stood.stood.idle_there)) in
    on_both c.list_idle.result (λ listed idle. record { shows = c.in_ok-has_some.ensures.shows; listed_there = listed; idle_there = idle later noted })
    c.list_idle.ensures.listed c.list_idle.ensures.idle

pub note_unless_known-requires : goal.note_unless_known-requires
note_unless_known-requires c known = (c.first_page.result, c.in_ok-has_some.ensures.some known)
