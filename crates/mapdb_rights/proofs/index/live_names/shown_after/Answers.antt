use Rattle.std.proofs.Common.{sym, ◌∙◌}
use Rattle.mapdb_facts.specs.Facts.{state_of_facts}
use Rattle.mapdb_lists.proofs.Lists.Entries.{fewer_above}
use Rattle.mapdb_rights.specs.Among.{under}
use Rattle.mapdb_rights.specs.Right.{rights_at}
use Rattle.mapdb_rights.proofs.Settling.Followed.{listed_into}
use Rattle.mapdb_rights.proofs.Settling.LiveRecords.{of_live}
use Rattle.mapdb_rights.proofs.Places.PlaceNames.{entry_above, entry_of}
use Rattle.mapdb_rights.proofs.Live.ShownNames.{further_next, none_shown, shown_here}
use Rattle.mapdb_rights.proofs.index.live_names.shown_after.Goals as goal

pub is_shown-requires : goal.is_shown-requires
is_shown-requires c = record {
  stands = c.requires.stands;
  into = listed_into (state_of_facts c.args.facts.now) c.args.live.now c.args.space (under c.args.place.now c.in-Some.id) (of_live (state_of_facts c.args.facts.now) (rights_at (state_of_facts c.args.facts.now)) c.args.live.now c.requires.stands.live_there.listed)
      c.in-Some.ensures.sound c.requires.owned;
}

pub names-init : goal.names-init
names-init c = record { further = λ id shown above. above; within = λ id behind. behind }

pub names-preserved : goal.names-preserved
names-preserved c =
    further_next c.args.live.now (state_of_facts c.args.facts.now) c.args.space c.args.page c.args.place.now c.args.after.now c.names.from c.in-Some.id
    c.in-Some.ensures (sym c.is_shown.ensures ∙ c.if-is_shown.false) c.names.invariant

pub names-smaller : goal.names-smaller
names-smaller c =
    fewer_above c.args.live.now (entry_of c.args.place.now c.names.from) (under c.args.place.now c.in-Some.id) c.in-Some.ensures.sound
    (entry_above c.args.place.now c.names.from c.in-Some.id c.in-Some.ensures.above)

pub returns-then-is_shown : goal.returns-then-is_shown
returns-then-is_shown c =
    shown_here c.args.live.now (state_of_facts c.args.facts.now) c.args.space c.args.page c.args.place.now c.args.after.now c.names.from c.in-Some.id
    c.in-Some.ensures (sym c.is_shown.ensures ∙ c.if-is_shown.true) c.names.invariant

pub returns : goal.returns
returns c =
    none_shown c.args.live.now (state_of_facts c.args.facts.now) c.args.space c.args.page c.args.place.now c.args.after.now c.names.from
    c.in_default.ensures c.names.invariant
