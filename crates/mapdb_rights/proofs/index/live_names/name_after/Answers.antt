use Rattle.std.proofs.Common.{inl, inr, subst}
use Rattle.std.specs.Prelude.{Option}
use Rattle.std.proofs.lemmas.Bool.{cases_Bool}
use Rattle.mapdb_facts.specs.Names.{is_after}
use Rattle.mapdb_lists.specs.Listing.{IsFirstInside}
use Rattle.mapdb_lists.specs.declared.places.Listed.{Listed}
use Rattle.mapdb_rights.specs.Among.{behind_name}
use Rattle.mapdb_rights.proofs.Places.PlaceNames.{name_found, none_there, stands_there}
use Rattle.mapdb_rights.proofs.index.live_names.name_after.Goals.{then-entry-place-via-then-entry-place, then-entry-place-via-else-entry-place+then-entry-place-2}
use Rattle.mapdb_rights.proofs.index.live_names.name_after.Goals as goal

pub returns-in_default : goal.returns-in_default
returns-in_default c =
    none_there c.args.place.now c.args.live.now c.args.after
    (subst (λ (found : Option Listed). IsFirstInside c.args.live.now c.args.place.now.owner (behind_name c.args.place.now c.args.after) found) c.in_default.is c.entry_after.ensures)

pub returns-then-entry-place : goal.returns-then-entry-place
returns-then-entry-place c id has =
    elim (cases_Bool (is_after c.args.after id)) [
      | inl above ↦
          let there = stands_there c.args.place.now c.args.live.now c.args.after c.in-Some.entry c.in-Some.ensures id has above in
          absurd (elim c.then-entry-place.branch [
            | then-entry-place-via-then-entry-place w ↦ w.if-entry-place.true there.0
            | then-entry-place-via-else-entry-place+then-entry-place-2 w ↦ w.if-entry-place-2.true there.1
          ])
      | inr other ↦ other
    ]

pub returns : goal.returns
returns c =
    name_found c.args.place.now c.args.live.now c.args.after c.in-Some.entry c.in-Some.ensures
    c.if-entry-place.false c.if-entry-place-2.false
