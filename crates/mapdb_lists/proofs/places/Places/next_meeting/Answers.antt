use Rattle.std.proofs.Common.{[], ap, sym, subst, ◌∙◌}
use Rattle.std.specs.Prelude.{None, Option}
use Rattle.std.specs.Option.{option_copied}
use Rattle.std.proofs.lemmas.Bool.{false≢true}
use Rattle.mapdb_lists.specs.declared.own_place.OwnPlace.{OwnPlace}
use Rattle.mapdb_lists.specs.declared.places.Listed.{Listed}
use Rattle.mapdb_lists.specs.Listing.{IsNextMeeting}
use Rattle.mapdb_lists.specs.OwnPlaces.{IsNextPlace, own_list}
use Rattle.mapdb_lists.proofs.PlaceLemmas.OwnersPlaces.{next_own, own_aligned, places_absent, places_found}
use Rattle.mapdb_lists.proofs.places.Places.next_meeting.Goals as goal

pub next_meeting-requires : goal.next_meeting-requires
next_meeting-requires c =
    own_aligned c.args.self.now c.args.owner (own_list c.in-Some.own.now)
    (places_found c.args.self.now.own.entries c.args.owner c.in-Some.own.now (sym (ap option_copied c.in-Some.is) ∙ c.get.ensures)) c.requires.aligned

pub returns-in-Some : goal.returns-in-Some
returns-in-Some c =
    let own = c.in-Some.own.now in
    let places = places_found c.args.self.now.own.entries c.args.owner own (sym (ap option_copied c.in-Some.is) ∙ c.get.ensures) in
    subst (λ (r : Option Listed). IsNextMeeting c.args.self.now c.args.owner c.args.first c.args.end c.args.after r) (sym c.listed_for.ensures)
    (next_own c.args.self.now c.args.owner (own_list own) places c.args.first c.args.end c.args.after c.requires.owned c.next_meeting.result
    (subst (λ (a : Option OwnPlace). IsNextPlace (own_list own) c.args.first c.args.end a c.next_meeting.result) c.place_of.ensures c.next_meeting.ensures))

pub returns-in-None : goal.returns-in-None
returns-in-None c =
    next_own c.args.self.now c.args.owner [] (places_absent c.args.self.now.own.entries c.args.owner (sym (ap option_copied c.in-None.is) ∙ c.get.ensures))
    c.args.first c.args.end c.args.after c.requires.owned None (λ k has. absurd (false≢true has))
