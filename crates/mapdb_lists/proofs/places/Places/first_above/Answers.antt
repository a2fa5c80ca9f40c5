use Rattle.std.proofs.Common.{[], ap, refl, sym, subst, ◌∙◌}
use Rattle.std.specs.Prelude.{None, Option}
use Rattle.std.specs.BTreeMap.Range.{is_from_start}
use Rattle.std.specs.Option.{option_copied}
use Rattle.std.specs.declared.ops.Bound.TheVariants.{Excluded}
use Rattle.std.proofs.lemmas.Bool.{false≢true}
use Rattle.mapdb_lists.specs.declared.own_place.OwnPlace.{OwnPlace}
use Rattle.mapdb_lists.specs.declared.places.Listed.{Listed}
use Rattle.mapdb_lists.specs.Listing.{IsFirstInside}
use Rattle.mapdb_lists.specs.OwnPlaces.{IsFirstPlaceWhere, own_list, place_cmp}
use Rattle.mapdb_lists.proofs.PlaceLemmas.OwnersPlaces.{first_above_own, places_absent, places_found}
use Rattle.mapdb_lists.proofs.places.Places.first_above.Goals as goal

pub returns-in-Some : goal.returns-in-Some
returns-in-Some c =
    let own = c.in-Some.own.now in
    let places = places_found c.args.self.now.own.entries c.args.after.owner own (sym (ap option_copied c.in-Some.is) ∙ c.get.ensures) in
    subst (λ (r : Option Listed). IsFirstInside c.args.self.now c.args.after.owner (Excluded c.args.after) r) (sym c.listed_for.ensures)
    (first_above_own c.args.self.now c.args.after.owner (own_list own) places c.args.after refl c.first_above.result
    (subst (λ (p : OwnPlace). IsFirstPlaceWhere (is_from_start place_cmp (Excluded p)) (own_list own) c.first_above.result) c.own_place.ensures c.first_above.ensures))

pub returns-in-None : goal.returns-in-None
returns-in-None c =
    first_above_own c.args.self.now c.args.after.owner [] (places_absent c.args.self.now.own.entries c.args.after.owner (sym (ap option_copied c.in-None.is) ∙ c.get.ensures))
    c.args.after refl None (λ k has. absurd (false≢true has))
