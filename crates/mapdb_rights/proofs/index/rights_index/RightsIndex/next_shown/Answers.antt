use Rattle.std.proofs.Common.{◌∙◌, refl, rules, sym}
use Rattle.mapdb_facts.specs.Facts.{state_of_facts}
use Rattle.mapdb_lists.specs.Listing.{owner_places}
use Rattle.mapdb_lists.specs.declared.places.Owner.TheVariants as owners
use Rattle.mapdb_lists.proofs.PlaceLemmas.OwnersPlaces.{own_aligned}
use Rattle.mapdb_rights.proofs.Live.ServedPages.{stands_there}
use Rattle.mapdb_rights.proofs.index.rights_index.RightsIndex.next_shown.Goals as goal

pub next_first-until-requires-clause-aligned : goal.next_first-until-requires-clause-aligned
next_first-until-requires-clause-aligned c p has =
    let index = c.args.self.now in
    let kept = stands_there (state_of_facts c.args.facts.now) index c.requires.stands c.requires.there in
    own_aligned index.live (owners.Space c.args.space) (owner_places index.live (owners.Space c.args.space)) refl kept.stands.shows.live_there.listed.aligned
    p (sym (c.requires.places p) ∙ has)

pub returns-clause-shown : goal.returns-clause-shown
returns-clause-shown c = search rules
