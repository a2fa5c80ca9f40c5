use Rattle.std.proofs.Common.{[], arith, refl, sym, ◌∙◌, ◌≡◌, ◌+◌, false, true}
use Rattle.std.proofs.lemmas.Bool.{false≢true}
use Rattle.std.specs.Prelude.{Bool, not}
use Rattle.mapdb_fpage.proofs.Meets.{holds_range}
use Rattle.mapdb_facts.specs.Facts.{state_of_facts}
use Rattle.mapdb_lists.specs.OwnPlaces.{own_list}
use Rattle.mapdb_lists.specs.declared.places.Owner.TheVariants as owners
use Rattle.mapdb_lists.proofs.PlaceLemmas.OwnersPlaces.{own_aligned}
use Rattle.mapdb_rights.proofs.Live.ClearParts.{clear_part}
use Rattle.mapdb_rights.proofs.Live.ServedPages.{stands_there}
use Rattle.mapdb_rights.proofs.index.rights_index.RightsIndex.shows_nothing.Goals as goal

pub any_meets-requires : goal.any_meets-requires
any_meets-requires c =
    let stands = stands_there (state_of_facts c.args.facts.now) c.args.self.now c.requires c.if-self.false in
    own_aligned c.args.self.now.live (owners.Space c.args.space) (own_list c.in-Some.own.now) (sym c.in-Some.ensures) stands.stands.shows.live_there.listed.aligned

not_so : (b : Bool) → not b ≡ true → b ≡ false
not_so true h = absurd (false≢true h)
not_so false h = refl

pub returns-in-Some : goal.returns-in-Some
returns-in-Some c clear page inside =
    let stands = stands_there (state_of_facts c.args.facts.now) c.args.self.now c.requires c.if-self.false in
    let range = holds_range c.args.part.now page inside in
    clear_part (state_of_facts c.args.facts.now) c.args.self.now.live stands.stands.shows.live_there c.args.space (own_list c.in-Some.own.now) (sym c.in-Some.ensures)
    (sym c.is_first.ensures ∙ c.if-is_first.false) c.first_page.result c.end.result (c.any_meets.ensures.none (not_so c.any_meets.result clear)) page
    (omega (arith, range.0, c.first_page.ensures.page)) (omega (arith, range.1, c.end.ensures.end))

pub returns-in-None : goal.returns-in-None
returns-in-None c _ page inside =
    let stands = stands_there (state_of_facts c.args.facts.now) c.args.self.now c.requires c.if-self.false in
    clear_part (state_of_facts c.args.facts.now) c.args.self.now.live stands.stands.shows.live_there c.args.space [] (sym c.in-None.ensures)
    (sym c.is_first.ensures ∙ c.if-is_first.false) page (page + 1) (λ p has. absurd (false≢true has)) page (omega arith) (omega arith)
