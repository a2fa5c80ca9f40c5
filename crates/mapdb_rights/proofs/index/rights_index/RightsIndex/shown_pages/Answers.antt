use Rattle.std.proofs.Common.{List, refl, rules, subst, sym}
use Rattle.mapdb_facts.specs.Facts.{state_of_facts}
use Rattle.mapdb_rights.specs.PlaceWalks.{HasCome}
use Rattle.mapdb_rights.specs.ShownSpaces.{CoverPages, IsShownFrom}
use Rattle.mapdb_rights.specs.declared.index.served_pages.SteadyPages.{SteadyPages}
use Rattle.mapdb_lists.specs.declared.own_place.OwnPlace.{OwnPlace}
use Rattle.mapdb_rights.proofs.Live.ShownParts.{parts_on}
use Rattle.mapdb_rights.proofs.index.rights_index.RightsIndex.shown_pages.Goals as goal

pub pages-preserved : goal.pages-preserved
pages-preserved c =
    let shows = c.in_ok-shows.shows in
    let told = c.in_ok-shows.ensures in
    record {
      limit = told.shown.limit;
      come = subst (λ (l : List OwnPlace). HasCome l shows.end c.next_shown.new.walk) c.as_slice.ensures.value told.come;
      shown =
          subst (λ (l : List SteadyPages). CoverPages (IsShownFrom (state_of_facts c.args.facts.now) c.args.space) 0 shows.end l) (sym c.in_ok-push.ensures.items)
          (parts_on (IsShownFrom (state_of_facts c.args.facts.now) c.args.space) 0 c.pages.page c.pages.shown.items
          (record { page = c.pages.page; served = shows.served; end = shows.end })
          (record { begins = refl; served = told.shown.served; above = told.shown.above; limit = told.shown.limit; until = told.shown.until })
          c.pages.invariant.shown);
    }

pub returns-clause-there : goal.returns-clause-there
returns-clause-there c = search rules

pub returns-clause-shown : goal.returns-clause-shown
returns-clause-shown c = search rules
