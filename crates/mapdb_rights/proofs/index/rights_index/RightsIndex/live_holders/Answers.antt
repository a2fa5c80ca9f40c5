use Rattle.std.proofs.Common.{inl, inr}
use Rattle.std.proofs.lemmas.Bool.{cases_Bool}
use Rattle.mapdb_fpage.specs.RightSets.{is_empty}
use Rattle.mapdb_facts.specs.Facts.{records_of_facts, state_of_facts}
use Rattle.mapdb_facts.specs.State.{State}
use Rattle.mapdb_lists.specs.declared.places.Owner.TheVariants.{Space}
use Rattle.mapdb_rights.specs.Index.{StandsFor}
use Rattle.mapdb_rights.specs.LivePlaces.{IsPowerless}
use Rattle.mapdb_rights.specs.Meeting.{IsUnnamed, holders_of}
use Rattle.mapdb_rights.specs.Right.{rights_at}
use Rattle.mapdb_rights.proofs.Lists.AllBut.{all_but_weaker}
use Rattle.mapdb_rights.proofs.Live.ServedPages.{stands_there}
use Rattle.mapdb_rights.proofs.Places.SharedPlaces.{out_of_space}
use Rattle.mapdb_rights.proofs.index.rights_index.RightsIndex.live_holders.Goals as goal

pub returns-clause-holders : goal.returns-clause-holders
returns-clause-holders c =
    let S : State = state_of_facts c.args.facts.now in
    let index = c.args.self.now in
    let stands : StandsFor index S = stands_there S index c.requires c.if-self.false in
    let names = c.add_names.new.names.items in
    all_but_weaker (IsUnnamed S names (Space c.args.space) c.args.part.now) (IsPowerless S)
    (λ r out page. elim (cases_Bool (is_empty (rights_at S r.id page))) [
      | inl none ↦ none
      | inr some ↦ absurd (out_of_space index.live S names c.args.part.now r c.args.space c.in_ok-add_names.ensures.named out
          (stands.stands.shows.live_there.listed.places r out.held (page, some)))
    ])
    (holders_of (records_of_facts c.args.facts.now) c.args.space c.args.part.now) c.in_ok-found.found.items c.in_ok-found.ensures.sharing
