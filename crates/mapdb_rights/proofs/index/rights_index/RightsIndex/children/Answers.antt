use Rattle.std.proofs.Common.{inl, inr}
use Rattle.mapdb_facts.specs.Facts.{records_of_facts, state_of_facts}
use Rattle.mapdb_facts.specs.State.{State}
use Rattle.mapdb_lists.specs.declared.places.Owner.TheVariants.{Record}
use Rattle.mapdb_rights.specs.Index.{StandsFor}
use Rattle.mapdb_rights.specs.Meeting.{IsUnnamed, children_of}
use Rattle.mapdb_rights.specs.Revoked.{IsRevoked}
use Rattle.mapdb_rights.proofs.Lists.AllBut.{all_but_weaker}
use Rattle.mapdb_rights.proofs.Live.ServedPages.{stands_there}
use Rattle.mapdb_rights.proofs.Places.SharedPlaces.{out_of_parent}
use Rattle.mapdb_rights.proofs.index.rights_index.RightsIndex.children.Goals as goal

pub returns-clause-children : goal.returns-clause-children
returns-clause-children c =
    let S : State = state_of_facts c.args.facts.now in
    let index = c.args.self.now in
    let stands : StandsFor index S = stands_there S index c.requires c.if-self.false in
    let names = c.add_names.new.names.items in
    all_but_weaker (IsUnnamed S names (Record c.args.parent) c.args.part.now) (IsRevoked S)
    (λ r out. elim (stands.stands.listed_there.sources r out.held).by_parent [
      | inl revoked ↦ revoked
      | inr has ↦ absurd (out_of_parent index.listed S names c.args.part.now r c.args.parent c.in_ok-add_names.ensures.named out has)
    ])
    (children_of (records_of_facts c.args.facts.now) c.args.parent c.args.part.now) c.in_ok-found.found.items c.in_ok-found.ensures.sharing
