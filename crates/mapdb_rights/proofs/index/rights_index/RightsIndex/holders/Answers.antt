use Rattle.std.proofs.Common.{ap, inl, inr, sym, ◌∙◌}
use Rattle.mapdb_fpage.specs.RightSets.{is_empty}
use Rattle.mapdb_facts.specs.Facts.{records_of_facts, state_of_facts}
use Rattle.mapdb_facts.specs.State.{State}
use Rattle.mapdb_lists.specs.declared.places.Owner.TheVariants.{Space}
use Rattle.mapdb_rights.specs.Index.{StandsFor}
use Rattle.mapdb_rights.specs.Meeting.{IsUnnamed, holders_of}
use Rattle.mapdb_rights.specs.Revoked.{IsRevokedBelow}
use Rattle.mapdb_rights.proofs.Lists.AllBut.{all_but_weaker}
use Rattle.mapdb_rights.proofs.Live.ServedPages.{stands_there}
use Rattle.mapdb_rights.proofs.Places.SharedPlaces.{out_of_space}
use Rattle.mapdb_rights.proofs.index.rights_index.RightsIndex.holders.Goals as goal

pub returns-clause-holders : goal.returns-clause-holders
returns-clause-holders c =
    let S : State = state_of_facts c.args.facts.now in
    let index = c.args.self.now in
    let stands : StandsFor index S = stands_there S index c.requires c.if-self.false in
    let names = c.add_names-2.new.names.items in
    all_but_weaker (IsUnnamed S names (Space c.args.space) c.args.part.now) (IsRevokedBelow S)
    (λ r out. elim (stands.stands.idle_there r out.held) [
      | inl some ↦ absurd (out_of_space index.live S names c.args.part.now r c.args.space
          (λ e has own meeting. c.in_ok-add_names-2.ensures.kept e.id (c.in_ok-add_names.ensures.named e has own meeting)) out
          (stands.stands.shows.live_there.listed.places r out.held (some.0, sym (ap is_empty (stands.stands.shows.rights r.id some.0)) ∙ some.1)))
      | inr place ↦ elim place [
        | inl below ↦ below
        | inr has ↦ absurd (out_of_space index.listed S names c.args.part.now r c.args.space c.in_ok-add_names-2.ensures.named out has)
      ]
    ])
    (holders_of (records_of_facts c.args.facts.now) c.args.space c.args.part.now) c.in_ok-found.found.items c.in_ok-found.ensures.sharing
