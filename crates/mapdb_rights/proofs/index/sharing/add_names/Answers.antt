use Rattle.std.proofs.Common.{[], sym, ◌∙◌}
use Rattle.std.proofs.lemmas.Bool.{false≢true}
use Rattle.mapdb_lists.specs.Listing.{meets, own_place}
use Rattle.mapdb_lists.specs.OwnPlaces.{own_list}
use Rattle.std.proofs.lemmas.Result.{on_ok_weaker}
use Rattle.mapdb_lists.proofs.PlaceLemmas.OwnersPlaces.{own_aligned, there}
use Rattle.mapdb_rights.proofs.index.sharing.add_names.Goals as goal

pub add_names-requires : goal.add_names-requires
add_names-requires c = own_aligned c.args.listed.now c.args.owner (own_list c.in-Some.own.now) (sym c.in-Some.ensures) c.requires

pub returns-in-Some-clause-named : goal.returns-in-Some-clause-named
returns-in-Some-clause-named c =
    on_ok_weaker c.add_names.result
    (λ each e has own meeting. each (own_place e) (there c.args.listed.now c.args.owner (own_list c.in-Some.own.now) (sym c.in-Some.ensures) e own has)
    ((λ i. meets e (c.first_page.ensures.page i) (c.end.ensures.end i)) ∙ meeting))
    c.add_names.ensures.named

pub returns-in-None-clause-named : goal.returns-in-None-clause-named
returns-in-None-clause-named c e has own meeting = absurd (false≢true (there c.args.listed.now c.args.owner [] (sym c.in-None.ensures) e own has))
