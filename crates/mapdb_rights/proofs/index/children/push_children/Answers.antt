use Rattle.std.proofs.Common.{◌≤◌, ◌+◌, [], ap, sym, arith, length, mul-le-mul_right}
use Rattle.std.proofs.lemmas.Bool.{false≢true}
use Rattle.mapdb_lists.specs.declared.places.Owner.TheVariants as owners
use Rattle.mapdb_lists.specs.Listing.{listed_len}
use Rattle.mapdb_lists.specs.OwnPlaces.{own_list}
use Rattle.mapdb_lists.proofs.Lists.Entries.{own_length}
use Rattle.std.proofs.lemmas.Result.{on_ok_weaker}
use Rattle.mapdb_lists.proofs.PlaceLemmas.OwnersPlaces.{own_aligned, there}
use Rattle.mapdb_rights.specs.HeldPlaces.{source_of}
use Rattle.mapdb_rights.specs.Pending.{share}
use Rattle.mapdb_rights.proofs.index.children.push_children.Goals as goal

pub push_sources-requires : goal.push_sources-requires
push_sources-requires c = own_aligned c.args.listed.now (owners.Record c.args.parent) (own_list c.in-Some.own.now) (sym c.in-Some.ensures) c.requires

pub returns-in-Some-clause-stale : goal.returns-in-Some-clause-stale
returns-in-Some-clause-stale c =
    on_ok_weaker c.push_sources.result
    (λ stale r held formed listed parent.
    stale r held parent (there c.args.listed.now (owners.Record c.args.parent) (own_list c.in-Some.own.now) (sym c.in-Some.ensures) (source_of r) (ap owners.Record parent) listed))
    c.push_sources.ensures.stale

pub returns-in-Some-clause-weight : goal.returns-in-Some-clause-weight
returns-in-Some-clause-weight c =
    let few : length (own_list c.in-Some.own.now) ≤ listed_len c.args.listed.now =
    let all = own_length c.args.listed.now.own.entries (owners.Record c.args.parent) in let own = ap length c.in-Some.ensures in omega (arith, all, own) in
    on_ok_weaker c.push_sources.result
    (λ counts base some. let h = counts base some in let more = mul-le-mul_right (share base (c.args.parent.number + 1)) few in omega (arith, h, more))
    c.push_sources.ensures.weight

pub returns-in-None-clause-stale : goal.returns-in-None-clause-stale
returns-in-None-clause-stale c r held formed listed parent =
    absurd (false≢true (there c.args.listed.now (owners.Record c.args.parent) [] (sym c.in-None.ensures) (source_of r) (ap owners.Record parent) listed))
