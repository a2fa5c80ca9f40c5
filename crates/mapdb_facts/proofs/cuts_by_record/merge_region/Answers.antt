use Rattle.std.proofs.Common.{◌<◌, arith, ap, length, sym, ◌∙◌}
use Rattle.std.specs.Prelude.{Some}
use Rattle.std.proofs.lemmas.Option.{slice_get-get_or}
use Rattle.std.proofs.lemmas.Result.{on_ok_weaker}
use Rattle.mapdb_join.specs.Regions.{starts_of}
use Rattle.mapdb_facts.proofs.Maps.NamedCuts.{like_ok, union_here, union_inserted}
use Rattle.mapdb_facts.proofs.NameLemmas.NamedEntries.{found_nowhere, place_within}
use Rattle.mapdb_facts.proofs.cuts_by_record.merge_region.Goals as goal

pub index_mut-requires : goal.index_mut-requires
index_mut-requires c = omega (arith, place_within c.cuts.inside.names c.args.id c.in-Some.at (sym c.in-Some.ensures), c.cuts.invariant, c.cuts.inside.values.ok.0)

pub returns-in-Some-clause-ok : goal.returns-in-Some-clause-ok
returns-in-Some-clause-ok c =
    let names = c.cuts.inside.names in
    let values = c.cuts.inside.values.items in
    let place = sym c.in-Some.ensures in
    let within : c.in-Some.at < length values = omega (arith, place_within names c.args.id c.in-Some.at place, c.cuts.invariant) in
    let here = slice_get-get_or values c.in-Some.at c.index_mut.result.now within ∙ ap Some (sym c.index_mut.ensures.value) in
    rw (← c.cuts.view_is) (like_ok c.map_err.result c.merge_part.result c.map_err.ensures.variant c.merge_part.ensures.ok
    (λ h. union_here names values c.args.id c.in-Some.at c.index_mut.result.now (starts_of c.args.region) c.merge_part.new.self place within here h.0))

pub returns-clause-ok : goal.returns-clause-ok
returns-clause-ok c =
    let absent = found_nowhere c.cuts.inside.names c.cuts.inside.values.items c.args.id (sym c.place.ensures ∙ c.in_default.is) in
    on_ok_weaker c.insert.result
    (λ h. union_inserted c.args.cuts.now.entries c.insert.new.self.entries c.args.id (starts_of c.args.region) c.in_ok-runs.runs (rw (← c.cuts.view_is) absent) h c.in_ok-runs.ensures)
    c.insert.ensures.ok

pub insert-requires : goal.insert-requires
insert-requires c = sym (rw (← c.cuts.view_is) (found_nowhere c.cuts.inside.names c.cuts.inside.values.items c.args.id (sym c.place.ensures ∙ c.in_default.is)))
