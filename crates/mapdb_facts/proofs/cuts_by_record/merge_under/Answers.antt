use Rattle.std.proofs.Common.{◌<◌, arith, ap, length, sym, ◌∙◌}
use Rattle.std.specs.Prelude.{Some}
use Rattle.std.proofs.lemmas.Option.{slice_get-get_or}
use Rattle.std.proofs.lemmas.Result.{on_ok_weaker}
use Rattle.mapdb_join.specs.Faults.{FaultLeaves}
use Rattle.mapdb_join.specs.Runs.{has_at}
use Rattle.mapdb_join.proofs.Changes.{left_between}
use Rattle.mapdb_facts.proofs.Maps.NamedCuts.{between_here, like_err, like_ok, union_here, union_inserted}
use Rattle.mapdb_facts.proofs.NameLemmas.NamedEntries.{found_nowhere, place_within}
use Rattle.mapdb_facts.proofs.cuts_by_record.merge_under.Goals as goal

pub index_mut-requires : goal.index_mut-requires
index_mut-requires c = omega (arith, place_within c.cuts.inside.names c.args.id c.in-Some.at (sym c.in-Some.ensures), c.cuts.invariant, c.cuts.inside.values.ok.0)

pub returns-in-Some-clause-ok : goal.returns-in-Some-clause-ok
returns-in-Some-clause-ok c =
    let names = c.cuts.inside.names in
    let values = c.cuts.inside.values.items in
    let place = sym c.in-Some.ensures in
    let within : c.in-Some.at < length values = omega (arith, place_within names c.args.id c.in-Some.at place, c.cuts.invariant) in
    let here = slice_get-get_or values c.in-Some.at c.index_mut.result.now within ∙ ap Some (sym c.index_mut.ensures.value) in
    rw (← c.cuts.view_is) (like_ok c.map_err.result c.merge.result c.map_err.ensures.variant c.merge.ensures.ok
    (λ h. union_here names values c.args.id c.in-Some.at c.index_mut.result.now c.args.theirs.now c.merge.new.self place within here h.0))

pub returns-in-Some-clause-err : goal.returns-in-Some-clause-err
returns-in-Some-clause-err c =
    let names = c.cuts.inside.names in
    let values = c.cuts.inside.values.items in
    let place = sym c.in-Some.ensures in
    let within : c.in-Some.at < length values = omega (arith, place_within names c.args.id c.in-Some.at place, c.cuts.invariant) in
    let here = slice_get-get_or values c.in-Some.at c.index_mut.result.now within ∙ ap Some (sym c.index_mut.ensures.value) in
    rw (← c.cuts.view_is) (like_err (FaultLeaves has_at (λ _ _. ⊥) (λ _ _ _. Unit {0}) c.index_mut.result.now c.args.theirs.now c.merge.new.self)
    c.map_err.result c.merge.result c.map_err.ensures.variant c.merge.ensures.err
    (λ fault h. between_here names values c.args.id c.in-Some.at c.index_mut.result.now c.args.theirs.now c.merge.new.self place within here
    (left_between has_at (λ _ _. ⊥) (λ _ _ _. Unit {0}) c.index_mut.result.now c.args.theirs.now c.merge.new.self fault h)))

pub returns-clause-ok : goal.returns-clause-ok
returns-clause-ok c =
    let absent = found_nowhere c.cuts.inside.names c.cuts.inside.values.items c.args.id (sym c.place.ensures ∙ c.in_default.is) in
    on_ok_weaker c.insert.result
    (λ h. union_inserted c.args.cuts.now.entries c.insert.new.self.entries c.args.id c.args.theirs.now c.in_ok-copy.copy (rw (← c.cuts.view_is) absent) h c.in_ok-copy.ensures)
    c.insert.ensures.ok

pub insert-requires : goal.insert-requires
insert-requires c = sym (rw (← c.cuts.view_is) (found_nowhere c.cuts.inside.names c.cuts.inside.values.items c.args.id (sym c.place.ensures ∙ c.in_default.is)))
