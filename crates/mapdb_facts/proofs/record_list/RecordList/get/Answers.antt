use Rattle.std.proofs.Common.{◌<◌, arith, ap, length, refl, sym, ◌∙◌}
use Rattle.std.specs.Map.{lookup}
use Rattle.std.proofs.lemmas.Option.{slice_get_read}
use Rattle.mapdb_facts.specs.Names.{same_id}
use Rattle.mapdb_facts.proofs.NameLemmas.OwnNames.{record_at_place, record_nowhere, record_within}
use Rattle.mapdb_facts.proofs.record_list.RecordList.get.Goals as goal

pub index-requires : goal.index-requires
index-requires c = omega (arith, record_within c.self.inside.places c.self.inside.records.items c.self.invariant.0 c.args.id c.in-Some.at (sym c.in-Some.ensures), c.self.inside.records.ok.0)

pub returns-in-Some : goal.returns-in-Some
returns-in-Some c =
    let records = c.self.inside.records.items in
    let within : c.in-Some.at < length records = record_within c.self.inside.places records c.self.invariant.0 c.args.id c.in-Some.at (sym c.in-Some.ensures) in
    sym (slice_get_read records _ c.in-Some.at c.index.result.now refl within c.index.ensures)
    ∙ record_at_place c.self.inside.places records c.self.invariant.0 c.args.id c.in-Some.at (sym c.in-Some.ensures)
    ∙ ap (λ table. lookup (same_id c.args.id) table.entries) c.self.view_is

pub returns-in-None : goal.returns-in-None
returns-in-None c =
    record_nowhere c.self.inside.places c.self.inside.records.items c.self.invariant.0 c.args.id (sym c.in-None.ensures)
    ∙ ap (λ table. lookup (same_id c.args.id) table.entries) c.self.view_is
