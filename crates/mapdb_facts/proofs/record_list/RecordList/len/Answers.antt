use Rattle.std.proofs.Common.{arith, ap, length, ◌∙◌}
use Rattle.std.specs.Prelude.{map}
use Rattle.std.proofs.lemmas.List.{length-map}
use Rattle.std.proofs.lemmas.Slice.Zip.{length-zip}
use Rattle.mapdb_facts.proofs.record_list.RecordList.len.Goals as goal

pub returns : goal.returns
returns c =
    let records = c.self.inside.records.items in
    omega (arith, c.len.ensures, length-zip (map (λ r. r.id) records) records, length-map records (λ r. r.id), c.self.inside.records.ok.0)
    ∙ ap (λ table. length table.entries) c.self.view_is
