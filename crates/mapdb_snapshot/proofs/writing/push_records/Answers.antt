use Rattle.std.proofs.Common.{◌∙◌, List, ap, sym}
use Rattle.std.specs.Prelude.{map, string_bytes}
use Rattle.mapdb_facts.specs.declared.operations.Record.{Record}
use Rattle.mapdb_snapshot.specs.OpenLists.{closed_with}
use Rattle.mapdb_snapshot.specs.Snapshot.{record_row}
use Rattle.mapdb_snapshot.proofs.writing.push_records.Goals as goal

pub loop-mapping-preserved : goal.loop-mapping-preserved
loop-mapping-preserved c =
    c.in_ok-push_record.ensures (map record_row c.next.new.self)
    ∙ ap (λ (rs : List Record). closed_with (string_bytes c.loop-mapping.text) c.loop-mapping.later (map record_row rs)) (sym c.in-Some.ensures.steps)
    ∙ c.loop-mapping.invariant
