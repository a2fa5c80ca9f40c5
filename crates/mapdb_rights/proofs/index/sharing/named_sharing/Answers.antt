use Rattle.std.proofs.Common.{[], ◌++◌, sym, ap, ◌∙◌, append-nil}
use Rattle.std.specs.Prelude.{Option}
use Rattle.std.specs.List.{cons_option, filter_map}
use Rattle.mapdb_facts.specs.Facts.{state_of_facts}
use Rattle.mapdb_facts.specs.declared.names.RecordId.{RecordId}
use Rattle.mapdb_facts.specs.declared.operations.Record.{Record}
use Rattle.mapdb_rights.specs.Meeting.{record_if, shares_part}
use Rattle.mapdb_rights.proofs.Lists.NamedRecords.{looked_more}
use Rattle.mapdb_rights.proofs.index.sharing.named_sharing.Goals as goal
use Rattle.mapdb_rights.proofs.index.sharing.named_sharing.Goals.{in-Some+in_ok-add_item, in_default}

pub loop-id-preserved : goal.loop-id-preserved
loop-id-preserved c =
    let find = λ (id : RecordId). record_if (shares_part c.args.owner.now c.args.part.now) ((state_of_facts c.args.facts.now).record_at id) in
    looked_more find c.args.names.now c.loop-id.id-index c.id-item.result c.loop-id.found.items c.match-record_sharing.found.items (filter_map find c.args.names.now) c.loop-id-test.true
    (elim c.match-record_sharing.branch [
      | in-Some+in_ok-add_item w ↦
          ap (λ found. found.items) w.found-is ∙ w.in_ok-add_item.ensures
          ∙ ap (λ (o : Option Record). c.loop-id.found.items ++ cons_option o []) (sym w.in-Some.is ∙ c.record_sharing.ensures ∙ ap find c.id-item.is)
      | in_default w ↦
          ap (λ found. found.items) w.found-is ∙ sym (append-nil c.loop-id.found.items)
          ∙ ap (λ (o : Option Record). c.loop-id.found.items ++ cons_option o []) (sym w.in_default.is ∙ c.record_sharing.ensures ∙ ap find c.id-item.is)
    ])
    c.loop-id.invariant
