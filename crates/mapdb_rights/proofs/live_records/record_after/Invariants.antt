use Rattle.std.proofs.Common.{◌≡◌, true, length}
use Rattle.mapdb_facts.specs.Facts.{records_of_facts, state_of_facts}
use Rattle.mapdb_facts.specs.Names.{is_after}
use Rattle.mapdb_facts.specs.Records.{behind}
use Rattle.mapdb_facts.specs.declared.names.RecordId.{RecordId}
use Rattle.mapdb_rights.specs.Live.{IsLive}
use Rattle.mapdb_rights.proofs.live_records.record_after.Given as goal

-- none of those that are left out has a right at the page
abbrev pub invariant-records : goal.invariant-records
invariant-records l = record {
  further : (id : RecordId) → IsLive (state_of_facts l.facts) l.space l.page id → is_after l.fn.after id ≡ true → is_after l.from id ≡ true;
  within : (id : RecordId) → is_after l.from id ≡ true → is_after l.fn.after id ≡ true;
}

abbrev pub decreases-records : goal.decreases-records
decreases-records l = length (behind l.from (records_of_facts l.facts))
