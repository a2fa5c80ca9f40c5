use Rattle.std.proofs.Common.{rules}
use Rattle.mapdb_facts.proofs.records.RecordsIterator.next.Goals as goal

pub returns-in_err-mapping-clause-steps : goal.returns-in_err-mapping-clause-steps
returns-in_err-mapping-clause-steps c = search rules

pub returns-clause-steps : goal.returns-clause-steps
returns-clause-steps c = search rules
