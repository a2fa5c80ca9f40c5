use Rattle.std.proofs.Common.{rules}
use Rattle.mapdb_c.proofs.operations.written_record.Goals as goal

pub returns-clause-written : goal.returns-clause-written
returns-clause-written c = search rules
