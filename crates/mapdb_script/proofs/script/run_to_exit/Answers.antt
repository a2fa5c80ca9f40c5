use Rattle.std.proofs.Common.{rules}
use Rattle.mapdb_script.proofs.script.run_to_exit.Goals as goal

pub returns-clause-told : goal.returns-clause-told
returns-clause-told g c = search rules
