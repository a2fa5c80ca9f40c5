use Rattle.std.proofs.Common.{rules}
use Rattle.mapdb_rights.proofs.index.live_names.entry_after.Goals as goal

pub returns-in-Some : goal.returns-in-Some
returns-in-Some c = search rules
