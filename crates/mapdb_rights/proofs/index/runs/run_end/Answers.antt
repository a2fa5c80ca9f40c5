use Rattle.std.proofs.Common.{rules}
use Rattle.mapdb_rights.proofs.index.runs.run_end.Goals as goal

pub pages-preserved : goal.pages-preserved
pages-preserved c = search rules
