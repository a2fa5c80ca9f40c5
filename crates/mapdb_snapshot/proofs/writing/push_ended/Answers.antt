use Rattle.std.proofs.Common.{rules}
use Rattle.mapdb_snapshot.proofs.writing.push_ended.Goals as goal

pub loop-space-preserved : goal.loop-space-preserved
loop-space-preserved c = search rules
