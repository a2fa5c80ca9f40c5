use Rattle.std.proofs.Common.{arith}
use Rattle.mapdb_join.proofs.Counting.{last_of_take}
use Rattle.mapdb_join.proofs.runs.starts.bits_before.Goals as goal

pub returns-else-index-eq0 : goal.returns-else-index-eq0
returns-else-index-eq0 c =
    last_of_take c.args.before c.args.starts.now c.args.index _ c.requires (omega arith)
