use Rattle.std.proofs.Common.{rules}
use Rattle.mapdb_cluster.proofs.sending.send.Goals as goal

pub returns-in_err-ops : goal.returns-in_err-ops
returns-in_err-ops c = search rules
