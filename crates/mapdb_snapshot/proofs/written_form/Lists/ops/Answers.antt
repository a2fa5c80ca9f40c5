use Rattle.std.proofs.Common.{rules}
use Rattle.mapdb_snapshot.proofs.written_form.Lists.ops.Goals as goal

pub returns : goal.returns
returns c = search rules
