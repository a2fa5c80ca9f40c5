use Rattle.std.proofs.Common.{rules}
use Rattle.mapdb_picture.proofs.labels.run_text.Goals as goal

pub returns : goal.returns
returns c = search rules
