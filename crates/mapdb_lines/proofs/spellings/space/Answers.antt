use Rattle.std.proofs.Common.{rules}
use Rattle.mapdb_lines.specs.Spellings.{space_at}
use Rattle.mapdb_lines.proofs.spellings.space.Goals as goal

pub returns : goal.returns
unfolding space_at
returns c = search rules
