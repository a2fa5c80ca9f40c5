use Rattle.std.proofs.Common.{◌∙◌}
use Rattle.mapdb_table.proofs.PlacedSpaces.{insert_space}
use Rattle.mapdb_table.proofs.spaces.add_space.Goals as goal

pub returns : goal.returns
returns c = c.in_ok-insert.ensures.keys ∙ insert_space c.args.space c.args.spaces.now.keys
