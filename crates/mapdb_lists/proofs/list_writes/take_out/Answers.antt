use Rattle.std.proofs.Common.{◌∙◌, arith}
use Rattle.mapdb_lists.proofs.Lists.LastTwo.{swapped_out}
use Rattle.mapdb_lists.proofs.list_writes.take_out.Goals as goal

pub returns-then-len-index-le2 : goal.returns-then-len-index-le2
returns-then-len-index-le2 c = c.swap_remove.ensures.items ∙ swapped_out c.args.list.now.items c.args.index c.swap_remove.result c.requires (omega arith)
