use Rattle.std.proofs.Common.{rules}
use Rattle.mapdb_node.proofs.books.Book.is_full.Goals as goal

pub returns : goal.returns
returns c = search rules
