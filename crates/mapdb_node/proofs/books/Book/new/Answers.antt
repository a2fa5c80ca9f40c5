use Rattle.std.proofs.Common.{rules}
use Rattle.mapdb_node.proofs.books.Book.new.Goals as goal

pub returns : goal.returns
returns c = search rules
