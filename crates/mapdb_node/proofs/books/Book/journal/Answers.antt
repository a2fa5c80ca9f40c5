use Rattle.std.proofs.Common.{rules}
use Rattle.mapdb_node.proofs.books.Book.journal.Goals as goal

pub returns-clause-value : goal.returns-clause-value
returns-clause-value c = search rules
