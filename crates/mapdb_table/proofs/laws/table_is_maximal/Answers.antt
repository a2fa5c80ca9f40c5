use Rattle.mapdb_table.proofs.MaximalRows.{table-maximal}
use Rattle.mapdb_table.proofs.laws.table_is_maximal.Goals as goal

pub returns : goal.returns
returns c ops = table-maximal ops
