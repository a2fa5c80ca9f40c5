use Rattle.mapdb_join.proofs.Held.{one_shown}
use Rattle.mapdb_join.proofs.walks.prove_entries.Goals as goal

pub returns-in-One : goal.returns-in-One
returns-in-One g c =
    rw c.in-One.is (one_shown c.in-One.entry.key c.in-One.entry.value c.prove_value.ensures c.prove_value-in-One.ensures)
