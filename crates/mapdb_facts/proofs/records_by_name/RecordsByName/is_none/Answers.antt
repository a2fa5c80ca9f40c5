use Rattle.mapdb_facts.proofs.RecordLemmas.HeldInOrder.{none_greatest}
use Rattle.mapdb_facts.proofs.records_by_name.RecordsByName.is_none.Goals as goal

pub returns : goal.returns
returns c = rw (← c.self.view_is) (none_greatest c.self.inside.list.entries c.self.inside.greatest c.is_none.result c.self.invariant c.is_none.ensures)
