use Rattle.mapdb_join.proofs.Changes.{changed_alone}
use Rattle.mapdb_join.proofs.laws.changed_entry.Goals as goal

pub returns : goal.returns
returns g c = changed_alone g.V.Merge.has
