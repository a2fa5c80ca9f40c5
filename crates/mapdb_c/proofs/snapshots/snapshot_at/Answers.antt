use Rattle.std.proofs.Common.{rules}
use Rattle.std.proofs.lemmas.List.{map-id}
use Rattle.mapdb_c.proofs.snapshots.snapshot_at.Goals as goal

pub returns-in-Ok : goal.returns-in-Ok
returns-in-Ok c = let written = rw (map-id c.as_bytes.result.now) at c.fill.ensures in search rules
