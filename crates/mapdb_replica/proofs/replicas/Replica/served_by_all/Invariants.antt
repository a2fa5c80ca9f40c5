use Rattle.std.proofs.Common.{◌≡◌, length}
use Rattle.std.specs.Prelude.{None}
use Rattle.mapdb_facts.specs.Records.{records_of}
use Rattle.mapdb_facts.specs.State.{state_of}
use Rattle.mapdb_replica.specs.FirstPairs.{first_from}
use Rattle.mapdb_replica.specs.Issue.{holders}
use Rattle.mapdb_replica.proofs.Pages.HolderWalks.{later}
use Rattle.mapdb_replica.proofs.replicas.Replica.served_by_all.Given as goal

-- with what the later holders have, it is what all have
abbrev pub invariant-records : goal.invariant-records
invariant-records l =
    first_from (state_of l.self.ops) l.page l.found (later l.after (holders (records_of l.self.ops) l.space))
    ≡ first_from (state_of l.self.ops) l.page None (holders (records_of l.self.ops) l.space)

abbrev pub decreases-records : goal.decreases-records
decreases-records l = length (later l.after (holders (records_of l.self.ops) l.space))
