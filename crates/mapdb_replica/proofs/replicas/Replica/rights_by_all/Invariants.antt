use Rattle.std.proofs.Common.{◌≡◌, [], length}
use Rattle.mapdb_facts.specs.Records.{records_of}
use Rattle.mapdb_facts.specs.State.{state_of}
use Rattle.mapdb_replica.specs.Issue.{holders}
use Rattle.mapdb_replica.specs.Pairs.{pairs_from}
use Rattle.mapdb_replica.proofs.Pages.HolderWalks.{later}
use Rattle.mapdb_replica.proofs.replicas.Replica.rights_by_all.Given as goal

-- with what the later holders have, the pairs are those of all
abbrev pub invariant-records : goal.invariant-records
invariant-records l =
    pairs_from (state_of l.self.ops) l.page l.pairs.items (later l.after (holders (records_of l.self.ops) l.space))
    ≡ pairs_from (state_of l.self.ops) l.page [] (holders (records_of l.self.ops) l.space)

abbrev pub decreases-records : goal.decreases-records
decreases-records l = length (later l.after (holders (records_of l.self.ops) l.space))
