-- What a cluster keeps: its copies are those of the processors from 0 on, and all that they hold
-- was issued among them.
use Rattle.std.specs.Prelude.{◌≡◌, ℕ, ◌≤◌, true, length, slice_get, Some}
use Rattle.mapdb_facts.specs.Names.{processor_limit}
use Rattle.mapdb_facts.specs.Records.{IsAmong}
use Rattle.mapdb_facts.specs.State.{IsSound}
use Rattle.mapdb_facts.specs.WellFormed.{all_formed}
use Rattle.mapdb_facts.specs.declared.operations.Op.{Op}
use Rattle.mapdb_facts.specs.declared.operations.Op.TheVariants.{Born}
use Rattle.mapdb_facts.specs.declared.operations.Record.{Record}
use Rattle.mapdb_replica.specs.Replica.{Log}
use Rattle.mapdb_cluster.specs.Honest.{IsHonest}
use Rattle.mapdb_cluster.specs.Net.{Net}

-- the copy of the processor of this number
pub record IsCopyOf (at : ℕ) (copy : Log) : Type 0 where
  pub place : copy.processor ≡ at
  pub formed : all_formed copy.ops ≡ true
  pub sound : IsSound copy.ops
  pub held : (op : Op) → IsAmong op copy.own → IsAmong op copy.ops
  pub named : (r : Record) → IsAmong (Born r) copy.own → r.id.processor ≡ copy.processor

-- At most one copy for each processor that may be, each in its place, and honest together.
pub record IsKeptNet (net : Net) : Type 0 where
  pub few : length net.copies ≤ processor_limit
  pub copies : (at : ℕ) (copy : Log) → slice_get net.copies at ≡ Some copy → IsCopyOf at copy
  pub honest : IsHonest net
