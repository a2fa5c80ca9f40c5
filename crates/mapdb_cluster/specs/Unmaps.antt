-- An Unmap of an honest run reaches all that its issuer saw, in every copy that has taken it.
use Rattle.std.specs.Prelude.{◌≡◌, ℕ, ◌≤◌, true, Bool, List, slice_get, Some, Ok}
use Rattle.mapdb_fpage.specs.Place.{IsPlace, Place}
use Rattle.mapdb_fpage.specs.RightSets.{includes}
use Rattle.mapdb_fpage.specs.declared.right_sets.Right.{Right}
use Rattle.mapdb_fpage.specs.declared.right_sets.Rights.{Rights}
use Rattle.mapdb_facts.specs.Names.{processor_limit}
use Rattle.mapdb_facts.specs.State.{state_of}
use Rattle.mapdb_facts.specs.declared.names.Space.{Space}
use Rattle.mapdb_facts.specs.declared.operations.Op.{Op}
use Rattle.mapdb_replica.specs.Replica.{Log, with_issued}
use Rattle.mapdb_replica.specs.Unmap.{unmap_outcome}
use Rattle.mapdb_replica.specs.Reaching.{HasTaken, NoneLeft}
use Rattle.mapdb_cluster.specs.Honest.{AreEvents}
use Rattle.mapdb_cluster.specs.Run.{Move, Run, after, copy_of, last_net}

-- Two copies of an honest run that goes on: the issuer as it stands at the end of the run, and any
-- copy after later events.
pub record AreOfRun (run : Run) (later : List Move) (issuer copy : Log) : Type 0 where
  pub few : run.count ≤ processor_limit
  pub first : AreEvents run.moves
  pub more : AreEvents later
  pub issues : (at : ℕ) × (copy_of run at ≡ Some issuer)
  pub takes : (at : ℕ) × (slice_get (after (last_net run) later).copies at ≡ Some copy)

-- In a copy that has taken the Unmap, none of the named rights is left to what its issuer saw, nor
-- to anything below.
abbrev pub UnmapsReach : Type 0
UnmapsReach =
    (run : Run) (later : List Move) (issuer copy : Log) → AreOfRun run later issuer copy
    → (space : Space) (part : Place) (rights : Rights) (flush : Bool) → IsPlace part
    → HasTaken copy.ops issuer.ops space (Some part) rights flush
    → (right : Right) → includes rights right ≡ true
    → NoneLeft issuer.ops space part flush (state_of copy.ops) right

-- the issuer itself has taken the Unmap, once it is issued
abbrev pub IssuersHaveTaken : Type 0
IssuersHaveTaken =
    (issuer : Log) (space : Space) (part : Place) (rights : Rights) (flush : Bool) (ops : List Op)
    → unmap_outcome issuer space (Some part) rights flush ≡ Ok ops
    → HasTaken (with_issued issuer ops).ops issuer.ops space (Some part) rights flush
