-- What an index stands for.
use Rattle.std.specs.Prelude.{◌≡◌, ◌⊎◌, false, true}
use Rattle.mapdb_facts.specs.State.{State, join, said}
use Rattle.mapdb_facts.specs.declared.operations.Op.{Op}
use Rattle.mapdb_rights.specs.declared.index.rights_index.RightsIndex.{RightsIndex}
use Rattle.mapdb_rights.specs.Following.{Stands}

-- the index is there, and stands for the state
pub record StandsFor (index : RightsIndex) (S : State) : Type 0 where
  pub there : index.absent ≡ false
  pub stands : Stands index.changes index.listed index.live S

-- the index stood for a state that the operation made this one
pub record StoodBefore (index : RightsIndex) (op : Op) (S : State) : Type 0 where
  pub before : State
  pub is : S ≡ join before (said op)
  pub stood : StandsFor index before

-- the index is absent, or stands for the state
abbrev pub KeepsUp : RightsIndex → State → Type 0
KeepsUp index S = (index.absent ≡ true) ⊎ StandsFor index S

-- the index is absent, or stood for a state that the operation made this one
abbrev pub KeptUpBefore : RightsIndex → Op → State → Type 0
KeptUpBefore index op S = (index.absent ≡ true) ⊎ StoodBefore index op S
