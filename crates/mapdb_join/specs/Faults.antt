-- What a refused merge leaves.
use Rattle.std.specs.Prelude.{◌≡◌, Bool}
use Rattle.mapdb_join.specs.Atoms.{IsBetween, Clashes}
use Rattle.mapdb_join.specs.declared.merge.MergeFault.{MergeFault}
use Rattle.mapdb_join.specs.declared.merge.MergeFault.TheVariants.{Clash, Memory}

-- a fault that is a refusal of memory, and no clash
abbrev pub TellsMemory : {P : Type 0} → MergeFault P → Type 0
TellsMemory (Clash spot) = ⊥
TellsMemory (Memory refused) = Unit {0}

module _ {S A P : Type 0} (has : S → A → Bool) (excludes : A → A → Type 0)
    (is_spot : S → S → P → Type 0) where
  -- a clash leaves all as it was; running out of memory leaves something between the old atoms and
  -- the union
  abbrev pub FaultLeaves : S → S → S → MergeFault P → Type 0
  FaultLeaves old other new (Clash spot) =
      Clashes has excludes old other × is_spot old other spot × (new ≡ old)
  FaultLeaves old other new (Memory refused) =
      (Clashes has excludes old other → ⊥) × IsBetween has old other new

module _ {S A : Type 0} (has : S → A → Bool) (excludes : A → A → Type 0) where
  -- a refused part leaves all as it was
  abbrev pub FaultKeeps : S → S → S → MergeFault Unit → Type 0
  FaultKeeps old other new (Clash spot) = Clashes has excludes old other × (new ≡ old)
  FaultKeeps old other new (Memory refused) = (Clashes has excludes old other → ⊥) × (new ≡ old)
