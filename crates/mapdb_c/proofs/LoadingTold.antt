-- What taking a snapshot tells is what it leaves.
use Rattle.std.proofs.Common.{◌≡◌, refl, ap, sym, subst, inl, inr, ◌⊎◌}
use Rattle.std.specs.Prelude.{ℕ, List, Result, Ok, Err}
use Rattle.mapdb_facts.specs.declared.operations.Op.{Op}
use Rattle.mapdb_replica.specs.Replica.{Log}
use Rattle.mapdb_snapshot.specs.Reading.{snapshot_of}
use Rattle.mapdb_snapshot.specs.declared.faults.SnapshotFault.{SnapshotFault}
use Rattle.mapdb_snapshot.specs.declared.faults.SnapshotFault.TheVariants.{Memory}
use Rattle.mapdb_c.specs.Loading.{LoadsAs, LoadsRead, text_status}
use Rattle.mapdb_c.specs.Taking.{TakesAs, taken_with}
use Rattle.mapdb_c.specs.declared.statuses.Status.{Status}
use Rattle.mapdb_c.specs.declared.taking.Taken.{Taken}

pub read_taken :
    (text : List ℕ) (batch : List Op) (told : Status) (taken : Taken) (old new : Log)
    → snapshot_of text ≡ Ok batch → TakesAs batch told taken old new
    → LoadsAs text told taken old new
read_taken text batch told taken old new is takes =
    inl (subst (λ (read : Result (List Op) SnapshotFault). LoadsRead read told taken old new) (sym is) takes)

pub not_read :
    (text : List ℕ) (why : SnapshotFault) (old : Log)
    → (why ≡ Memory) ⊎ (snapshot_of text ≡ Err why) → LoadsAs text (text_status why) (taken_with 0) old old
not_read text why old (inl is) = inr (ap text_status is, refl, refl)
not_read text why old (inr is) = inl
    (subst (λ (read : Result (List Op) SnapshotFault). LoadsRead read (text_status why) (taken_with 0) old old) (sym is)
    (refl, refl, refl))
