-- An operation that is written as C has it is read as it was.
use Rattle.std.proofs.Common.{◌≡◌, arith, refl, ap, ◌∙◌, ◌<◌, ◌*◌, Bool, true, false, Result, Ok}
use Rattle.std.proofs.Math.Nat.{min-eq_left}
use Rattle.std.proofs.lemmas.Bool.{lt-ltb}
use Rattle.mapdb_fpage.specs.Place.{IsPlace, Place}
use Rattle.mapdb_fpage.specs.RightSets.{bits_of}
use Rattle.mapdb_fpage.specs.declared.right_sets.Rights.{Rights}
use Rattle.mapdb_fpage.proofs.WordsComeBack.{place_at_own}
use Rattle.mapdb_facts.specs.declared.names.RecordId.{RecordId}
use Rattle.mapdb_facts.specs.declared.names.Space.{Space}
use Rattle.mapdb_facts.specs.declared.operations.Op.TheVariants.{Born, Closed, Cut}
use Rattle.mapdb_facts.specs.declared.operations.Record.{Record}
use Rattle.mapdb_facts.specs.declared.operations.Revocation.{Revocation}
use Rattle.mapdb_c.specs.RawOperations.{name_given, record_given, revocation_of, end_given, written_end, written_record, written_revocation}
use Rattle.mapdb_c.specs.FaultStatuses.{place_status}
use Rattle.mapdb_c.specs.RawPlaces.{◌>>=◌, place_given, raw_space, rights_of, space_given, with_status}
use Rattle.mapdb_c.specs.declared.statuses.Status.{Status}

rights_of_own :
    (read write execute : Bool)
    → rights_of (bits_of (record { read = read; write = write; execute = execute }))
    ≡ Ok (record { read = read; write = write; execute = execute })
rights_of_own true true true = refl
rights_of_own true true false = refl
rights_of_own true false true = refl
rights_of_own true false false = refl
rights_of_own false true true = refl
rights_of_own false true false = refl
rights_of_own false false true = refl
rights_of_own false false false = refl

rights_back : (rights : Rights) → rights_of (bits_of rights) ≡ Ok rights
rights_back rights = rights_of_own rights.read rights.write rights.execute

place_back : (place : Place) → IsPlace place → place_given (place.first_page * 4096) place.order ≡ Ok place
place_back place is = ap (with_status place_status) (place_at_own place is)

space_back : (space : Space) → space.number < 65536 → space_given (raw_space space) ≡ Ok space
space_back space low = rw (lt-ltb space.number 65536 low) refl

name_back : (id : RecordId) → id.number < 72057594037927936 → id.processor < 64 → name_given id.number id.processor ≡ Ok id
name_back id small low =
    rw (lt-ltb id.processor 64 low)
    (ap (λ n. Ok (record { number = n; processor = id.processor })) (min-eq_left {n = id.number} {m = 72057594037927935} (omega (arith, small))))

-- a step that is done
next : (A B : Type 0) (one : Result A Status) (value : A) (f : A → Result B Status) (end : Result B Status)
    → one ≡ Ok value → f value ≡ end → (one >>= f) ≡ end
next A B one value f end is then_end = ap (λ (x : Result A Status). x >>= f) is ∙ then_end

pub record_back :
    (r : Record) → r.id.number < 72057594037927936 → r.parent.number < 72057594037927936
    → r.id.processor < 64 → r.space.number < 65536 → IsPlace r.place → r.parent.processor < 64
    → record_given (written_record r) ≡ Ok (Born r)
record_back r number parent_number id space place parent =
    next _ _ _ _ _ _ (name_back r.id number id)
    (next _ _ _ _ _ _ (space_back r.space space)
    (next _ _ _ _ _ _ (place_back r.place place)
    (next _ _ _ _ _ _ (name_back r.parent parent_number parent)
    (next _ _ _ _ _ _ (rights_back r.rights) refl))))

pub revocation_back :
    (cut : Revocation) → cut.target.number < 72057594037927936 → cut.target.processor < 64 → IsPlace cut.part → revocation_of (written_revocation cut) ≡ Ok (Cut cut)
revocation_back cut number target part =
    next _ _ _ _ _ _ (name_back cut.target number target)
    (next _ _ _ _ _ _ (place_back cut.part part)
    (next _ _ _ _ _ _ (rights_back cut.rights) refl))

pub end_back : (space : Space) → space.number < 65536 → end_given (written_end space) ≡ Ok (Closed space)
end_back space low = next _ _ _ _ _ _ (space_back space low) refl
