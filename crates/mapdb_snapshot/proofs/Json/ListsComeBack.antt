-- Lists of rows that are written are read again, and put at their places.
use Rattle.std.proofs.Common.{◌≡◌, refl, List, [], ◌∷◌, ◌++◌, map, Result, Ok, ap, inl, inr}
use Rattle.std.specs.Prelude.{codes}
use Rattle.serde_json.specs.Data.{Data, Items, array, member, no_members, object}
use Rattle.serde_json.specs.View.{items_of}
use Rattle.mapdb_fpage.specs.Place.{IsPlace}
use Rattle.mapdb_fpage.proofs.WordsComeBack.{place_at_own}
use Rattle.mapdb_facts.specs.Records.{IsAmong}
use Rattle.mapdb_facts.specs.Values.{IsSpace}
use Rattle.mapdb_facts.specs.declared.names.Space.{Space}
use Rattle.mapdb_facts.specs.declared.operations.Op.TheVariants.{Born, Closed, Cut}
use Rattle.mapdb_facts.specs.declared.operations.Record.{Record}
use Rattle.mapdb_facts.specs.declared.operations.Revocation.{Revocation}
use Rattle.mapdb_snapshot.specs.ComingBack.{FitsRow, IsRevocation}
use Rattle.mapdb_snapshot.specs.Forms.{versioned_form}
use Rattle.mapdb_snapshot.specs.ReadRows.{placed_one}
use Rattle.mapdb_snapshot.specs.Reading.{◌>>=◌, Somewhere, all_of, cut_of, end_read, operations_of, or_page, placed_all, record_read}
use Rattle.mapdb_snapshot.specs.Snapshot.{cut_row, ended_row, record_row, snapshot_object, whole_number}
use Rattle.mapdb_snapshot.specs.declared.faults.SnapshotFault.{SnapshotFault}
use Rattle.mapdb_snapshot.specs.declared.faults.TheConstants.{SNAPSHOT_VERSION}
use Rattle.mapdb_snapshot.proofs.Json.RowsComeBack.{cut_back, cut_to_place, end_back, record_back, record_to_place}

-- a list is read as what each of its values is read as
all_back : {X A : Type 0} (read_one : Data → Result A SnapshotFault) (write : X → Data) (back : X → A) (xs : List X)
    → ((x : X) → IsAmong x xs → read_one (write x) ≡ Ok (back x)) → all_of read_one (items_of (map write xs)) ≡ Ok (map back xs)
all_back read_one write back [] each = refl
all_back read_one write back (x ∷ xs) each = rw (each x (inl refl), all_back read_one write back xs (λ y among. each y (inr among)))

-- a list stands where each of its values stands
places_back : {X A : Type 0} (somewhere : X → Somewhere A) (there : X → A) (xs : List X)
    → ((x : X) → IsAmong x xs → placed_one versioned_form (somewhere x) ≡ Ok (there x)) → placed_all versioned_form (map somewhere xs) ≡ Ok (map there xs)
places_back somewhere there [] each = refl
places_back somewhere there (x ∷ xs) each = rw (each x (inl refl), places_back somewhere there xs (λ y among. each y (inr among)))

record_placed : (r : Record) → IsPlace r.place → placed_one versioned_form (record_to_place r) ≡ Ok (Born r)
record_placed r is = ap (or_page (record_to_place r).value) (place_at_own r.place is)

cut_placed : (cut : Revocation) → IsPlace cut.part → placed_one versioned_form (cut_to_place cut) ≡ Ok (Cut cut)
cut_placed cut is = ap (or_page (cut_to_place cut).value) (place_at_own cut.part is)

-- the object with these lists is read as the lists are
lists_read : (cuts ended records : Items)
    → operations_of (object (member (codes "cuts") (array cuts) (member (codes "ended") (array ended)
    (member (codes "records") (array records) (member (codes "version") (whole_number SNAPSHOT_VERSION) no_members)))))
    ≡ (all_of (cut_of versioned_form) cuts >>= (λ cut_rows. all_of (end_read versioned_form) ended >>= (λ ends. all_of (record_read versioned_form) records >>= (λ record_rows.
    placed_all versioned_form record_rows >>= (λ born. placed_all versioned_form cut_rows >>= (λ cut. Ok (born ++ cut ++ ends)))))))
lists_read cuts ended records = refl

-- what is written is read again: the records, the revocations, the ends
pub object_back : (cuts : List Revocation) (ended : List Space) (records : List Record)
    → ((cut : Revocation) → IsAmong cut cuts → IsRevocation cut) → ((space : Space) → IsAmong space ended → IsSpace space)
    → ((r : Record) → IsAmong r records → FitsRow r)
    → operations_of (snapshot_object cuts ended records) ≡ Ok (map Born records ++ map Cut cuts ++ map Closed ended)
object_back cuts ended records cuts_fit ends_fit records_fit =
    let read_cuts = all_back (cut_of versioned_form) cut_row cut_to_place cuts (λ cut among. cut_back cut (cuts_fit cut among)) in
    let read_ends = all_back (end_read versioned_form) ended_row (λ space. Closed space) ended (λ space among. end_back space (ends_fit space among)) in
    let read_records = all_back (record_read versioned_form) record_row record_to_place records (λ r among. record_back r (records_fit r among).is (records_fit r among).near) in
    let placed_records = places_back record_to_place (λ r. Born r) records (λ r among. record_placed r (records_fit r among).is.place) in
    let placed_cuts = places_back cut_to_place (λ cut. Cut cut) cuts (λ cut among. cut_placed cut (cuts_fit cut among).part) in
    rw (
      lists_read (items_of (map cut_row cuts)) (items_of (map ended_row ended)) (items_of (map record_row records)),
      read_cuts,
      read_ends,
      read_records,
      placed_records,
      placed_cuts,
    )
