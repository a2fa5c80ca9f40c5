-- The text of a snapshot reads as the JSON that was written.
use Rattle.std.proofs.Common.{◌≡◌, ℕ, suc, ◌<◌, ◌≤◌, ◌^◌, Bool, true, false, append-nil, refl, sym, ap, subst, ◌∙◌, List, [], ◌∷◌, ◌++◌, map, Ok, Some, option_and_then, option_map, decimal, IsUtf8, inl, inr, arith}
use Rattle.std.specs.Prelude.{All, codes}
use Rattle.std.proofs.lemmas.Fmt.{IsAscii-decimal}
use Rattle.std.proofs.lemmas.Str.{IsUtf8-append, IsUtf8-from_ascii, IsUtf8-nil}
use Rattle.json.specs.Json.{if_last, value}
use Rattle.json.specs.Lex.{tokens}
use Rattle.json.specs.Print.{quoted}
use Rattle.json.specs.Tree.{HasNumbers, ItemsHaveNumbers, depth, items_depth, json_tokens}
use Rattle.json.proofs.Printed.Decimals.{IsNumber-decimal}
use Rattle.json.proofs.Printed.Tokens.{tokens-print}
use Rattle.json.proofs.Printed.Trees.{ArePrintable-json_tokens, value-json_tokens}
use Rattle.json.proofs.Printed.Utf8.{IsUtf8-are_ascii, IsUtf8-quoted, are_ascii}
use Rattle.serde_json.specs.Data.{Data, Items, Members, array, item, member, no_items, no_members, number, object}
use Rattle.serde_json.specs.Read.{max_depth, of_items, of_json, read}
use Rattle.serde_json.specs.View.{items_of}
use Rattle.serde_json.specs.Written.{comma_if, compact_text, items_outline, items_text, members_text, outline}
use Rattle.serde_json.proofs.Numbers.{number_of-decimal}
use Rattle.serde_json.proofs.Texts.{print-outline}
use Rattle.mapdb_fpage.specs.Place.{IsPlace, Place}
use Rattle.mapdb_fpage.specs.RightSets.{bits_of}
use Rattle.mapdb_fpage.specs.declared.right_sets.Rights.{Rights}
use Rattle.mapdb_fpage.proofs.WordParts.{rights_below}
use Rattle.mapdb_facts.specs.Records.{IsAmong, records_of}
use Rattle.mapdb_facts.specs.Values.{IsId, IsRecord, IsSpace}
use Rattle.mapdb_facts.specs.declared.names.RecordId.{RecordId}
use Rattle.mapdb_facts.specs.declared.names.Space.{Space}
use Rattle.mapdb_facts.specs.declared.operations.Op.{Op}
use Rattle.mapdb_facts.specs.declared.operations.Op.TheVariants.{Born, Closed, Cut}
use Rattle.mapdb_facts.specs.declared.operations.Record.{Record}
use Rattle.mapdb_facts.specs.declared.operations.Revocation.{Revocation}
use Rattle.mapdb_snapshot.specs.ComingBack.{FitsRow, IsRevocation, IsSaved, SnapshotsComeBack}
use Rattle.mapdb_snapshot.specs.Cutting.{cuts_of}
use Rattle.mapdb_snapshot.specs.Laws.{ComesBack}
use Rattle.mapdb_snapshot.specs.Reading.{operations_of, snapshot_of}
use Rattle.mapdb_snapshot.specs.Snapshot.{cut_row, ended_row, ended_of, list_of, record_row, row, snapshot_data, snapshot_object, snapshot_text, whole_number}
use Rattle.mapdb_snapshot.specs.declared.faults.TheConstants.{SNAPSHOT_VERSION}
use Rattle.mapdb_snapshot.proofs.Json.ListsComeBack.{object_back}
use Rattle.mapdb_snapshot.proofs.Json.ReadMembers.{snapshot_of-read}
use Rattle.mapdb_snapshot.proofs.Texts.AtomsComeBack.{all_among, all_written, data_comes_back, written_cut, written_record, written_space}

-- the value reads as it is written, and nests no deeper
record ReadsBack (deepest : ℕ) (d : Data) : Type 0 where
  numbers : HasNumbers (outline d)
  shallow : depth (outline d) ≤ deepest
  same : of_json (outline d) ≡ Some d
  text : IsUtf8 (compact_text d)

record ItemsReadBack (deepest : ℕ) (ds : Items) : Type 0 where
  numbers : ItemsHaveNumbers (items_outline ds)
  shallow : items_depth (items_outline ds) ≤ deepest
  same : of_items (items_outline ds) ≡ Some ds
  text : (later : Bool) → IsUtf8 (items_text later ds)

read_back : (d : Data) → ReadsBack max_depth d → read (compact_text d) ≡ Some d
read_back d back =
    let ts = json_tokens (outline d) in
    let printable = ArePrintable-json_tokens (outline d) back.numbers in
    let lexed = ap tokens (sym (print-outline d)) ∙ tokens-print ts printable ∙ sym (append-nil ts) in
    let parsed = ap (value max_depth) lexed ∙ value-json_tokens (outline d) max_depth [] back.shallow in
    ap (λ r. option_and_then of_json (option_and_then (λ p. if_last p.0 p.1) r)) parsed ∙ back.same

comma_utf8 : (later : Bool) → IsUtf8 (comma_if later)
comma_utf8 true = IsUtf8-are_ascii (44 ∷ []) refl
comma_utf8 false = IsUtf8-nil

no_items_back : (deepest : ℕ) → ItemsReadBack deepest no_items
no_items_back deepest = record { numbers = tt; shallow = omega arith; same = refl; text = λ later. IsUtf8-are_ascii (93 ∷ []) refl }

item_back : (deepest : ℕ) (d : Data) (ds : Items) → ReadsBack deepest d → ItemsReadBack deepest ds → ItemsReadBack deepest (item d ds)
item_back deepest d ds first rest = record {
  numbers = (first.numbers, rest.numbers);
  shallow = omega (arith, first.shallow, rest.shallow);
  same = rw (first.same, rest.same);
  text = λ later. IsUtf8-append (comma_if later) (compact_text d ++ items_text true ds) (comma_utf8 later)
      (IsUtf8-append (compact_text d) (items_text true ds) first.text (rest.text true));
}

array_back : (deepest : ℕ) (ds : Items) → ItemsReadBack deepest ds → ReadsBack (suc deepest) (array ds)
array_back deepest ds items = record {
  numbers = items.numbers;
  shallow = omega (arith, items.shallow);
  same = ap (option_map array) items.same;
  text = IsUtf8-append (91 ∷ []) (items_text false ds) (IsUtf8-are_ascii (91 ∷ []) refl) (items.text false);
}

number_back : (n : ℕ) → n < 2 ^ 64 → ReadsBack 0 (whole_number n)
number_back n small = record {
  numbers = IsNumber-decimal n small;
  shallow = omega arith;
  same = ap (option_map number) (number_of-decimal n small);
  text = IsUtf8-from_ascii (decimal n) (IsAscii-decimal n small);
}

-- each of the numbers has 64 bits
abbrev AllSmall : List ℕ → Type 0
AllSmall [] = Unit {0}
AllSmall (n ∷ ns) = (n < 2 ^ 64) × AllSmall ns

numbers_back : (ns : List ℕ) → AllSmall ns → ItemsReadBack 0 (items_of (map whole_number ns))
numbers_back [] small = no_items_back 0
numbers_back (n ∷ ns) small = item_back 0 (whole_number n) (items_of (map whole_number ns)) (number_back n small.0)
    (numbers_back ns small.1)

row_back : (ns : List ℕ) → AllSmall ns → ReadsBack 1 (row ns)
row_back ns small = array_back 0 (items_of (map whole_number ns)) (numbers_back ns small)

each_back : {X : Type 0} (write : X → Data) (deepest : ℕ) (xs : List X) → ((x : X) → IsAmong x xs → ReadsBack deepest (write x))
    → ItemsReadBack deepest (items_of (map write xs))
each_back write deepest [] each = no_items_back deepest
each_back write deepest (x ∷ xs) each =
    item_back deepest (write x) (items_of (map write xs)) (each x (inl refl)) (each_back write deepest xs (λ y among. each y (inr among)))

-- the two numbers of a name, before others
name_small : (id : RecordId) (ns : List ℕ) → IsId id → AllSmall ns → AllSmall (id.number ∷ id.processor ∷ ns)
name_small id ns is small = (omega (arith, is.number), (omega (arith, is.processor), small))

-- the two numbers of a place, before others
place_small : (place : Place) (ns : List ℕ) → IsPlace place → AllSmall ns → AllSmall (place.first_page ∷ place.order ∷ ns)
place_small place ns is small = (omega (arith, is.in_space), (omega (arith, is.at_most_all), small))

-- the two numbers of a space, before others
space_small : (space : Space) (ns : List ℕ) → IsSpace space → AllSmall ns → AllSmall (space.number ∷ space.version ∷ ns)
space_small space ns is small = (omega (arith, is.number), (omega (arith, is.version), small))

rights_small : (rights : Rights) → AllSmall (bits_of rights ∷ [])
rights_small rights = (omega (arith, rights_below rights), tt)

record_reads_back : (r : Record) → FitsRow r → ReadsBack 1 (record_row r)
record_reads_back r fits =
    let is : IsRecord r = fits.is in
    let last : List ℕ = r.source ∷ bits_of r.rights ∷ [] in
    let parent : List ℕ = r.parent.number ∷ r.parent.processor ∷ last in
    let place : List ℕ = r.place.first_page ∷ r.place.order ∷ parent in
    let last_small : AllSmall last = (omega (arith, is.source), rights_small r.rights) in
    let place_fits : AllSmall place = place_small r.place parent is.place (name_small r.parent last is.parent last_small) in
    row_back (r.id.number ∷ r.id.processor ∷ r.space.number ∷ r.space.version ∷ place)
    (name_small r.id (r.space.number ∷ r.space.version ∷ place) is.id (space_small r.space place is.space place_fits))

cut_reads_back : (cut : Revocation) → IsRevocation cut → ReadsBack 1 (cut_row cut)
cut_reads_back cut is =
    let last : List ℕ = bits_of cut.rights ∷ [] in
    let place : List ℕ = cut.part.first_page ∷ cut.part.order ∷ last in
    row_back (cut.target.number ∷ cut.target.processor ∷ place)
    (name_small cut.target place is.target (place_small cut.part last is.part (rights_small cut.rights)))

end_reads_back : (space : Space) → IsSpace space → ReadsBack 1 (ended_row space)
end_reads_back space is = row_back (space.number ∷ space.version ∷ []) (space_small space [] is tt)

member_utf8 : (later : Bool) (key : List ℕ) (d : Data) (ms : Members) → are_ascii key ≡ true → IsUtf8 (compact_text d)
    → IsUtf8 (members_text true ms) → IsUtf8 (members_text later (member key d ms))
member_utf8 later key d ms ascii value rest =
    IsUtf8-append (comma_if later) (quoted key ++ 58 ∷ (compact_text d ++ members_text true ms)) (comma_utf8 later)
    (IsUtf8-append (quoted key) (58 ∷ (compact_text d ++ members_text true ms)) (IsUtf8-quoted key (IsUtf8-are_ascii key ascii))
    (IsUtf8-append (58 ∷ []) (compact_text d ++ members_text true ms) (IsUtf8-are_ascii (58 ∷ []) refl)
    (IsUtf8-append (compact_text d) (members_text true ms) value rest)))

-- the object of these values under the keys of a snapshot
abbrev with_keys : Data → Data → Data → Data → Data
with_keys cuts ended records version =
    object (member (codes "cuts") cuts (member (codes "ended") ended
    (member (codes "records") records (member (codes "version") version no_members))))

keys_same : (cuts ended records version : Data) → of_json (outline cuts) ≡ Some cuts → of_json (outline ended) ≡ Some ended
    → of_json (outline records) ≡ Some records → of_json (outline version) ≡ Some version
    → of_json (outline (with_keys cuts ended records version)) ≡ Some (with_keys cuts ended records version)
keys_same cuts ended records version same_cuts same_ended same_records same_version = rw (same_cuts, same_ended, same_records, same_version)

keys_back : (cuts ended records version : Data) → ReadsBack 2 cuts → ReadsBack 2 ended → ReadsBack 2 records → ReadsBack 0 version
    → ReadsBack max_depth (with_keys cuts ended records version)
keys_back cuts ended records version c e r v = record {
  numbers = (c.numbers, (e.numbers, (r.numbers, (v.numbers, tt))));
  shallow = omega (arith, c.shallow, e.shallow, r.shallow, v.shallow);
  same = keys_same cuts ended records version c.same e.same r.same v.same;
  text = IsUtf8-append (123 ∷ []) (members_text false (member (codes "cuts") cuts from_ended)) (IsUtf8-are_ascii (123 ∷ []) refl)
      (member_utf8 false (codes "cuts") cuts from_ended refl c.text (member_utf8 true (codes "ended") ended from_records refl e.text
      (member_utf8 true (codes "records") records from_version refl r.text
      (member_utf8 true (codes "version") version no_members refl v.text
      (IsUtf8-are_ascii (125 ∷ []) refl)))));
}
  where
    from_version : Members
    from_version = member (codes "version") version no_members

    from_records : Members
    from_records = member (codes "records") records from_version

    from_ended : Members
    from_ended = member (codes "ended") ended from_records

object_reads_back : (cuts : List Revocation) (ended : List Space) (records : List Record)
    → ((cut : Revocation) → IsAmong cut cuts → IsRevocation cut) → ((space : Space) → IsAmong space ended → IsSpace space)
    → ((r : Record) → IsAmong r records → FitsRow r) → ReadsBack max_depth (snapshot_object cuts ended records)
object_reads_back cuts ended records are_cuts are_ended are_records = keys_back
    (list_of (map cut_row cuts)) (list_of (map ended_row ended)) (list_of (map record_row records)) (whole_number SNAPSHOT_VERSION)
    (array_back 1 (items_of (map cut_row cuts)) (each_back cut_row 1 cuts (λ cut among. cut_reads_back cut (are_cuts cut among))))
    (array_back 1 (items_of (map ended_row ended)) (each_back ended_row 1 ended
    (λ space among. end_reads_back space (are_ended space among))))
    (array_back 1 (items_of (map record_row records)) (each_back record_row 1 records
    (λ r among. record_reads_back r (are_records r among))))
    (number_back SNAPSHOT_VERSION (omega arith))

-- the text of any three lists says these lists
pub lists_back : (cuts : List Revocation) (ended : List Space) (records : List Record) → All IsRevocation cuts → All IsSpace ended → All FitsRow records
    → snapshot_of (compact_text (snapshot_object cuts ended records)) ≡ Ok (map Born records ++ map Cut cuts ++ map Closed ended)
lists_back cuts ended records are_cuts are_spaces fit =
    let cut = all_among IsRevocation cuts are_cuts in
    let space = all_among IsSpace ended are_spaces in
    let r = all_among FitsRow records fit in
    let back = object_reads_back cuts ended records cut space r in
    snapshot_of-read (compact_text (snapshot_object cuts ended records)) (snapshot_object cuts ended records) back.text
    (read_back (snapshot_object cuts ended records) back)
    ∙ object_back cuts ended records cut space r

-- the text of a snapshot says what its JSON says
pub text_back : (ops : List Op) → ((op : Op) → IsAmong op ops → IsSaved op)
    → snapshot_of (snapshot_text ops) ≡ operations_of (snapshot_data ops)
text_back ops fits =
    let back = object_reads_back (cuts_of ops) (ended_of ops) (records_of ops)
    (written_cut ops fits) (written_space ops fits) (written_record ops fits) in
    snapshot_of-read (snapshot_text ops) (snapshot_data ops) back.text (read_back (snapshot_data ops) back)

pub snapshots_come_back : SnapshotsComeBack
snapshots_come_back ops sound formed all = subst (ComesBack ops) (sym (text_back ops (all_written ops formed all))) (data_comes_back ops sound formed all)
