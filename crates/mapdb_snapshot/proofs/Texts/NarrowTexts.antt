-- The operations of a text from before addresses were wider lie below the bounds of that time.
use Rattle.std.proofs.Common.{◌≡◌, ℕ, ◌+◌, ◌-◌, ◌*◌, ◌/◌, ◌%◌, ◌^◌, ◌<◌, ◌≤◌, Bool, true, false, refl, sym, ap, subst, ◌∙◌, List, [], ◌∷◌, ◌++◌, Some, Ok, Err, inl, inr, arith, option_and_then, Result}
use Rattle.std.specs.Prelude.{◌⊎◌, ◌==◌, nat_lt, nat_le, not, Option, None, if◌then◌else◌, codes}
use Rattle.std.specs.Str.{is_utf8}
use Rattle.std.proofs.lemmas.Bool.{ltb-true, ltb-false}
use Rattle.std.proofs.lemmas.Nat.{pow-add}
use Rattle.serde_json.specs.Data.{Data, Items, Members, item, no_items}
use Rattle.serde_json.specs.Find.{as_array, as_number, as_object, as_u64, get_item, get_member}
use Rattle.serde_json.specs.Read.{read}
use Rattle.mapdb_fpage.specs.Bounds.{least_order, page_bytes}
use Rattle.mapdb_fpage.specs.Place.{Place}
use Rattle.mapdb_fpage.specs.declared.places.FpageFault.{FpageFault}
use Rattle.mapdb_fpage.specs.declared.places.FpageFault.TheVariants.{OutOfSpace, TooLarge, TooSmall, Unaligned}
use Rattle.mapdb_facts.specs.Names.{same_id}
use Rattle.mapdb_facts.specs.Records.{IsAmong}
use Rattle.mapdb_facts.specs.State.{first_of, state_of}
use Rattle.mapdb_facts.specs.WellFormed.{IsFormedRecord}
use Rattle.mapdb_facts.specs.declared.names.RecordId.{RecordId}
use Rattle.mapdb_facts.specs.declared.names.Space.{Space}
use Rattle.mapdb_fpage.specs.declared.right_sets.Rights.{Rights}
use Rattle.mapdb_facts.specs.declared.operations.Op.{Op}
use Rattle.mapdb_facts.specs.declared.operations.Op.TheVariants.{Born, Closed, Cut}
use Rattle.mapdb_facts.specs.declared.operations.Record.{Record}
use Rattle.mapdb_facts.proofs.States.Formed.{formed_record}
use Rattle.mapdb_rights.proofs.Rights.Narrow.{narrow_is_enough}
use Rattle.mapdb_snapshot.specs.Forms.{form_of, narrow, place_within}
use Rattle.mapdb_snapshot.specs.NarrowTexts.{NarrowTextsAgree, version_by}
use Rattle.mapdb_snapshot.specs.Reading.{◌>>=◌, Somewhere, Unplaced, all_of, below, cut_of, end_read, list_under, form_lists, members_count, name_at, number_at, or_not_json, or_page, or_shape, placed_all, read_as, record_read, rights_read, row_read, space_read_at, space_read, unplaced_at, version_of, whole_below}
use Rattle.mapdb_snapshot.specs.declared.faults.SnapshotFault.{SnapshotFault}
use Rattle.mapdb_snapshot.specs.declared.faults.SnapshotFault.TheVariants as fault
use Rattle.mapdb_snapshot.specs.declared.forms.TheConstants.{NARROW_VERSION}
use Rattle.mapdb_snapshot.proofs.Texts.AtomsComeBack.{formed_among}
use Rattle.mapdb_fpage.proofs.Aligned.{fits_multiple}

-- Steps that went well.

ok_same : {A : Type 0} (a b : A) → (let x : Result A SnapshotFault = Ok a in x) ≡ Ok b → a ≡ b
ok_same a b e = cc

err_ok : {A : Type 0} (f : SnapshotFault) (b : A) → (let x : Result A SnapshotFault = Err f in x) ≡ Ok b → ⊥
err_ok f b e = cc

bind_ok : {A B : Type 0} (x : Result A SnapshotFault) (f : A → Result B SnapshotFault) (b : B) → (x >>= f) ≡ Ok b
    → (a : A) × (x ≡ Ok a) × (f a ≡ Ok b)
bind_ok (Ok a) f b e = (a, refl, e)
bind_ok (Err f') f b e = absurd (err_ok f' b e)

-- what was read of a list was read of one of its values
all_kept : {A : Type 0} (P : A → Type 0) (read_one : Data → Result A SnapshotFault) → ((d : Data) (x : A) → read_one d ≡ Ok x → P x)
    → (ds : Items) (xs : List A) → all_of read_one ds ≡ Ok xs → (x : A) → IsAmong x xs → P x
all_kept {A} P read_one one no_items xs e x among = absurd (subst (IsAmong x) (sym (ok_same [] xs e)) among)
all_kept {A} P read_one one (item d ds) xs e x among =
    let a = bind_ok (read_one d) (λ one. all_of read_one ds >>= (λ rest. Ok (one ∷ rest))) xs e in
    let b = bind_ok (all_of read_one ds) (λ rest. Ok (a.0 ∷ rest)) xs a.2 in
    elim (subst (IsAmong x) (sym (ok_same (a.0 ∷ b.0) xs b.2)) among) [
      | inl same ↦ subst P same (one d a.0 a.1)
      | inr later ↦ all_kept P read_one one ds b.0 b.1 x later
    ]

list_kept : {A : Type 0} (P : A → Type 0) (key : List ℕ) (read_one : Data → Result A SnapshotFault) → ((d : Data) (x : A) → read_one d ≡ Ok x → P x)
    → (members : Members) (xs : List A) → list_under key read_one members ≡ Ok xs → (x : A) → IsAmong x xs → P x
list_kept P key read_one one members xs e =
    let a = bind_ok (or_shape (option_and_then as_array (get_member key members))) (all_of read_one) xs e in
    all_kept P read_one one a.0 xs a.2

-- Numbers.

below_by : (limit m n : ℕ) (t : Bool) → nat_lt m limit ≡ t → or_shape (if t then Some m else None) ≡ Ok n → n < limit
below_by limit m n true is e = subst (λ k. k < limit) (ok_same m n e) (ltb-true m limit is)
below_by limit m n false is e = absurd (err_ok fault.Shape n e)

shape_below : (limit n : ℕ) (o : Option ℕ) → or_shape (option_and_then (below limit) o) ≡ Ok n → n < limit
shape_below limit n None e = absurd (err_ok fault.Shape n e)
shape_below limit n (Some m) e = below_by limit m n (nat_lt m limit) refl e

number_below : (place limit n : ℕ) (row : Items) → number_at place limit row ≡ Ok n → n < limit
number_below place limit n row e =
    let a = bind_ok (or_shape (get_item place row)) (whole_below limit) n e in
    shape_below limit n (option_and_then as_u64 (option_and_then as_number (Some a.0))) a.2

-- Places.

no_fault : {A : Type 0} (f : FpageFault) (b : A) → (let x : Result A FpageFault = Err f in x) ≡ Ok b → ⊥
no_fault f b e = cc

unless : (t : Bool) (f : FpageFault) (rest : Result Place FpageFault) (place : Place) → (if t then Err f else rest) ≡ Ok place
    → (t ≡ false) × (rest ≡ Ok place)
unless true f rest place e = absurd (no_fault f place e)
unless false f rest place e = (refl, e)

same_place : (a b : Place) → (let x : Result Place FpageFault = Ok a in x) ≡ Ok b → a ≡ b
same_place a b e = cc

order_within : (top limit address order : ℕ) (place : Place) → place_within top limit address order ≡ Ok place → place.order ≤ top
order_within top limit address order place e =
    let a = unless (nat_lt order least_order) TooSmall _ place e in
    let b = unless (nat_lt top order) TooLarge _ place a.1 in
    let c = unless (nat_le limit address) OutOfSpace _ place b.1 in
    let d = unless (not ((address % 2 ^ order) == 0)) Unaligned _ place c.1 in
    let same : order ≡ place.order = ap (λ (p : Place). p.order) (same_place (record { first_page = address / page_bytes; order = order }) place d.1) in
    subst (λ n. n ≤ top) same (ltb-false top order b.0)

or_page_ok : (value : Place → Op) (r : Result Place FpageFault) (op : Op) → or_page value r ≡ Ok op → (place : Place) × (r ≡ Ok place) × (value place ≡ op)
or_page_ok value (Ok place) op e = (place, refl, ok_same (value place) op e)
or_page_ok value (Err f) op e = absurd (err_ok (fault.Page f) op e)

-- the source begins below the bound, and the place is no larger than the space was
abbrev IsNear : Op → Type 0
IsNear (Born r) = (r.source < 2 ^ 20) × (r.place.order ≤ 32)
IsNear (Cut cut) = Unit {0}
IsNear (Closed space) = Unit {0}

-- so it is at each place that is no larger
abbrev StaysNear : Somewhere Op → Type 0
StaysNear one = (at : Place) → at.order ≤ 32 → IsNear (one.value at)

placed_near : (ones : List (Somewhere Op)) (ops : List Op) → placed_all narrow ones ≡ Ok ops → ((one : Somewhere Op) → IsAmong one ones → StaysNear one)
    → (op : Op) → IsAmong op ops → IsNear op
placed_near [] ops e near op among = absurd (subst (IsAmong op) (sym (ok_same [] ops e)) among)
placed_near (one ∷ rest) ops e near op among =
    let a = bind_ok (or_page one.value (place_within 32 (2 ^ 32) (one.place.page * page_bytes) one.place.order)) (λ first. placed_all narrow rest >>= (λ others. Ok (first ∷ others))) ops e in
    let b = bind_ok (placed_all narrow rest) (λ others. Ok (a.0 ∷ others)) ops a.2 in
    elim (subst (IsAmong op) (sym (ok_same (a.0 ∷ b.0) ops b.2)) among) [
      | inl same ↦
          let at = or_page_ok one.value (place_within 32 (2 ^ 32) (one.place.page * page_bytes) one.place.order) a.0 a.1 in
          subst IsNear (at.2 ∙ same) (near one (inl refl) at.0 (order_within 32 (2 ^ 32) (one.place.page * page_bytes) one.place.order at.0 at.1))
      | inr later ↦ placed_near rest b.0 b.1 (λ x k. near x (inr k)) op later
    ]

-- the steps of reading a record, from the last one up
abbrev record_as : RecordId → Space → Unplaced → RecordId → ℕ → Rights → Somewhere Op
record_as id space place parent source rights = record {
  place = place;
  value = λ at. Born (record { id = id; space = space; place = at; parent = parent; source = source; rights = rights });
}

abbrev rights_step : RecordId → Space → Unplaced → RecordId → ℕ → Items → Result (Somewhere Op) SnapshotFault
rights_step id space place parent source row = rights_read 8 row >>= (λ rights. Ok (record_as id space place parent source rights))

abbrev source_step : RecordId → Space → Unplaced → RecordId → Items → Result (Somewhere Op) SnapshotFault
source_step id space place parent row = number_at 7 (2 ^ 20 - 1 + 1) row >>= (λ source. rights_step id space place parent source row)

abbrev parent_step : RecordId → Space → Unplaced → Items → Result (Somewhere Op) SnapshotFault
parent_step id space place row = name_at 5 row >>= (λ parent. source_step id space place parent row)

abbrev place_step : RecordId → Space → Items → Result (Somewhere Op) SnapshotFault
place_step id space row = unplaced_at narrow 3 row >>= (λ place. parent_step id space place row)

abbrev space_step : RecordId → Items → Result (Somewhere Op) SnapshotFault
space_step id row = space_read_at narrow 2 row >>= (λ space. place_step id space row)

abbrev id_step : Items → Result (Somewhere Op) SnapshotFault
id_step row = name_at 0 row >>= (λ id. space_step id row)

record_near : (d : Data) (one : Somewhere Op) → record_read narrow d ≡ Ok one → StaysNear one
record_near d one e =
    let row = bind_ok (row_read 9 d) id_step one e in
    let id = bind_ok (name_at 0 row.0) (λ id. space_step id row.0) one row.2 in
    let space = bind_ok (space_read_at narrow 2 row.0) (λ space. place_step id.0 space row.0) one id.2 in
    let place = bind_ok (unplaced_at narrow 3 row.0) (λ place. parent_step id.0 space.0 place row.0) one space.2 in
    let parent = bind_ok (name_at 5 row.0) (λ parent. source_step id.0 space.0 place.0 parent row.0) one place.2 in
    let source = bind_ok (number_at 7 (2 ^ 20 - 1 + 1) row.0) (λ source. rights_step id.0 space.0 place.0 parent.0 source row.0) one parent.2 in
    let rights = bind_ok (rights_read 8 row.0) (λ rights. Ok (record_as id.0 space.0 place.0 parent.0 source.0 rights)) one source.2 in
    let small : source.0 < 2 ^ 20 = number_below 7 (2 ^ 20) source.0 row.0 source.1 in
    let near : StaysNear (record_as id.0 space.0 place.0 parent.0 source.0 rights.0) = λ at order. (small, order) in
    subst StaysNear (ok_same (record_as id.0 space.0 place.0 parent.0 source.0 rights.0) one rights.2) near

abbrev cut_as : RecordId → Unplaced → Rights → Somewhere Op
cut_as target place rights = record { place = place; value = λ at. Cut (record { target = target; part = at; rights = rights }) }

abbrev cut_place_step : RecordId → Items → Result (Somewhere Op) SnapshotFault
cut_place_step target row = unplaced_at narrow 2 row >>= (λ place. rights_read 4 row >>= (λ rights. Ok (cut_as target place rights)))

cut_near : (d : Data) (one : Somewhere Op) → cut_of narrow d ≡ Ok one → StaysNear one
cut_near d one e =
    let row = bind_ok (row_read 5 d) (λ row. name_at 0 row >>= (λ target. cut_place_step target row)) one e in
    let target = bind_ok (name_at 0 row.0) (λ target. cut_place_step target row.0) one row.2 in
    let place = bind_ok (unplaced_at narrow 2 row.0) (λ place. rights_read 4 row.0 >>= (λ rights. Ok (cut_as target.0 place rights))) one target.2 in
    let rights = bind_ok (rights_read 4 row.0) (λ rights. Ok (cut_as target.0 place.0 rights)) one place.2 in
    let near : StaysNear (cut_as target.0 place.0 rights.0) = λ at order. tt in
    subst StaysNear (ok_same (cut_as target.0 place.0 rights.0) one rights.2) near

end_near : (d : Data) (op : Op) → end_read narrow d ≡ Ok op → IsNear op
end_near d op e =
    let space = bind_ok (space_read narrow d) (λ space. Ok (Closed space)) op e in
    let near : IsNear (Closed space.0) = tt in
    subst IsNear (ok_same (Closed space.0) op space.2) near

among_split : {X : Type 0} (x : X) (xs ys : List X) → IsAmong x (xs ++ ys) → IsAmong x xs ⊎ IsAmong x ys
among_split x [] ys h = inr h
among_split x (y ∷ xs) ys (inl same) = inl (inl same)
among_split x (y ∷ xs) ys (inr later) = elim (among_split x xs ys later) [ inl a ↦ inl (inr a) | inr b ↦ inr b ]

-- the steps of reading the lists, from the last one up
abbrev cut_step : List (Somewhere Op) → List Op → List Op → Result (List Op) SnapshotFault
cut_step cuts ends born = placed_all narrow cuts >>= (λ cut. Ok (born ++ cut ++ ends))

abbrev born_step : List (Somewhere Op) → List Op → List (Somewhere Op) → Result (List Op) SnapshotFault
born_step cuts ends records = placed_all narrow records >>= (λ born. cut_step cuts ends born)

abbrev records_step : Members → List (Somewhere Op) → List Op → Result (List Op) SnapshotFault
records_step members cuts ends = list_under (codes "records") (record_read narrow) members >>= (λ records. born_step cuts ends records)

abbrev ends_step : Members → List (Somewhere Op) → Result (List Op) SnapshotFault
ends_step members cuts = list_under (codes "ended") (end_read narrow) members >>= (λ ends. records_step members cuts ends)

lists_near : (members : Members) (ops : List Op) → form_lists narrow members ≡ Ok ops → (op : Op) → IsAmong op ops → IsNear op
lists_near members ops e op among =
    let cuts = bind_ok (list_under (codes "cuts") (cut_of narrow) members) (λ cuts. ends_step members cuts) ops e in
    let ends = bind_ok (list_under (codes "ended") (end_read narrow) members) (λ ends. records_step members cuts.0 ends) ops cuts.2 in
    let records = bind_ok (list_under (codes "records") (record_read narrow) members) (λ records. born_step cuts.0 ends.0 records) ops ends.2 in
    let born = bind_ok (placed_all narrow records.0) (λ born. cut_step cuts.0 ends.0 born) ops records.2 in
    let cut = bind_ok (placed_all narrow cuts.0) (λ cut. Ok (born.0 ++ cut ++ ends.0)) ops born.2 in
    elim (among_split op (born.0 ++ cut.0) ends.0 (subst (IsAmong op) (sym (ok_same (born.0 ++ cut.0 ++ ends.0) ops cut.2)) among)) [
      | inl placed ↦ elim (among_split op born.0 cut.0 placed) [
        | inl here ↦ placed_near records.0 born.0 born.1 (list_kept StaysNear (codes "records") (record_read narrow) record_near members records.0 records.1) op here
        | inr here ↦ placed_near cuts.0 cut.0 cut.1 (list_kept StaysNear (codes "cuts") (cut_of narrow) cut_near members cuts.0 cuts.1) op here
      ]
      | inr here ↦ list_kept IsNear (codes "ended") (end_read narrow) end_near members ends.0 ends.1 op here
    ]

counted : (t : Bool) (members : Members) (ops : List Op) → (if t then form_lists narrow members else Err fault.Shape) ≡ Ok ops → form_lists narrow members ≡ Ok ops
counted true found ops e = e
counted false found ops e = absurd (err_ok fault.Shape ops e)

data_near : (o : Option Data) (ops : List Op) → version_by o ≡ Ok NARROW_VERSION → or_not_json o ≡ Ok ops → (op : Op) → IsAmong op ops → IsNear op
data_near None ops version e = absurd (err_ok fault.NotJson ops e)
data_near (Some d) ops version e =
    let members = bind_ok (or_shape (as_object d)) (λ members. version_of members >>= (λ v. read_as (form_of v) members)) ops e in
    let same = bind_ok (or_shape (as_object d)) version_of NARROW_VERSION version in
    let one : same.0 ≡ members.0 = ok_same same.0 members.0 (sym same.1 ∙ members.1) in
    let number = bind_ok (version_of members.0) (λ v. read_as (form_of v) members.0) ops members.2 in
    let is : number.0 ≡ NARROW_VERSION = ok_same number.0 NARROW_VERSION (sym number.1 ∙ sym (ap version_of one) ∙ same.2) in
    let lists : read_as (form_of NARROW_VERSION) members.0 ≡ Ok ops = subst (λ v. read_as (form_of v) members.0 ≡ Ok ops) is number.2 in
    lists_near members.0 ops (counted (members_count members.0 == 4) members.0 ops lists)

text_near : (bytes : List ℕ) (t : Bool) (ops : List Op) → (if t then version_by (read bytes) else Err fault.NotJson) ≡ Ok NARROW_VERSION
    → (if t then or_not_json (read bytes) else Err fault.NotJson) ≡ Ok ops → (op : Op) → IsAmong op ops → IsNear op
text_near bytes true ops version e = data_near (read bytes) ops version e
text_near bytes false ops version e = absurd (err_ok fault.NotJson ops e)

-- Sources.

narrow_fits : (order source : ℕ) → order ≤ 32 → source % 2 ^ (order - 12) ≡ 0 → source < 2 ^ 20 → source + 2 ^ (order - 12) ≤ 2 ^ 20
narrow_fits order source most whole below =
    let split : 2 ^ ((order - 12) + (20 - (order - 12))) ≡ 2 ^ (order - 12) * 2 ^ (20 - (order - 12)) = pow-add 2 (order - 12) (20 - (order - 12)) in
    let twenty : (order - 12) + (20 - (order - 12)) ≡ 20 = omega arith in
    let all : 2 ^ 20 ≡ 2 ^ (order - 12) * 2 ^ (20 - (order - 12)) = sym (ap (λ k. 2 ^ k) twenty) ∙ split in
    subst (λ limit. source + 2 ^ (order - 12) ≤ limit) (sym all)
    (fits_multiple (2 ^ (order - 12)) (2 ^ (20 - (order - 12))) source whole (subst (λ limit. source < limit) all below))

some_same : (a b : Record) → Some a ≡ Some b → a ≡ b
some_same a b e = cc

none_some : (a : Record) → None ≡ Some a → ⊥
none_some a e = cc

-- a record that is held is one of the operations
held_by : (s r : Record) (rest : Option Record) (t : Bool) → first_of (if t then Some s else None) rest ≡ Some r → (s ≡ r) ⊎ (rest ≡ Some r)
held_by s r rest true e = inl (some_same s r e)
held_by s r rest false e = inr e

held_among : (ops : List Op) (id : RecordId) (r : Record) → (state_of ops).record_at id ≡ Some r → IsAmong (Born r) ops
held_among [] id r e = absurd (none_some r e)
held_among (Born s ∷ ops) id r e = elim (held_by s r ((state_of ops).record_at id) (same_id s.id id) e) [
  | inl same ↦ inl (ap Born same)
  | inr later ↦ inr (held_among ops id r later)
]
held_among (Cut cut ∷ ops) id r e = inr (held_among ops id r e)
held_among (Closed space ∷ ops) id r e = inr (held_among ops id r e)

pub narrow_texts_agree : NarrowTextsAgree
narrow_texts_agree bytes ops version said formed sound =
    narrow_is_enough (2 ^ 20) (state_of ops) (omega arith) (λ id r held.
    let among = held_among ops id r held in
    let near : (r.source < 2 ^ 20) × (r.place.order ≤ 32) = text_near bytes (is_utf8 bytes) ops version said (Born r) among in
    let is : IsFormedRecord r = formed_record r (formed_among ops formed (Born r) among) in
    narrow_fits r.place.order r.source near.1 is.aligned near.0)
