-- A snapshot of sound operations as JSON, read again, has their atoms.
use Rattle.std.proofs.Common.{◌≡◌, ℕ, zero, suc, true, refl, sym, subst, List, [], ◌∷◌, ◌++◌, map, Ok, inl, inr, arith}
use Rattle.std.specs.Prelude.{◌⊎◌, ◌↔◌, All}
use Rattle.mapdb_fpage.specs.declared.right_sets.Right.{Right}
use Rattle.mapdb_facts.specs.Records.{IsAmong, records_of}
use Rattle.mapdb_facts.specs.State.{Atom, End, HasAtom, IsSound, Rec, Rev, SameAtoms, state_of}
use Rattle.mapdb_facts.specs.Values.{IsSpace}
use Rattle.mapdb_facts.specs.WellFormed.{all_formed, is_formed}
use Rattle.mapdb_facts.specs.declared.names.RecordId.{RecordId}
use Rattle.mapdb_facts.specs.declared.names.Space.{Space}
use Rattle.mapdb_facts.specs.declared.operations.Op.{Op}
use Rattle.mapdb_facts.specs.declared.operations.Op.TheVariants.{Born, Closed, Cut}
use Rattle.mapdb_facts.specs.declared.operations.Record.{Record}
use Rattle.mapdb_facts.specs.declared.operations.Revocation.{Revocation}
use Rattle.mapdb_facts.proofs.RecordLemmas.Ascending.{found_listed, listed_found}
use Rattle.mapdb_facts.proofs.Maps.Atoms.{atom_held, atom_kept}
use Rattle.mapdb_facts.proofs.States.Formed.{formed_record}
use Rattle.std.proofs.lemmas.Bool.{and_parts}
use Rattle.mapdb_facts.proofs.States.Joins.{atom_append, atom_left, atom_right}
use Rattle.mapdb_snapshot.specs.ComingBack.{FitsRow, IsRevocation, IsOp, IsSaved}
use Rattle.mapdb_snapshot.specs.Cutting.{cut_names, cuts_of}
use Rattle.mapdb_snapshot.specs.Laws.{ComesBack}
use Rattle.mapdb_snapshot.specs.Reading.{operations_of}
use Rattle.mapdb_snapshot.specs.Snapshot.{ended_of, snapshot_data}
use Rattle.mapdb_snapshot.proofs.Places.CutsComeBack.{atom_of_take, names_stand, names_take, names_take_only, take_of_atom}
use Rattle.mapdb_snapshot.proofs.Json.ListsComeBack.{object_back}
use Rattle.mapdb_snapshot.proofs.Names.NamesComeBack.{atom_ended, ended_atom, name_fits, revoked_named}

-- what holds of each value of a list holds of one of them
pub all_among : {X : Type 0} (P : X → Type 0) (xs : List X) → All P xs → (x : X) → IsAmong x xs → P x
all_among P [] all x among = absurd among
all_among P (first ∷ xs) all x (inl same) = subst P same (all zero first (omega arith))
all_among P (first ∷ xs) all x (inr later) = all_among P xs (λ k d within. all (suc k) d (omega (arith, within))) x later

pub formed_among : (ops : List Op) → all_formed ops ≡ true → (op : Op) → IsAmong op ops → is_formed op ≡ true
formed_among [] formed op among = absurd among
formed_among (first ∷ ops) formed op (inl same) = subst (λ (x : Op). is_formed x ≡ true) same (and_parts (is_formed first) (all_formed ops) formed).0
formed_among (first ∷ ops) formed op (inr later) = formed_among ops (and_parts (is_formed first) (all_formed ops) formed).1 op later

written_one : (op : Op) → is_formed op ≡ true → IsOp op → IsSaved op
written_one (Born r) formed is = record { is = is; near = (formed_record r formed).in_space }
written_one (Cut cut) formed is = is
written_one (Closed space) formed is = is

-- well-formed operations that a program can have are written and read again
pub all_written : (ops : List Op) → all_formed ops ≡ true → All IsOp ops → (op : Op) → IsAmong op ops → IsSaved op
all_written ops formed all op among = written_one op (formed_among ops formed op among) (all_among IsOp ops all op among)

-- an atom that is a record is one of the list
record_among : (ops : List Op) (r : Record) → HasAtom ops (Rec r) → IsAmong (Born r) ops
record_among [] r h = h
record_among (Born s ∷ ops) r (inl same) = inl (subst (λ (x : Record). Born s ≡ Born x) same refl)
record_among (Born s ∷ ops) r (inr later) = inr (record_among ops r later)
record_among (Cut cut ∷ ops) r (inl h) = absurd h
record_among (Cut cut ∷ ops) r (inr later) = inr (record_among ops r later)
record_among (Closed space ∷ ops) r (inl h) = absurd h
record_among (Closed space ∷ ops) r (inr later) = inr (record_among ops r later)

end_among : (ops : List Op) (space : Space) → HasAtom ops (End space) → IsAmong (Closed space) ops
end_among [] space h = h
end_among (Born r ∷ ops) space (inl h) = absurd h
end_among (Born r ∷ ops) space (inr later) = inr (end_among ops space later)
end_among (Cut cut ∷ ops) space (inl h) = absurd h
end_among (Cut cut ∷ ops) space (inr later) = inr (end_among ops space later)
end_among (Closed other ∷ ops) space (inl same) = inl (subst (λ (x : Space). Closed other ≡ Closed x) same refl)
end_among (Closed other ∷ ops) space (inr later) = inr (end_among ops space later)

-- the atoms of records alone
records_atoms : (records : List Record) (r : Record) → HasAtom (map Born records) (Rec r) ↔ IsAmong r records
records_atoms records r = (forth records, back records)
  where
    forth : (xs : List Record) → HasAtom (map Born xs) (Rec r) → IsAmong r xs
    forth [] h = h
    forth (x ∷ xs) (inl h) = inl h
    forth (x ∷ xs) (inr h) = inr (forth xs h)

    back : (xs : List Record) → IsAmong r xs → HasAtom (map Born xs) (Rec r)
    back [] h = h
    back (x ∷ xs) (inl h) = inl h
    back (x ∷ xs) (inr h) = inr (back xs h)

-- the atoms of ends alone
ends_atoms : (ended : List Space) (space : Space) → HasAtom (map Closed ended) (End space) ↔ IsAmong space ended
ends_atoms ended space = (forth ended, back ended)
  where
    forth : (xs : List Space) → HasAtom (map Closed xs) (End space) → IsAmong space xs
    forth [] h = h
    forth (x ∷ xs) (inl h) = inl h
    forth (x ∷ xs) (inr h) = inr (forth xs h)

    back : (xs : List Space) → IsAmong space xs → HasAtom (map Closed xs) (End space)
    back [] h = h
    back (x ∷ xs) (inl h) = inl h
    back (x ∷ xs) (inr h) = inr (back xs h)

-- no other atoms
record_of_cuts : (cuts : List Revocation) (r : Record) → HasAtom (map Cut cuts) (Rec r) → ⊥
record_of_cuts [] r h = h
record_of_cuts (cut ∷ cuts) r (inl h) = h
record_of_cuts (cut ∷ cuts) r (inr h) = record_of_cuts cuts r h

record_of_ends : (ended : List Space) (r : Record) → HasAtom (map Closed ended) (Rec r) → ⊥
record_of_ends [] r h = h
record_of_ends (space ∷ ended) r (inl h) = h
record_of_ends (space ∷ ended) r (inr h) = record_of_ends ended r h

cut_of_records : (records : List Record) (id : RecordId) (page : ℕ) (right : Right) → HasAtom (map Born records) (Rev id page right) → ⊥
cut_of_records [] id page right h = h
cut_of_records (r ∷ records) id page right (inl h) = h
cut_of_records (r ∷ records) id page right (inr h) = cut_of_records records id page right h

cut_of_ends : (ended : List Space) (id : RecordId) (page : ℕ) (right : Right) → HasAtom (map Closed ended) (Rev id page right) → ⊥
cut_of_ends [] id page right h = h
cut_of_ends (space ∷ ended) id page right (inl h) = h
cut_of_ends (space ∷ ended) id page right (inr h) = cut_of_ends ended id page right h

end_of_records : (records : List Record) (space : Space) → HasAtom (map Born records) (End space) → ⊥
end_of_records [] space h = h
end_of_records (r ∷ records) space (inl h) = h
end_of_records (r ∷ records) space (inr h) = end_of_records records space h

end_of_cuts : (cuts : List Revocation) (space : Space) → HasAtom (map Cut cuts) (End space) → ⊥
end_of_cuts [] space h = h
end_of_cuts (cut ∷ cuts) space (inl h) = h
end_of_cuts (cut ∷ cuts) space (inr h) = end_of_cuts cuts space h

-- what is read of a snapshot
abbrev pub read_back : List Op → List Op
read_back ops = map Born (records_of ops) ++ map Cut (cuts_of ops) ++ map Closed (ended_of ops)

-- an atom of what is read is a record's or a revocation's, or an end's
atom_parts : (ops : List Op) (atom : Atom) → HasAtom (read_back ops) atom
    → (HasAtom (map Born (records_of ops)) atom ⊎ HasAtom (map Cut (cuts_of ops)) atom) ⊎ HasAtom (map Closed (ended_of ops)) atom
atom_parts ops atom h = elim (atom_append (map Born (records_of ops) ++ map Cut (cuts_of ops)) (map Closed (ended_of ops)) atom h) [
  | inl before ↦ inl (atom_append (map Born (records_of ops)) (map Cut (cuts_of ops)) atom before)
  | inr end ↦ inr end
]

atom_of_records : (ops : List Op) (atom : Atom) → HasAtom (map Born (records_of ops)) atom → HasAtom (read_back ops) atom
atom_of_records ops atom h = atom_left (map Born (records_of ops) ++ map Cut (cuts_of ops)) (map Closed (ended_of ops)) atom
    (atom_left (map Born (records_of ops)) (map Cut (cuts_of ops)) atom h)

atom_of_cuts : (ops : List Op) (atom : Atom) → HasAtom (map Cut (cuts_of ops)) atom → HasAtom (read_back ops) atom
atom_of_cuts ops atom h = atom_left (map Born (records_of ops) ++ map Cut (cuts_of ops)) (map Closed (ended_of ops)) atom
    (atom_right (map Born (records_of ops)) (map Cut (cuts_of ops)) atom h)

atom_of_ends : (ops : List Op) (atom : Atom) → HasAtom (map Closed (ended_of ops)) atom → HasAtom (read_back ops) atom
atom_of_ends ops atom h = atom_right (map Born (records_of ops) ++ map Cut (cuts_of ops)) (map Closed (ended_of ops)) atom h

-- each atom that is read was there
back_only : (ops : List Op) (atom : Atom) → HasAtom (read_back ops) atom → HasAtom ops atom
back_only ops (Rec r) h = elim (atom_parts ops (Rec r) h) [
  | inl (inl born) ↦ atom_held ops (Rec r) (listed_found ops r ((records_atoms (records_of ops) r).0 born))
  | inl (inr cut) ↦ absurd (record_of_cuts (cuts_of ops) r cut)
  | inr end ↦ absurd (record_of_ends (ended_of ops) r end)
]
back_only ops (Rev id page right) h = elim (atom_parts ops (Rev id page right) h) [
  | inl (inl born) ↦ absurd (cut_of_records (records_of ops) id page right born)
  | inl (inr cut) ↦ atom_held ops (Rev id page right)
      (names_take_only (state_of ops) (cut_names ops) id page right (take_of_atom (cuts_of ops) id page right cut))
  | inr end ↦ absurd (cut_of_ends (ended_of ops) id page right end)
]
back_only ops (End space) h = elim (atom_parts ops (End space) h) [
  | inl (inl born) ↦ absurd (end_of_records (records_of ops) space born)
  | inl (inr cut) ↦ absurd (end_of_cuts (cuts_of ops) space cut)
  | inr end ↦ ended_atom ops space ((ends_atoms (ended_of ops) space).0 end)
]

-- each atom that was there is read
back_all : (ops : List Op) → IsSound ops → ((op : Op) → IsAmong op ops → IsSaved op) → (atom : Atom) → HasAtom ops atom
    → HasAtom (read_back ops) atom
back_all ops sound fits (Rec r) h =
    atom_of_records ops (Rec r) ((records_atoms (records_of ops) r).1 (found_listed ops r.id r (atom_kept ops (Rec r) sound h)).0)
back_all ops sound fits (Rev id page right) h =
    let is = atom_kept ops (Rev id page right) sound h in
    let named = revoked_named ops id page right fits is in
    atom_of_cuts ops (Rev id page right)
    (atom_of_take (cuts_of ops) id page right (names_take (state_of ops) (cut_names ops) id page right named.0 named.1 is))
back_all ops sound fits (End space) h = atom_of_ends ops (End space) ((ends_atoms (ended_of ops) space).1 (atom_ended ops space h))

-- what is read of a snapshot has the same atoms
pub same_atoms_back : (ops : List Op) → IsSound ops → ((op : Op) → IsAmong op ops → IsSaved op) → SameAtoms (read_back ops) ops
same_atoms_back ops sound fits atom = (back_only ops atom, back_all ops sound fits atom)

-- what is written is such that a program can have it
pub written_cut : (ops : List Op) → ((op : Op) → IsAmong op ops → IsSaved op) → (cut : Revocation) → IsAmong cut (cuts_of ops)
    → IsRevocation cut
written_cut ops fits cut among =
    let found = names_stand (state_of ops) (cut_names ops) cut among in
    record { target = name_fits ops cut.target fits found.0; part = found.1 }

pub written_space : (ops : List Op) → ((op : Op) → IsAmong op ops → IsSaved op) → (space : Space) → IsAmong space (ended_of ops)
    → IsSpace space
written_space ops fits space among = fits (Closed space) (end_among ops space (ended_atom ops space among))

pub written_record : (ops : List Op) → ((op : Op) → IsAmong op ops → IsSaved op) → (r : Record) → IsAmong r (records_of ops) → FitsRow r
written_record ops fits r among = fits (Born r) (record_among ops r (atom_held ops (Rec r) (listed_found ops r among)))

-- what a snapshot says is read again
pub data_back : (ops : List Op) → ((op : Op) → IsAmong op ops → IsSaved op) → operations_of (snapshot_data ops) ≡ Ok (read_back ops)
data_back ops fits =
    object_back (cuts_of ops) (ended_of ops) (records_of ops) (written_cut ops fits) (written_space ops fits) (written_record ops fits)

pub data_comes_back : (ops : List Op) → IsSound ops → all_formed ops ≡ true → All IsOp ops → ComesBack ops (operations_of (snapshot_data ops))
data_comes_back ops sound formed all =
    let fits = all_written ops formed all in
    subst (ComesBack ops) (sym (data_back ops fits)) (same_atoms_back ops sound fits)
