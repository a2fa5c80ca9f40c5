-- Lists with the same atoms make the same state.
use Rattle.std.proofs.Common.{◌≡◌, ℕ, true, Some, refl, sym, ap, subst, ◌∙◌, List, [], ◌∷◌, inl, inr}
use Rattle.std.specs.Prelude.{◌⊎◌, Option, None}
use Rattle.std.proofs.lemmas.Bool.{or_cases, cases_Bool, cond-true, cond-false, false≢true, or_right, or_left}
use Rattle.mapdb_facts.specs.declared.operations.Op.{Op}
use Rattle.mapdb_facts.specs.declared.operations.Op.TheVariants.{Born, Cut, Closed}
use Rattle.mapdb_facts.specs.declared.names.RecordId.{RecordId}
use Rattle.mapdb_facts.specs.declared.operations.Record.{Record}
use Rattle.mapdb_fpage.specs.declared.right_sets.Right.{Right}
use Rattle.mapdb_facts.specs.declared.names.Space.{Space}
use Rattle.mapdb_facts.specs.Names.{same_id, same_space}
use Rattle.mapdb_facts.specs.State.{Atom, Rec, Rev, End, State, said, first_of, state_of, cuts, Has, Gives, HasAtom, SameAtoms, IsSound, Covers}
use Rattle.mapdb_facts.proofs.Lists.SameNames.{same_id_true, same_id_at, same_space_true, same_space_itself, some_same, none_some}
use Rattle.mapdb_fpage.proofs.Booleans.{same_test}

-- two states with the same look-ups are one
pub same_state : (S T : State) → ((id : RecordId) → S.record_at id ≡ T.record_at id) → ((id : RecordId) (page : ℕ) (right : Right) → S.is_cut id page right ≡ T.is_cut id page right) → ((space : Space) → S.is_ended space ≡ T.is_ended space) → S ≡ T
same_state S T records cuts ends = λ i. record {
  record_at = λ id. records id i;
  is_cut = λ id page right. cuts id page right i;
  is_ended = λ space. ends space i;
}

-- one operation says what it gives
said_from : (op : Op) (atom : Atom) → Gives op atom → Has (said op) atom
said_from (Born r) (Rec s) h = cond-true (same_id r.id s.id) (Some r) None (same_id_at r.id s.id (ap (λ (x : Record). x.id) h)) ∙ ap Some h
said_from (Born r) (Rev id page right) h = absurd h
said_from (Born r) (End space) h = absurd h
said_from (Cut cut) (Rec s) h = absurd h
said_from (Cut cut) (Rev id page right) h = h
said_from (Cut cut) (End space) h = absurd h
said_from (Closed space) (Rec s) h = absurd h
said_from (Closed space) (Rev id page right) h = absurd h
said_from (Closed space) (End other) h = subst (λ (x : Space). same_space space x ≡ true) h (same_space_itself space)

-- what an operation says of a name is its record
pub said_record : (op : Op) (id : RecordId) (r : Record) → (said op).record_at id ≡ Some r → Gives op (Rec r) × (r.id ≡ id)
said_record (Born s) id r h =
    elim (cases_Bool (same_id s.id id)) [
      | inl hit ↦
          let same : s ≡ r = some_same s r (sym (cond-true (same_id s.id id) (Some s) None hit) ∙ h) in
          (same, ap (λ (x : Record). x.id) (sym same) ∙ same_id_true s.id id hit)
      | inr miss ↦ absurd (none_some r (sym (cond-false (same_id s.id id) (Some s) None miss) ∙ h))
    ]
said_record (Cut cut) id r h = absurd (none_some r h)
said_record (Closed space) id r h = absurd (none_some r h)

pub first_of_cases : (a b : Option Record) (r : Record) → first_of a b ≡ Some r → (a ≡ Some r) ⊎ (b ≡ Some r)
first_of_cases (Some s) b r h = inl h
first_of_cases None b r h = inr h

-- a record that is looked up is an atom, under its own name
pub record_held : (ops : List Op) (id : RecordId) (r : Record) → (state_of ops).record_at id ≡ Some r → HasAtom ops (Rec r) × (r.id ≡ id)
record_held [] id r h = absurd (none_some r h)
record_held (op ∷ ops) id r h =
    elim (first_of_cases ((said op).record_at id) ((state_of ops).record_at id) r h) [
      | inl here ↦ let found = said_record op id r here in (inl found.0, found.1)
      | inr later ↦ let found = record_held ops id r later in (inr found.0, found.1)
    ]

-- each atom that the state has is one of the list
pub atom_held : (ops : List Op) (atom : Atom) → Has (state_of ops) atom → HasAtom ops atom
atom_held ops (Rec r) h = (record_held ops r.id r h).0
atom_held [] (Rev id page right) h = absurd (false≢true h)
atom_held (Born r ∷ ops) (Rev id page right) h = inr (atom_held ops (Rev id page right) h)
atom_held (Cut cut ∷ ops) (Rev id page right) h =
    elim (or_cases (cuts cut id page right) ((state_of ops).is_cut id page right) h) [
      | inl here ↦ inl here
      | inr later ↦ inr (atom_held ops (Rev id page right) later)
    ]
atom_held (Closed space ∷ ops) (Rev id page right) h = inr (atom_held ops (Rev id page right) h)
atom_held [] (End space) h = absurd (false≢true h)
atom_held (Born r ∷ ops) (End space) h = inr (atom_held ops (End space) h)
atom_held (Cut cut ∷ ops) (End space) h = inr (atom_held ops (End space) h)
atom_held (Closed other ∷ ops) (End space) h =
    elim (or_cases (same_space other space) ((state_of ops).is_ended space) h) [
      | inl here ↦ inl (same_space_true other space here)
      | inr later ↦ inr (atom_held ops (End space) later)
    ]

sound_tail : (op : Op) (ops : List Op) → IsSound (op ∷ ops) → IsSound ops
sound_tail op ops sound r s in_r in_s = sound r s (inr in_r) (inr in_s)

first_of_found : (a b : Option Record) (r : Record) → ((s : Record) → a ≡ Some s → s ≡ r) → b ≡ Some r → first_of a b ≡ Some r
first_of_found (Some s) b r same h = ap Some (same s refl)
first_of_found None b r same h = h

pub first_of_here : (a b : Option Record) (r : Record) → a ≡ Some r → first_of a b ≡ Some r
first_of_here (Some s) b r h = h
first_of_here None b r h = absurd (none_some r h)

-- each atom of a sound list is one of its state
pub atom_kept : (ops : List Op) (atom : Atom) → IsSound ops → HasAtom ops atom → Has (state_of ops) atom
atom_kept [] atom sound h = absurd h
atom_kept (op ∷ ops) (Rec r) sound (inl here) = first_of_here ((said op).record_at r.id) ((state_of ops).record_at r.id) r (said_from op (Rec r) here)
atom_kept (op ∷ ops) (Rec r) sound (inr later) =
    first_of_found ((said op).record_at r.id) ((state_of ops).record_at r.id) r
    (λ s e. let found = said_record op r.id s e in sound s r (inl found.0) (inr later) found.1)
    (atom_kept ops (Rec r) (sound_tail op ops sound) later)
atom_kept (op ∷ ops) (Rev id page right) sound (inl here) = or_left ((said op).is_cut id page right) ((state_of ops).is_cut id page right) (said_from op (Rev id page right) here)
atom_kept (op ∷ ops) (Rev id page right) sound (inr later) = or_right ((said op).is_cut id page right) ((state_of ops).is_cut id page right) (atom_kept ops (Rev id page right) (sound_tail op ops sound) later)
atom_kept (op ∷ ops) (End space) sound (inl here) = or_left ((said op).is_ended space) ((state_of ops).is_ended space) (said_from op (End space) here)
atom_kept (op ∷ ops) (End space) sound (inr later) = or_right ((said op).is_ended space) ((state_of ops).is_ended space) (atom_kept ops (End space) (sound_tail op ops sound) later)

pub same_find : (a b : Option Record) → ((r : Record) → a ≡ Some r → b ≡ Some r) → ((r : Record) → b ≡ Some r → a ≡ Some r) → a ≡ b
same_find (Some r) b to from = sym (to r refl)
same_find None (Some r) to from = from r refl
same_find None None to from = refl

sound_with : (xs ys : List Op) → SameAtoms xs ys → IsSound xs → IsSound ys
sound_with xs ys same sound r s in_r in_s = sound r s ((same (Rec r)).1 in_r) ((same (Rec s)).1 in_s)

-- a look-up of one list is that of another which has its atoms
found_with : (xs ys : List Op) → IsSound ys → Covers ys xs → (id : RecordId) (r : Record) → (state_of xs).record_at id ≡ Some r → (state_of ys).record_at id ≡ Some r
found_with xs ys sound covers id r h =
    let found = record_held xs id r h in
    subst (λ (x : RecordId). (state_of ys).record_at x ≡ Some r) found.1 (atom_kept ys (Rec r) sound (covers (Rec r) found.0))

pub state_of_same_atoms : (xs ys : List Op) → IsSound xs → SameAtoms xs ys → state_of xs ≡ state_of ys
state_of_same_atoms xs ys sound same =
    let sound_ys = sound_with xs ys same sound in
    same_state (state_of xs) (state_of ys)
    (λ id. same_find _ _ (found_with xs ys sound_ys (λ atom. (same atom).0) id) (found_with ys xs sound (λ atom. (same atom).1) id))
    (λ id page right. same_test _ _
    (λ h. atom_kept ys (Rev id page right) sound_ys ((same (Rev id page right)).0 (atom_held xs (Rev id page right) h)))
    (λ h. atom_kept xs (Rev id page right) sound ((same (Rev id page right)).1 (atom_held ys (Rev id page right) h))))
    (λ space. same_test _ _
    (λ h. atom_kept ys (End space) sound_ys ((same (End space)).0 (atom_held xs (End space) h)))
    (λ h. atom_kept xs (End space) sound ((same (End space)).1 (atom_held ys (End space) h))))
