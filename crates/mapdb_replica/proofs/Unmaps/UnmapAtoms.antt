-- What the revocations that an Unmap may issue take.
use Rattle.std.proofs.Common.{◌≡◌, ℕ, Bool, true, false, Some, refl, sym, subst, ◌∙◌, List, [], ◌∷◌, inl, inr}
use Rattle.std.specs.Prelude.{◌⊎◌, Option, None, if◌then◌else◌}
use Rattle.std.specs.List.{filter_map, flat_map}
use Rattle.std.proofs.lemmas.Bool.{and_from, false≢true}
use Rattle.mapdb_fpage.specs.Place.{IsPlace, Place, holds, meet, moved}
use Rattle.mapdb_fpage.specs.RightSets.{includes, is_empty}
use Rattle.mapdb_fpage.specs.declared.right_sets.Right.{Right}
use Rattle.mapdb_fpage.specs.declared.right_sets.Rights.{Rights}
use Rattle.mapdb_facts.proofs.Lists.Among.{among_append}
use Rattle.mapdb_facts.proofs.States.Joins.{atom_append, atom_left, atom_right}
use Rattle.mapdb_facts.specs.Names.{same_id}
use Rattle.mapdb_facts.specs.Records.{IsAmong, records_of}
use Rattle.mapdb_facts.specs.State.{Atom, Gives, HasAtom, IsSound, Rec, Rev, state_of}
use Rattle.mapdb_facts.specs.declared.names.RecordId.{RecordId}
use Rattle.mapdb_facts.specs.declared.names.Space.{Space}
use Rattle.mapdb_facts.specs.declared.operations.Op.{Op}
use Rattle.mapdb_facts.specs.declared.operations.Op.TheVariants.{Cut}
use Rattle.mapdb_facts.specs.declared.operations.Record.{Record}
use Rattle.mapdb_facts.specs.declared.operations.Revocation.{Revocation}
use Rattle.mapdb_replica.specs.Issue.{holders}
use Rattle.mapdb_replica.specs.Unmap.{child_cut, child_cut_with, cuts_within, holder_cuts, unmap_candidates}
use Rattle.mapdb_replica.specs.declared.pieces.Holder.{Holder}
use Rattle.mapdb_rights.specs.Meeting.{source_place}
use Rattle.mapdb_rights.specs.Right.{source_page}
use Rattle.mapdb_replica.proofs.Maps.HolderLists.{held_holder, holder_held}
use Rattle.mapdb_replica.proofs.Copies.AtomLists.{among_filter_map, atom_flat_map, atom_of, flat_map_atom}
use Rattle.mapdb_replica.proofs.Unmaps.SharedPlaces.{place_at-place, share, shared}
use Rattle.mapdb_fpage.proofs.RightLemmas.{some_here}
use Rattle.mapdb_replica.proofs.Copies.OpForms.{IsFormed}
use Rattle.mapdb_replica.proofs.Unmaps.TakenPages.{IsOfChild, IsOfHolder, IsTakenAt, child_taken, no_op, own_taken, same_op, take_child, take_of}

module _ (ops : List Op) (kept : IsFormed ops) (space : Space) (part : Place) (place_part : IsPlace part) (rights : Rights) (flush : Bool) where
  within_taken : (holder : Holder) (o : Option Place) (id : RecordId) (page : ℕ) (right : Right) → IsPlace holder.place → meet holder.place part ≡ o
      → HasAtom (cuts_within (records_of ops) rights flush holder.id o) (Rev id page right)
      → (includes rights right ≡ true) × (((r : Record) × IsOfChild (state_of ops) part id page holder r) ⊎ IsOfHolder part flush id page holder)
  within_taken holder None id page right place e h = absurd h
  within_taken holder (Some both) id page right place e h =
      elim (atom_append (filter_map (child_cut both rights holder.id) (records_of ops))
      (if flush then Cut (record { target = holder.id; part = both; rights = rights }) ∷ [] else []) (Rev id page right) h) [
        | inl children ↦
            let found = atom_of (filter_map (child_cut both rights holder.id) (records_of ops)) (Rev id page right) children in
            let from = among_filter_map (child_cut both rights holder.id) (records_of ops) found.0 found.1 in
            let taken = child_taken ops kept part place_part rights holder place both e from.0 found.0 id page right from.1 from.2 found.2 in
            (taken.0, inl (from.0, taken.1))
        | inr own ↦
            let taken = own_taken ops part both rights flush flush holder id page right refl
            (shared holder.place part both place place_part e).both own in
            (taken.0, inr taken.1)
      ]

  take_within : (holder : Holder) (o : Option Place) (id : RecordId) (page : ℕ) (right : Right) → IsPlace holder.place → meet holder.place part ≡ o
      → includes rights right ≡ true
      → ((r : Record) × IsOfChild (state_of ops) part id page holder r) ⊎ IsOfHolder part flush id page holder
      → HasAtom (cuts_within (records_of ops) rights flush holder.id o) (Rev id page right)
  take_within holder None id page right place e named (inl (r, child)) =
      absurd (none_shared (share holder.place part place place_part (source_page r page) child.from_holder child.from_part).0
      (sym e ∙ (share holder.place part place place_part (source_page r page) child.from_holder child.from_part).1))
    where
      none_shared : (c : Place) → None ≡ Some c → ⊥
      none_shared c h = cc
  take_within holder None id page right place e named (inr own) =
      absurd (none_shared (share holder.place part place place_part page own.inside own.in_part).0
      (sym e ∙ (share holder.place part place place_part page own.inside own.in_part).1))
    where
      none_shared : (c : Place) → None ≡ Some c → ⊥
      none_shared c h = cc
  take_within holder (Some both) id page right place e named (inl (r, child)) =
      atom_left (filter_map (child_cut both rights holder.id) (records_of ops))
      (if flush then Cut (record { target = holder.id; part = both; rights = rights }) ∷ [] else []) (Rev id page right)
      (take_child ops kept part place_part rights holder place both e r id page right named child)
  take_within holder (Some both) id page right place e named (inr own) =
      atom_right (filter_map (child_cut both rights holder.id) (records_of ops))
      (if flush then Cut (record { target = holder.id; part = both; rights = rights }) ∷ [] else []) (Rev id page right)
      (own_cut flush own.flushed)
    where
      own_cut : (b : Bool) → b ≡ true → HasAtom (if b then Cut (record { target = holder.id; part = both; rights = rights }) ∷ [] else [])
          (Rev id page right)
      own_cut true is = inl (take_of (record { target = holder.id; part = both; rights = rights }) id page right (sym own.is)
          ((shared holder.place part both place place_part e).both page
          ∙ and_from (holds holder.place page) (holds part page) own.inside own.in_part) named)
      own_cut false is = absurd (false≢true is)

  cuts_if : (b : Bool) (atom : Atom) → HasAtom (if b then [] else flat_map (holder_cuts (records_of ops) part rights flush)
      (holders (records_of ops) space)) atom → HasAtom (flat_map (holder_cuts (records_of ops) part rights flush)
      (holders (records_of ops) space)) atom
  cuts_if true atom h = absurd h
  cuts_if false atom h = h

  if_cuts : (b : Bool) (atom : Atom) → b ≡ false → HasAtom (flat_map (holder_cuts (records_of ops) part rights flush)
      (holders (records_of ops) space)) atom → HasAtom (if b then [] else flat_map (holder_cuts (records_of ops) part rights flush)
      (holders (records_of ops) space)) atom
  if_cuts true atom e h = absurd (false≢true (sym e))
  if_cuts false atom e h = h

  -- the candidates take just that
  pub unmap_taken : (id : RecordId) (page : ℕ) (right : Right) → HasAtom (unmap_candidates ops space (Some part) rights flush) (Rev id page right)
      → (holder : Holder) × IsTakenAt (state_of ops) space part rights flush id page right holder
  unmap_taken id page right h =
      let found = atom_flat_map (holder_cuts (records_of ops) part rights flush) (holders (records_of ops) space) (Rev id page right)
      (cuts_if (is_empty rights) (Rev id page right) h) in
      let held = holder_held ops space kept.no_root found.0 found.1 in
      let taken = within_taken found.0 (meet found.0.place part) id page right
      (place_at-place ops found.0.id found.0.place kept held.1) refl found.2 in
      (found.0, record { named = taken.0; into = held.0; place = held.1; which = taken.1 })

  pub take_unmap : (id : RecordId) (page : ℕ) (right : Right) (holder : Holder)
      → IsTakenAt (state_of ops) space part rights flush id page right holder
      → HasAtom (unmap_candidates ops space (Some part) rights flush) (Rev id page right)
  take_unmap id page right holder taken =
      if_cuts (is_empty rights) (Rev id page right) (some_right rights right taken.named)
      (flat_map_atom (holder_cuts (records_of ops) part rights flush) (holders (records_of ops) space) holder (Rev id page right)
      (held_holder ops space holder taken.into taken.place)
      (take_within holder (meet holder.place part) id page right
      (place_at-place ops holder.id holder.place kept taken.place) refl taken.named taken.which))
    where
      some_right : (a : Rights) (b : Right) → includes a b ≡ true → is_empty a ≡ false
      some_right a b has = some_here a b has

  -- they are revocations alone
  only_cuts_within : (holder : Holder) (o : Option Place) (op : Op) → IsAmong op (cuts_within (records_of ops) rights flush holder.id o)
      → (cut : Revocation) × (Cut cut ≡ op)
  only_cuts_within holder None op k = absurd k
  only_cuts_within holder (Some both) op k =
      elim (among_append (filter_map (child_cut both rights holder.id) (records_of ops))
      (if flush then Cut (record { target = holder.id; part = both; rights = rights }) ∷ [] else []) op k) [
        | inl child ↦ let from = among_filter_map (child_cut both rights holder.id) (records_of ops) op child in by_child from.0
            (same_id from.0.parent holder.id) (meet (source_place from.0) both) from.2
        | inr own ↦ by_own flush own
      ]
    where
      by_child : (r : Record) (b : Bool) (shared : Option Place) → (if b then child_cut_with rights r shared else None) ≡ Some op
          → (cut : Revocation) × (Cut cut ≡ op)
      by_child r true None made = absurd (no_op op made)
      by_child r true (Some c) made = (
        record { target = r.id; part = moved (source_place r) r.place c; rights = rights },
        same_op
            (Cut (record { target = r.id; part = moved (source_place r) r.place c; rights = rights })) op made,
      )
      by_child r false shared made = absurd (no_op op made)

      by_own : (b : Bool) → IsAmong op (if b then Cut (record { target = holder.id; part = both; rights = rights }) ∷ [] else [])
          → (cut : Revocation) × (Cut cut ≡ op)
      by_own true (inl is) = (record { target = holder.id; part = both; rights = rights }, is)
      by_own true (inr h) = absurd h
      by_own false h = absurd h

  pub only_cuts : (atom : Atom) → HasAtom (unmap_candidates ops space (Some part) rights flush) atom → (cut : Revocation) × Gives (Cut cut) atom
  only_cuts atom h =
      let found = atom_flat_map (holder_cuts (records_of ops) part rights flush) (holders (records_of ops) space) atom
      (cuts_if (is_empty rights) atom h) in
      let op = atom_of (holder_cuts (records_of ops) part rights flush found.0) atom found.2 in
      let cut = only_cuts_within found.0 (meet found.0.place part) op.0 op.1 in
      (cut.0, subst (λ (x : Op). Gives x atom) (sym cut.1) op.2)

  pub sound_cuts : IsSound (unmap_candidates ops space (Some part) rights flush)
  sound_cuts r s in_r in_s same = absurd ((only_cuts (Rec r) in_r).1)
