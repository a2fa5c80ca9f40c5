-- What an Unmap takes at a page: of a child of a holder, and with a flush of the holder.
use Rattle.std.proofs.Common.{◌≡◌, ℕ, ◌+◌, ◌<◌, ◌≤◌, Bool, true, false, Some, refl, sym, ap, subst, ◌∙◌, List, [], ◌∷◌, inl, inr, arith}
use Rattle.std.specs.Prelude.{◌⊎◌, ◌&&◌, Option, None, if◌then◌else◌}
use Rattle.std.specs.List.{filter_map}
use Rattle.std.proofs.lemmas.Bool.{and_parts, and_from, cond-true}
use Rattle.mapdb_fpage.proofs.Meets.{holds_from, holds_range}
use Rattle.mapdb_fpage.specs.Place.{IsPlace, Place, holds, meet, moved, page_total}
use Rattle.mapdb_fpage.specs.RightSets.{includes}
use Rattle.mapdb_fpage.specs.declared.right_sets.Right.{Right}
use Rattle.mapdb_fpage.specs.declared.right_sets.Rights.{Rights}
use Rattle.mapdb_facts.proofs.RecordLemmas.Ascending.{found_listed, listed_found}
use Rattle.mapdb_facts.proofs.Lists.SameNames.{same_id_at, same_id_true}
use Rattle.mapdb_facts.specs.Names.{same_id}
use Rattle.mapdb_facts.specs.Records.{IsAmong, records_of}
use Rattle.mapdb_facts.specs.State.{Gives, HasAtom, Rev, State, cuts, state_of}
use Rattle.mapdb_facts.specs.declared.names.RecordId.{RecordId}
use Rattle.mapdb_facts.specs.declared.names.Space.{Space}
use Rattle.mapdb_facts.specs.declared.operations.Op.{Op}
use Rattle.mapdb_facts.specs.declared.operations.Op.TheVariants.{Cut}
use Rattle.mapdb_facts.specs.declared.operations.Record.{Record}
use Rattle.mapdb_facts.specs.declared.operations.Revocation.{Revocation}
use Rattle.mapdb_replica.specs.Unmap.{child_cut, child_cut_with}
use Rattle.mapdb_replica.specs.declared.pieces.Holder.{Holder}
use Rattle.mapdb_rights.specs.Meeting.{source_place}
use Rattle.mapdb_rights.specs.PageRights.{is_into}
use Rattle.mapdb_rights.specs.Right.{source_page}
use Rattle.mapdb_replica.proofs.Maps.HolderLists.{place_at}
use Rattle.mapdb_replica.proofs.Copies.AtomLists.{atom_from, filter_map_among}
use Rattle.mapdb_replica.proofs.Unmaps.SharedPlaces.{moved_holds, share, shared, within_holds}
use Rattle.mapdb_replica.proofs.Copies.OpForms.{IsFormed}

-- A right taken at a page: of a child of a holder, or with a flush of the holder.
pub record IsOfChild (S : State) (part : Place) (id : RecordId) (page : ℕ) (holder : Holder) (r : Record) : Type 0 where
  pub held : S.record_at id ≡ Some r
  pub parent : r.parent ≡ holder.id
  pub inside : holds r.place page ≡ true
  pub from_holder : holds holder.place (source_page r page) ≡ true
  pub from_part : holds part (source_page r page) ≡ true

pub record IsOfHolder (part : Place) (flush : Bool) (id : RecordId) (page : ℕ) (holder : Holder) : Type 0 where
  pub flushed : flush ≡ true
  pub is : id ≡ holder.id
  pub inside : holds holder.place page ≡ true
  pub in_part : holds part page ≡ true

pub record IsTakenAt (S : State) (space : Space) (part : Place) (rights : Rights) (flush : Bool) (id : RecordId) (page : ℕ) (right : Right)
    (holder : Holder) : Type 0 where
  pub named : includes rights right ≡ true
  pub into : is_into S space holder.id ≡ true
  pub place : place_at S holder.id ≡ Some holder.place
  pub which : ((r : Record) × IsOfChild S part id page holder r) ⊎ IsOfHolder part flush id page holder

pub same_op : (a b : Op) → Some a ≡ Some b → a ≡ b
same_op a b e = cc

pub no_op : (a : Op) → None ≡ Some a → ⊥
no_op a e = cc

-- what a revocation takes
pub taken_of : (cut : Revocation) (id : RecordId) (page : ℕ) (right : Right) → cuts cut id page right ≡ true
    → (cut.target ≡ id) × (holds cut.part page ≡ true) × (includes cut.rights right ≡ true)
taken_of cut id page right h =
    let parts = and_parts (same_id cut.target id && holds cut.part page) (includes cut.rights right) h in
    let front = and_parts (same_id cut.target id) (holds cut.part page) parts.0 in
    (same_id_true cut.target id front.0, front.1, parts.1)

pub take_of : (cut : Revocation) (id : RecordId) (page : ℕ) (right : Right) → cut.target ≡ id → holds cut.part page ≡ true
    → includes cut.rights right ≡ true → cuts cut id page right ≡ true
take_of cut id page right is inside named =
    and_from (same_id cut.target id && holds cut.part page) (includes cut.rights right)
    (and_from (same_id cut.target id) (holds cut.part page) (same_id_at cut.target id is) inside) named

-- what a child loses
module _ (ops : List Op) (kept : IsFormed ops) (part : Place) (place_part : IsPlace part) (rights : Rights) (holder : Holder)
    (place_holder : IsPlace holder.place) (both : Place) (e : meet holder.place part ≡ Some both) where
  child_source : (r : Record) (page : ℕ) (c : Place) → IsPlace (source_place r) → meet (source_place r) both ≡ Some c
      → holds (moved (source_place r) r.place c) page ≡ (holds r.place page && holds c (source_page r page))
  child_source r page c source h = moved_holds (source_place r) r.place c
      (shared (source_place r) both c source (shared holder.place part both place_holder place_part e).place h).left refl page

  child_with : (r : Record) (o : Option Place) (op : Op) (id : RecordId) (page : ℕ) (right : Right) → meet (source_place r) both ≡ o
      → child_cut_with rights r o ≡ Some op → Gives op (Rev id page right) → IsPlace (source_place r)
      → (r.id ≡ id) × (includes rights right ≡ true) × (holds r.place page ≡ true) × (holds both (source_page r page) ≡ true)
  child_with r None op id page right h made gives source = absurd (no_op op made)
  child_with r (Some c) op id page right h made gives source =
      let cut : Revocation = record { target = r.id; part = moved (source_place r) r.place c; rights = rights } in
      let taken = taken_of cut id page right (subst (λ (x : Op). Gives x (Rev id page right)) (sym (same_op (Cut cut) op made)) gives) in
      let inside = and_parts (holds r.place page) (holds c (source_page r page)) (sym (child_source r page c source h) ∙ taken.1) in (
        taken.0,
        taken.2,
        inside.0,
        within_holds c both (shared (source_place r) both c source
            (shared holder.place part both place_holder place_part e).place h).right (source_page r page) inside.1,
      )

  child_if : (r : Record) (b : Bool) (op : Op) → same_id r.parent holder.id ≡ b
      → (if b then child_cut_with rights r (meet (source_place r) both) else None) ≡ Some op
      → (r.parent ≡ holder.id) × (child_cut_with rights r (meet (source_place r) both) ≡ Some op)
  child_if r true op is made = (same_id_true r.parent holder.id is, made)
  child_if r false op is made = absurd (no_op op made)

  pub child_taken : (r : Record) (op : Op) (id : RecordId) (page : ℕ) (right : Right) → IsAmong r (records_of ops)
      → child_cut both rights holder.id r ≡ Some op → Gives op (Rev id page right)
      → (includes rights right ≡ true) × IsOfChild (state_of ops) part id page holder r
  child_taken r op id page right k made gives =
      let held = listed_found ops r k in
      let made_by = child_if r (same_id r.parent holder.id) op refl made in
      let taken = child_with r (meet (source_place r) both) op id page right refl made_by.1 gives (kept.sources r.id r held) in
      let sides = and_parts (holds holder.place (source_page r page)) (holds part (source_page r page))
      (sym ((shared holder.place part both place_holder place_part e).both (source_page r page)) ∙ taken.3) in (
        taken.1,
        record {
          held = subst (λ (x : RecordId). (state_of ops).record_at x ≡ Some r) taken.0 held;
          parent = made_by.0;
          inside = taken.2;
          from_holder = sides.0;
          from_part = sides.1;
        },
      )

  -- and the other way
  pub take_child : (r : Record) (id : RecordId) (page : ℕ) (right : Right) → includes rights right ≡ true
      → IsOfChild (state_of ops) part id page holder r
      → HasAtom (filter_map (child_cut both rights holder.id) (records_of ops)) (Rev id page right)
  take_child r id page right named child =
      let listed = found_listed ops id r child.held in
      let source : IsPlace (source_place r) = kept.sources id r child.held in
      let place : IsPlace r.place = kept.places id r child.held in
      let in_both : holds both (source_page r page) ≡ true = (shared holder.place part both place_holder place_part e).both (source_page r page)
      ∙ and_from (holds holder.place (source_page r page)) (holds part (source_page r page)) child.from_holder child.from_part in
      let range = holds_range r.place page child.inside in
      let in_source : holds (source_place r) (source_page r page) ≡ true = in_own_source r page range.0 range.1 in
      let found = share (source_place r) both source (shared holder.place part both place_holder place_part e).place
      (source_page r page) in_source in_both in
      let cut : Revocation = record { target = r.id; part = moved (source_place r) r.place found.0; rights = rights } in
      let made : child_cut both rights holder.id r ≡ Some (Cut cut) =
      cond-true (same_id r.parent holder.id) (child_cut_with rights r (meet (source_place r) both)) None
      (same_id_at r.parent holder.id child.parent) ∙ ap (child_cut_with rights r) found.1 in
      let inside : holds cut.part page ≡ true = child_source r page found.0 source found.1
      ∙ and_from (holds r.place page) (holds found.0 (source_page r page)) child.inside found.3 in
      atom_from (filter_map (child_cut both rights holder.id) (records_of ops)) (Cut cut) (Rev id page right)
      (filter_map_among (child_cut both rights holder.id) (records_of ops) r (Cut cut) listed.0 made)
      (take_of cut id page right listed.1 inside named)
    where
      in_own_source : (r : Record) (page : ℕ) → r.place.first_page ≤ page → page < r.place.first_page + page_total r.place
          → holds (source_place r) (source_page r page) ≡ true
      in_own_source r page low high = holds_from (source_place r) (source_page r page) (omega arith) (omega arith)

-- what the candidates of one holder take
pub own_taken : (ops : List Op) (part both : Place) (rights : Rights) (flush b : Bool) (holder : Holder) (id : RecordId) (page : ℕ) (right : Right)
    → flush ≡ b → ((p : ℕ) → holds both p ≡ (holds holder.place p && holds part p))
    → HasAtom (if b then Cut (record { target = holder.id; part = both; rights = rights }) ∷ [] else []) (Rev id page right)
    → (includes rights right ≡ true) × IsOfHolder part flush id page holder
own_taken ops part both rights flush true holder id page right is same (inl h) =
    let taken = taken_of (record { target = holder.id; part = both; rights = rights }) id page right h in
    let sides = and_parts (holds holder.place page) (holds part page) (sym (same page) ∙ taken.1) in
    (taken.2, record { flushed = is; is = sym taken.0; inside = sides.0; in_part = sides.1 })
own_taken ops part both rights flush true holder id page right is same (inr h) = absurd h
own_taken ops part both rights flush false holder id page right is same h = absurd h
