-- Records from which everything is taken: no revocation from them is new.
use Rattle.std.proofs.Common.{◌≡◌, ℕ, ◌+◌, ◌-◌, Bool, true, false, Some, refl, sym, subst, ◌∙◌, List, [], ◌++◌, inl, inr}
use Rattle.std.specs.Prelude.{IfSome, Option, None, map, if◌then◌else◌}
use Rattle.std.specs.List.{filter_map, flat_map}
use Rattle.std.proofs.lemmas.Bool.{and_parts, cases_Bool}
use Rattle.mapdb_fpage.specs.Place.{IsPlace, Place, holds, meet, moved}
use Rattle.mapdb_fpage.specs.declared.right_sets.Right.{Right}
use Rattle.mapdb_fpage.specs.declared.right_sets.Rights.{Rights}
use Rattle.mapdb_facts.specs.Adding.{is_new}
use Rattle.mapdb_facts.specs.Facts.{records_of_facts, state_of_facts}
use Rattle.mapdb_facts.specs.Looking.{Holds}
use Rattle.mapdb_facts.specs.Names.{same_id}
use Rattle.mapdb_facts.specs.Records.{IsAmong}
use Rattle.mapdb_facts.specs.State.{Atom, End, Gives, Has, Rec, Rev, State}
use Rattle.mapdb_facts.specs.declared.holding.Facts.{Facts}
use Rattle.mapdb_facts.specs.declared.names.RecordId.{RecordId}
use Rattle.mapdb_facts.specs.declared.names.Space.{Space}
use Rattle.mapdb_facts.specs.declared.operations.Op.{Op}
use Rattle.mapdb_facts.specs.declared.operations.Op.TheVariants.{Cut}
use Rattle.mapdb_facts.specs.declared.operations.Record.{Record}
use Rattle.mapdb_facts.specs.declared.operations.Revocation.{Revocation}
use Rattle.mapdb_facts.proofs.Lists.SameNames.{same_id_true}
use Rattle.mapdb_facts.proofs.States.Newness.{new_is_exact}
use Rattle.mapdb_rights.specs.AllBut.{IsAllBut}
use Rattle.mapdb_rights.specs.Index.{KeepsUp}
use Rattle.mapdb_rights.specs.Meeting.{children_of, holders_of, holds_part, source_place, takes_part}
use Rattle.mapdb_rights.specs.Revoked.{IsRevoked, IsRevokedBelow}
use Rattle.mapdb_rights.specs.declared.index.rights_index.RightsIndex.{RightsIndex}
use Rattle.mapdb_replica.specs.Issue.{first_holders, holder_of, holders}
use Rattle.mapdb_replica.specs.LeftOut.{IsOld}
use Rattle.mapdb_replica.specs.Revoking.{cut_within}
use Rattle.mapdb_replica.specs.Unmap.{child_cut, child_cut_with, cuts_within, holder_cuts, own_cut}
use Rattle.mapdb_replica.specs.declared.pieces.Holder.{Holder}
use Rattle.mapdb_replica.proofs.Calls.AllBut.{all_but-append, all_but-filter_map, all_but-flat_map, all_but-twice, all_stay, among_filter, given_go}
use Rattle.mapdb_replica.proofs.Copies.KeptIndexes.{forms_there, named_there}
use Rattle.mapdb_replica.proofs.Copies.OpForms.{HasForm}
use Rattle.mapdb_replica.proofs.Maps.HolderNames.{listed_held}
use Rattle.mapdb_replica.proofs.Unmaps.MeetingRecords.{cuts_held, cuts_taken, listed_map}
use Rattle.mapdb_replica.proofs.Unmaps.SharedPlaces.{moved_holds, shared, within_holds}
use Rattle.mapdb_replica.proofs.Unmaps.TakenPages.{taken_of}

-- what takes nothing that is not yet taken
old_atom : (S : State) (cut : Revocation) → ((page : ℕ) → holds cut.part page ≡ true → (right : Right) → S.is_cut cut.target page right ≡ true)
    → (atom : Atom) → Gives (Cut cut) atom → (Has S atom → ⊥) → ⊥
old_atom S cut gone (Rec r) gives lacks = gives
old_atom S cut gone (Rev id page right) gives lacks =
    let taken = taken_of cut id page right gives in
    lacks (subst (λ (x : RecordId). S.is_cut x page right ≡ true) taken.0 (gone page taken.1 right))
old_atom S cut gone (End space) gives lacks = gives

old_cut : (S : State) (cut : Revocation) → ((page : ℕ) → holds cut.part page ≡ true → (right : Right) → S.is_cut cut.target page right ≡ true) → IsOld S (Cut cut)
old_cut S cut gone =
    elim (cases_Bool (is_new S (Cut cut))) [
      | inl new ↦ let found = (new_is_exact S (Cut cut)).0 new in absurd (old_atom S cut gone found.0 found.1 found.2)
      | inr old ↦ old
    ]

module _ (S : State) (rights : Rights) (part : Place) (place_part : IsPlace part) where
  child_at : (c : Record) (o : Option Place) → meet (source_place c) part ≡ o → IsPlace (source_place c) → IsRevoked S c → IfSome (child_cut_with rights c o) (IsOld S)
  child_at c None is source gone = tt
  child_at c (Some both) is source gone =
      old_cut S (record { target = c.id; part = moved (source_place c) c.place both; rights = rights })
      (λ page inside right. gone page
      (and_parts (holds c.place page) (holds both ((source_place c).first_page + (page - c.place.first_page)))
      (sym (moved_holds (source_place c) c.place both (shared (source_place c) part both source place_part is).left refl page) ∙ inside)).0 right)

  -- what a child loses from which everything is taken
  pub child_old : (c : Record) → IsPlace (source_place c) → IsRevoked S c → IfSome (cut_within rights c (Some part)) (IsOld S)
  child_old c source gone = child_at c (meet (source_place c) part) refl source gone

  child_if : (c : Record) (id : RecordId) (b : Bool) → same_id c.parent id ≡ b → (c.parent ≡ id → IfSome (child_cut_with rights c (meet (source_place c) part)) (IsOld S))
      → IfSome (if b then child_cut_with rights c (meet (source_place c) part) else None) (IsOld S)
  child_if c id true is each = each (same_id_true c.parent id is)
  child_if c id false is each = tt

-- what is lost in the turn of a record from which everything is taken, and from its children too
module _ (S : State) (form : HasForm S) (records : List Record) (held : (c : Record) → IsAmong c records → Holds S c)
    (page : Place) (place_page : IsPlace page) (rights : Rights) (flush : Bool) (r : Record) (held_r : Holds S r) (gone : IsRevokedBelow S r) where
  own_old : (part : Place) → meet r.place page ≡ Some part → (b : Bool) → IsAllBut (IsOld S) (own_cut r.id part rights b) []
  own_old part is true =
      let both = shared r.place page part (form.places r.id r held_r) place_page is in
      inl (old_cut S (record { target = r.id; part = part; rights = rights }) (λ p inside right. gone.own p (within_holds part r.place both.left p inside) right), refl)
  own_old part is false = refl

  within_old : (o : Option Place) → meet r.place page ≡ o → IsAllBut (IsOld S) (cuts_within records rights flush r.id o) []
  within_old None is = refl
  within_old (Some part) is =
      let place : IsPlace part = (shared r.place page part (form.places r.id r held_r) place_page is).place in
      all_but-append (IsOld S) (filter_map (child_cut part rights r.id) records) (own_cut r.id part rights flush) [] []
      (given_go (IsOld S) (child_cut part rights r.id) records
      (λ c k. child_if S rights part place c r.id (same_id c.parent r.id) refl
      (λ child. child_old S rights part place c (form.sources c.id c (held c k)) (gone.children c (held c k) child))))
      (own_old part is flush)

  pub holder_old : IsAllBut (IsOld S) (holder_cuts records page rights flush (holder_of r)) []
  holder_old = within_old (meet r.place page) refl

-- What an index left out that keeps up with facts.
module _ (facts : Facts) (index : RightsIndex) (there : index.absent ≡ false) (kept : KeepsUp index (state_of_facts facts)) where
  abbrev held_listed : (r : Record) → IsAmong r (records_of_facts facts) → Holds (state_of_facts facts) r
  held_listed r k = listed_held facts (named_there index (state_of_facts facts) there kept) r k

  -- what the children that are left lose is what all lose, but for what is known
  pub children_left : (id : RecordId) (part : Place) (rights : Rights) → IsPlace part → (left : List Record)
      → IsAllBut (IsRevoked (state_of_facts facts)) (children_of (records_of_facts facts) id part) left
      → IsAllBut (IsOld (state_of_facts facts)) (filter_map (child_cut part rights id) (records_of_facts facts)) (filter_map (λ (child : Record). cut_within rights child (Some part)) left)
  children_left id part rights place left all_but =
      subst (λ (ops : List Op). IsAllBut (IsOld (state_of_facts facts)) ops (filter_map (λ (child : Record). cut_within rights child (Some part)) left))
      (cuts_taken (records_of_facts facts) id part rights)
      (all_but-filter_map (IsRevoked (state_of_facts facts)) (IsOld (state_of_facts facts)) (λ (child : Record). cut_within rights child (Some part))
      (children_of (records_of_facts facts) id part) left
      (λ c k gone. let held = held_listed c (among_filter (takes_part id part) (records_of_facts facts) c k) in
      child_old (state_of_facts facts) rights part place c ((forms_there index (state_of_facts facts) there kept).sources c.id c held) gone) all_but)

  module _ (space : Space) (page : Place) (place : IsPlace page) (rights : Rights) (flush : Bool) (left : List Record)
      (all_but : IsAllBut (IsRevokedBelow (state_of_facts facts)) (holders_of (records_of_facts facts) space page) left) where
    abbrev turn : Holder → List Op
    turn h = holder_cuts (records_of_facts facts) page rights flush h

    turns_left : IsAllBut (IsOld (state_of_facts facts)) (flat_map turn (map holder_of (holders_of (records_of_facts facts) space page))) (flat_map turn (map holder_of left))
    turns_left =
        subst (λ (ops : List Op). IsAllBut (IsOld (state_of_facts facts)) ops (flat_map turn (map holder_of left))) (sym (listed_map holder_of turn (holders_of (records_of_facts facts) space page)))
        (subst (λ (ops : List Op). IsAllBut (IsOld (state_of_facts facts)) (flat_map (λ (r : Record). turn (holder_of r)) (holders_of (records_of_facts facts) space page)) ops) (sym (listed_map holder_of turn left))
        (all_but-flat_map (IsRevokedBelow (state_of_facts facts)) (IsOld (state_of_facts facts)) (λ (r : Record). turn (holder_of r)) (holders_of (records_of_facts facts) space page) left
        (λ r k gone. holder_old (state_of_facts facts) (forms_there index (state_of_facts facts) there kept) (records_of_facts facts) held_listed page place rights flush r
        (held_listed r (among_filter (holds_part space page) (records_of_facts facts) r k)) gone) all_but))

    -- what is lost in the turns of the root and of the records that are left is what is lost in all turns, but for what is known
    pub holders_left : (found : List Op) → IsAllBut (IsOld (state_of_facts facts)) (flat_map turn (first_holders space) ++ flat_map turn (map holder_of left)) found
        → IsAllBut (IsOld (state_of_facts facts)) (flat_map turn (holders (records_of_facts facts) space)) found
    holders_left found lost =
        subst (λ (ops : List Op). IsAllBut (IsOld (state_of_facts facts)) ops found) (cuts_held (records_of_facts facts) space page rights flush)
        (all_but-twice (IsOld (state_of_facts facts)) (flat_map turn (first_holders space) ++ flat_map turn (map holder_of (holders_of (records_of_facts facts) space page)))
        (flat_map turn (first_holders space) ++ flat_map turn (map holder_of left)) found
        (all_but-append (IsOld (state_of_facts facts)) (flat_map turn (first_holders space)) (flat_map turn (map holder_of (holders_of (records_of_facts facts) space page)))
        (flat_map turn (first_holders space)) (flat_map turn (map holder_of left)) (all_stay (IsOld (state_of_facts facts)) (flat_map turn (first_holders space))) turns_left) lost)
