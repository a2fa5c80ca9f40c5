-- What an operation leaves to be settled, and which records are listed after it.
use Rattle.std.proofs.Common.{◌≡◌, ℕ, Bool, true, false, List, refl, sym, ap, subst, ◌∙◌, inl, inr}
use Rattle.std.specs.Prelude.{◌⊎◌, Option, Some, None, if◌then◌else◌}
use Rattle.mapdb_facts.specs.Looking.{Holds}
use Rattle.mapdb_facts.specs.Merging.{IsNamed}
use Rattle.mapdb_facts.specs.Names.{same_id}
use Rattle.mapdb_facts.specs.State.{State, first_of, join, said}
use Rattle.mapdb_facts.specs.WellFormed.{IsFormedRecord}
use Rattle.mapdb_facts.specs.declared.names.RecordId.{RecordId}
use Rattle.mapdb_facts.specs.declared.names.Space.{Space}
use Rattle.mapdb_facts.specs.declared.operations.Op.{Op}
use Rattle.mapdb_facts.specs.declared.operations.Op.TheVariants.{Born, Closed, Cut}
use Rattle.mapdb_facts.specs.declared.operations.Record.{Record}
use Rattle.mapdb_facts.specs.declared.operations.Revocation.{Revocation}
use Rattle.mapdb_lists.specs.declared.places.Listed.{Listed}
use Rattle.mapdb_lists.specs.Changes.{Cached, PageChanges}
use Rattle.mapdb_lists.specs.Listing.{AllAligned, is_listed}
use Rattle.mapdb_lists.specs.declared.places.Owner.TheVariants as owners
use Rattle.mapdb_lists.proofs.Lists.ListedOrder.{owner_is}
use Rattle.mapdb_lists.specs.declared.places.Places.{Places}
use Rattle.mapdb_rights.specs.declared.index.stale.Stale.{Stale}
use Rattle.mapdb_rights.specs.Caching.{AreRights, IsSettled, Unsettles}
use Rattle.mapdb_rights.specs.CachedFrames.{AreFrames}
use Rattle.mapdb_rights.specs.Following.{AreListed}
use Rattle.mapdb_rights.specs.HeldPlaces.{AreOfHeld, HasSource, IsListed, place_of, source_of}
use Rattle.mapdb_rights.specs.Pending.{AreSettledBut, IsPending}
use Rattle.mapdb_rights.specs.PageRights.{is_record_into}
use Rattle.std.proofs.lemmas.Bool.{false≢true}
use Rattle.mapdb_facts.proofs.Lists.SameNames.{none_some, some_same}
use Rattle.mapdb_rights.specs.Revoked.{IsRevoked}
use Rattle.mapdb_rights.proofs.Rights.Revoked.{revoked_later}
use Rattle.mapdb_rights.proofs.Rights.FramesFrom.{frames_later}
use Rattle.mapdb_rights.proofs.Settling.Unsettling.{operations_unsettle}
use Rattle.mapdb_facts.proofs.States.Newness.{first_of_none}

pub left_by_op : (S before : State) (op : Op) (cached : Cached) (stack : List Stale) → S ≡ join before (said op) → AreRights before cached
    → ((id : RecordId) (page : ℕ) → Unsettles before op id page → IsPending stack id page) → AreSettledBut S cached stack
left_by_op S before op cached stack is are unsettled id page =
    elim (operations_unsettle before op cached are id page) [
      | inl settled ↦ inl (subst (λ (T : State). IsSettled T cached id page) (sym is) settled)
      | inr unsettles ↦ inr (unsettled id page unsettles)
    ]

-- frames stay after an operation
pub frames_by_op : (S before : State) (op : Op) (changes : PageChanges) → S ≡ join before (said op) → AreFrames before changes → AreFrames S changes
frames_by_op S before op changes is frames = subst (λ (T : State). AreFrames T changes) (sym is) (frames_later before (said op) changes frames)

-- what is held stays so
pub held_on : (S before : State) (T : State) → S ≡ join before T → (r : Record) → Holds before r → Holds S r
held_on S before T is r held = ap (λ (U : State). U.record_at r.id) is ∙ ap (λ (o : Option Record). first_of o (T.record_at r.id)) held

-- what is listed is of records that are held still
pub of_held_on : (S before : State) (T : State) (set : Places) → S ≡ join before T → AreOfHeld before set → AreOfHeld S set
of_held_on S before T set is are e has = let one = are e has in record { r = one.r; held = held_on S before T is one.r one.held; is = one.is }

-- what is revoked stays so, and what is listed stays listed
listed_later : (S before : State) (T : State) (set : Places) → S ≡ join before T → (r : Record) → IsListed before set r → IsListed S set r
listed_later S before T set is r l = record {
  by_parent = elim l.by_parent [
    | inl revoked ↦ inl (subst (λ (U : State). IsRevoked U r) (sym is) (revoked_later before T r revoked))
    | inr has ↦ inr has
  ];
  place = l.place;
}

-- what holds the same records has the same listed
pub listed_alike : (S before : State) (T : State) (set : Places) → S ≡ join before T → ((id : RecordId) → T.record_at id ≡ None) → AreListed before set → AreListed S set
listed_alike S before T set is none are = record {
  named = λ id r held. are.named id r (alike id ∙ held);
  formed = λ r held. are.formed r (alike r.id ∙ held);
  sources = λ r held. listed_later S before T set is r (are.sources r (alike r.id ∙ held));
  aligned = are.aligned;
  held = of_held_on S before T set is are.held;
}
  where
    alike : (id : RecordId) → before.record_at id ≡ S.record_at id
    alike id = sym (first_of_none (before.record_at id)) ∙ sym (ap (first_of (before.record_at id)) (none id)) ∙ sym (ap (λ (U : State). U.record_at id) is)

pub listed_by_cut : (S before : State) (cut : Revocation) (set : Places) → S ≡ join before (said (Cut cut)) → AreListed before set → AreListed S set
listed_by_cut S before cut set is are = listed_alike S before (said (Cut cut)) set is (λ id. refl) are

pub listed_by_end : (S before : State) (space : Space) (set : Places) → S ≡ join before (said (Closed space)) → AreListed before set → AreListed S set
listed_by_end S before space set is are = listed_alike S before (said (Closed space)) set is (λ id. refl) are

-- what is listed stays so where more is
pub source_on : (old new : Places) → ((e : Listed) → is_listed old e ≡ true → is_listed new e ≡ true) → (r : Record) → HasSource old r → HasSource new r
source_on old new kept r l = record { by_parent = kept (source_of r) l.by_parent; place = l.place }

-- where its source is listed, nothing is missing
pub source_listed : (S : State) (set : Places) (r : Record) → HasSource set r → IsListed S set r
source_listed S set r l = record { by_parent = inr l.by_parent; place = l.place }

-- what the state has under the name of a record that came
pub looked_at : (S before : State) (m : Record) → S ≡ join before (said (Born m)) → (r : Record) (o : Option Record) → before.record_at r.id ≡ o → Holds S r
    → first_of o (if same_id m.id r.id then Some m else None) ≡ Some r
looked_at S before m is r o at held = ap (λ p. first_of p (if same_id m.id r.id then Some m else None)) (sym at) ∙ sym (ap (λ (T : State). T.record_at r.id) is) ∙ held

-- the source of a record more is listed
module _ (old new : Places) (kept : (e : Listed) → is_listed old e ≡ true → is_listed new e ≡ true)
    (S before : State) (m : Record) (is : S ≡ join before (said (Born m))) (there : (r : Record) → S.record_at m.id ≡ Some r → HasSource new r)
    (listed : AreListed before old) where
  newly : (r : Record) → Holds S r → (t : Bool) → (if t then Some m else None) ≡ Some r → HasSource new r
  newly r held true e = there r (ap (λ (s : Record). S.record_at s.id) (some_same m r e) ∙ held)
  newly r held false e = absurd (none_some r e)

  listed_of : (r : Record) → Holds S r → (o : Option Record) → before.record_at r.id ≡ o → first_of o (if same_id m.id r.id then Some m else None) ≡ Some r → IsListed S new r
  listed_of r held None at e = source_listed S new r (newly r held (same_id m.id r.id) e)
  listed_of r held (Some s) at e =
      let was = listed_later S before (said (Born m)) old is r (listed.sources r (at ∙ e)) in
      record {
        by_parent = elim was.by_parent [
          | inl revoked ↦ inl revoked
          | inr has ↦ inr (kept (source_of r) has)
        ];
        place = was.place;
      }

  pub listed_by_record : AllAligned new → AreOfHeld S new → IsNamed S → ((r : Record) → Holds S r → IsFormedRecord r) → AreListed S new
  listed_by_record aligned held_all named formed = record {
    named = named;
    formed = formed;
    sources = λ r held. listed_of r held (before.record_at r.id) refl (looked_at S before m is r (before.record_at r.id) refl held);
    aligned = aligned;
    held = held_all;
  }

-- what is listed with a held record more is of held records
pub of_held_with : (S : State) (old new : Places) (m : Record) → Holds S m
    → ((e : Listed) → is_listed new e ≡ true → (e ≡ place_of m) ⊎ (e ≡ source_of m) ⊎ (is_listed old e ≡ true)) → AreOfHeld S old → AreOfHeld S new
of_held_with S old new m held no_more are e has = elim (no_more e has) [
  | inl here ↦ record { r = m; held = held; is = inl here }
  | inr more ↦ elim more [
    | inl source ↦ record { r = m; held = held; is = inr source }
    | inr stood ↦ are e stood
  ]
]

-- what is listed under a space is a record into it
pub listed_into : (S : State) (set : Places) (space : Space) (e : Listed) → AreOfHeld S set → is_listed set e ≡ true → e.owner ≡ owners.Space space
    → is_record_into (S.record_at e.id) space ≡ true
listed_into S set space e are has own = let one = are e has in by one.r one.held one.is
  where
    by : (r : Record) → Holds S r → (e ≡ place_of r) ⊎ (e ≡ source_of r) → is_record_into (S.record_at e.id) space ≡ true
    by r held (inl is) =
        ap (λ (o : Option Record). is_record_into o space) (ap (λ (k : Listed). S.record_at k.id) is ∙ held)
        ∙ owner_is (owners.Space r.space) (owners.Space space) (sym (ap (λ (k : Listed). k.owner) is) ∙ own)
    by r held (inr is) =
        absurd (false≢true (owner_is (owners.Record r.parent) (owners.Space space) (sym (ap (λ (k : Listed). k.owner) is) ∙ own)))
