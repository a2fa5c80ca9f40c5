-- Which records have their places listed for an Unmap alone, after an operation.
use Rattle.std.proofs.Common.{arith, ◌≡◌, ◌++◌, ℕ, Bool, true, false, List, [], ◌∷◌, refl, sym, ap, subst, ◌∙◌, inl, inr}
use Rattle.std.specs.Prelude.{◌⊎◌, Option, Some, None, if◌then◌else◌}
use Rattle.std.proofs.lemmas.Bool.{cases_Bool, false≢true}
use Rattle.mapdb_fpage.specs.RightSets.{is_empty}
use Rattle.mapdb_facts.specs.Exact.{exact_id}
use Rattle.mapdb_facts.specs.Looking.{Holds}
use Rattle.mapdb_facts.specs.Names.{same_id}
use Rattle.mapdb_facts.specs.State.{State, first_of, join, said}
use Rattle.mapdb_facts.specs.declared.names.RecordId.{RecordId}
use Rattle.mapdb_facts.specs.declared.operations.Op.TheVariants.{Born}
use Rattle.mapdb_facts.specs.declared.operations.Record.{Record}
use Rattle.mapdb_facts.proofs.Lists.SameNames.{none_some, same_id_itself, same_id_true, some_same}
use Rattle.mapdb_lists.specs.Changes.{Cached}
use Rattle.mapdb_lists.specs.Listing.{is_listed}
use Rattle.mapdb_lists.specs.declared.places.Listed.{Listed}
use Rattle.mapdb_lists.specs.declared.places.Places.{Places}
use Rattle.mapdb_rights.specs.HeldPlaces.{place_of}
use Rattle.mapdb_rights.specs.IdlePlaces.{HasIdle, HasIdleBut, HasPlace, IsNoted, StayNoted}
use Rattle.mapdb_rights.specs.LivePlaces.{HasSome}
use Rattle.mapdb_rights.specs.Meeting.{is_named}
use Rattle.mapdb_rights.specs.Revoked.{IsRevoked, IsRevokedBelow}
use Rattle.mapdb_rights.proofs.Lists.NamedRecords.{named_among, named_front, named_last, named_next}
use Rattle.mapdb_rights.proofs.Rights.Revoked.{revoked_later}
use Rattle.mapdb_rights.proofs.Settling.Followed.{looked_at}
use Rattle.mapdb_rights.proofs.Settling.LiveRecords.{none_has}
use Rattle.mapdb_facts.proofs.States.Newness.{first_of_none}

-- where no record came, what may go may still go, and what is listed stays listed
pub idle_alike : (S before : State) (T : State) (cached : Cached) (set : Places) → S ≡ join before T → ((id : RecordId) → T.record_at id ≡ None) → HasIdle before cached set → HasIdle S cached set
idle_alike S before T cached set is none are r held = elim (are r (alike r.id ∙ held)) [
  | inl some ↦ inl some
  | inr place ↦ inr (elim place [
    | inr has ↦ inr has
    | inl below ↦ inl (record {
      own = later r below.own;
      children = λ c held_c child. later c (below.children c (alike c.id ∙ held_c) child);
    })
  ])
]
  where
    later : (s : Record) → IsRevoked before s → IsRevoked S s
    later s revoked = subst (λ (U : State). IsRevoked U s) (sym is) (revoked_later before T s revoked)

    alike : (id : RecordId) → before.record_at id ≡ S.record_at id
    alike id = sym (first_of_none (before.record_at id)) ∙ sym (ap (first_of (before.record_at id)) (none id)) ∙ sym (ap (λ (U : State). U.record_at id) is)

-- where the rights that were cached are others, and each name that had some is noted or has some
pub idle_but : (S : State) (before cached : Cached) (names : List RecordId) (set : Places) → StayNoted before [] cached names → HasIdle S before set → HasIdleBut S cached names set
idle_but S before cached names set stay are r held = elim (are r held) [
  | inl some ↦ inl (stay r.id (inl some))
  | inr place ↦ inr place
]

-- so it is for all but one name that may have been missing, and is noted after them or has some
pub idle_noted : (S : State) (before cached : Cached) (one : RecordId) (old names : List RecordId) (set : Places) → StayNoted before [] cached old
    → ((id : RecordId) → is_named old id ≡ true → is_named names id ≡ true) → IsNoted cached names one → HasIdleBut S before (one ∷ []) set → HasIdleBut S cached names set
idle_noted S before cached one old names set stay kept noted are r held = elim (are r held) [
  | inr place ↦ inr place
  | inl known ↦ inl (elim known [
    | inl some ↦ elim (stay r.id (inl some)) [
      | inl has ↦ inl has
      | inr named ↦ inr (kept r.id named)
    ]
    | inr named ↦ elim (named_next (one ∷ []) 0 one r.id (omega arith) named) [
      | inl same ↦ subst (λ (id : RecordId). IsNoted cached names id) same noted
      | inr none ↦ absurd (false≢true none)
    ]
  ])
]

-- The rights of one record were written, of which each other one has what it had.
module _ (before cached : Cached) (names : List RecordId) (id : RecordId) (others : (other : RecordId) (page : ℕ) → same_id id other ≡ false → cached other page ≡ before other page) where
  other_some : (other : RecordId) → same_id id other ≡ false → HasSome (before other) → HasSome (cached other)
  other_some other apart has = (has.0, ap is_empty (others other has.0 apart) ∙ has.1)

  -- it has some, or had none
  pub noted_still : HasSome (cached id) ⊎ ((page : ℕ) → is_empty (before id page) ≡ true) → StayNoted before names cached names
  noted_still known other (inr named) = inr named
  noted_still known other (inl had) = elim (cases_Bool (same_id id other)) [
    | inr apart ↦ inl (other_some other apart had)
    | inl same ↦ elim known [
      | inl some ↦ inl (subst (λ (o : RecordId). HasSome (cached o)) (exact_id id other same) some)
      | inr none ↦ absurd (none_has (before id) none (subst (λ (o : RecordId). HasSome (before o)) (sym (exact_id id other same)) had))
    ]
  ]

  -- or its name is noted
  pub noted_more : StayNoted before names cached (names ++ id ∷ [])
  noted_more other (inr named) = inr (named_front other names (id ∷ []) named)
  noted_more other (inl had) = elim (cases_Bool (same_id id other)) [
    | inr apart ↦ inl (other_some other apart had)
    | inl same ↦ inr (named_last other names id (exact_id id other same))
  ]

-- a record came, and its parent's place is listed where the parent is revoked
module _ (old new : Places) (kept : (e : Listed) → is_listed old e ≡ true → is_listed new e ≡ true)
    (S before : State) (m : Record) (is : S ≡ join before (said (Born m)))
    (parent : (p : Record) → S.record_at m.parent ≡ Some p → IsRevoked S p → is_listed new (place_of p) ≡ true) where
  later : (r : Record) → IsRevoked before r → IsRevoked S r
  later r revoked = subst (λ (U : State). IsRevoked U r) (sym is) (revoked_later before (said (Born m)) r revoked)

  -- a record that was held is revoked with its children, or one came that lists it
  still_below : (r : Record) → Holds S r → IsRevokedBelow before r → HasPlace S new r
  still_below r held below = by (before.record_at m.id) refl
    where
      child_later : (c : Record) → Holds S c → c.parent ≡ r.id → (o : Option Record) → before.record_at c.id ≡ o → first_of o (if same_id m.id c.id then Some m else None) ≡ Some c
          → (m ≡ c) ⊎ IsRevoked S c
      child_later c held_c child (Some d) at e = inr (later c (below.children c (at ∙ e) child))
      child_later c held_c child None at e = by_test (same_id m.id c.id) e
        where
          by_test : (t : Bool) → (if t then Some m else None) ≡ Some c → (m ≡ c) ⊎ IsRevoked S c
          by_test true k = inl (some_same m c k)
          by_test false k = absurd (none_some c k)

      each : (c : Record) → Holds S c → c.parent ≡ r.id → (m ≡ c) ⊎ IsRevoked S c
      each c held_c child = child_later c held_c child (before.record_at c.id) refl (looked_at S before m is c (before.record_at c.id) refl held_c)

      by : (o : Option Record) → before.record_at m.id ≡ o → HasPlace S new r
      by (Some d) at = inl (record {
        own = later r below.own;
        children = λ c held_c child. elim (each c held_c child) [
          | inr revoked ↦ revoked
          | inl same ↦ later c (below.children c (held_before c held_c same) child)
        ];
      })
        where
          held_before : (c : Record) → Holds S c → m ≡ c → Holds before c
          held_before c held_c same =
              let here : before.record_at c.id ≡ Some d = ap (λ (x : Record). before.record_at x.id) (sym same) ∙ at in
              here ∙ sym (ap (λ (p : Option Record). first_of p (if same_id m.id c.id then Some m else None)) here) ∙ sym (ap (λ (T : State). T.record_at c.id) is) ∙ held_c
      by None at = elim (cases_Bool (same_id m.parent r.id)) [
        | inl child ↦ inr (parent r (ap S.record_at (same_id_true m.parent r.id child) ∙ held) (later r below.own))
        | inr apart ↦ inl (record {
          own = later r below.own;
          children = λ c held_c child. elim (each c held_c child) [
            | inr revoked ↦ revoked
            | inl same ↦ absurd (false≢true (sym apart ∙ ap (λ (x : Record). same_id x.parent r.id) same ∙ ap (λ (o : RecordId). same_id o r.id) child ∙ same_id_itself r.id))
          ];
        })
      ]

  idle_of : (cached : Cached) → HasIdle before cached old → (r : Record) → Holds S r → (o : Option Record) → before.record_at r.id ≡ o → first_of o (if same_id m.id r.id then Some m else None) ≡ Some r
      → IsNoted cached (m.id ∷ []) r.id ⊎ HasPlace S new r
  idle_of cached are r held None at e = by_test (same_id m.id r.id) e
    where
      by_test : (t : Bool) → (if t then Some m else None) ≡ Some r → IsNoted cached (m.id ∷ []) r.id ⊎ HasPlace S new r
      by_test true k = inl (inr (named_among r.id (m.id ∷ []) (inl (ap (λ (x : Record). x.id) (some_same m r k)))))
      by_test false k = absurd (none_some r k)
  idle_of cached are r held (Some s) at e = elim (are r (at ∙ e)) [
    | inl some ↦ inl (inl some)
    | inr place ↦ inr (elim place [
      | inl below ↦ still_below r held below
      | inr has ↦ inr (kept (place_of r) has)
    ])
  ]

  -- only the record that came may be missing
  pub idle_by_record : (cached : Cached) → HasIdle before cached old → HasIdleBut S cached (m.id ∷ []) new
  idle_by_record cached are r held = idle_of cached are r held (before.record_at r.id) refl (looked_at S before m is r (before.record_at r.id) refl held)
