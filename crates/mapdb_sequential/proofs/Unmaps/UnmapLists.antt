-- The revocations that an Unmap may issue are that Unmap of the state.
use Rattle.std.proofs.Common.{◌≡◌, ℕ, Bool, true, false, Some, refl, sym, ap, subst, ◌∙◌, List, inl, inr, arith}
use Rattle.std.specs.Prelude.{◌⊎◌, ◌&&◌, ◌||◌, nat_lt, Option, None}
use Rattle.std.proofs.lemmas.Bool.{and_parts, and_from, or_cases, cond-true, cond-false, false≢true, lt-ltb, or_right, or_left}
use Rattle.mapdb_fpage.proofs.Booleans.{same_test}
use Rattle.mapdb_fpage.proofs.Meets.{holds_range}
use Rattle.mapdb_fpage.specs.Bounds.{page_limit}
use Rattle.mapdb_fpage.specs.Place.{IsPlace, Place, holds, whole}
use Rattle.mapdb_fpage.specs.RightSets.{includes}
use Rattle.mapdb_fpage.specs.declared.right_sets.Right.{Right}
use Rattle.mapdb_fpage.specs.declared.right_sets.Rights.{Rights}
use Rattle.mapdb_facts.proofs.Maps.Atoms.{atom_held, atom_kept, record_held}
use Rattle.mapdb_facts.proofs.Lists.SameNames.{none_some, some_same}
use Rattle.mapdb_facts.specs.Names.{is_first_space, is_root}
use Rattle.mapdb_facts.specs.State.{End, Rec, Rev, first_of, join, state_of}
use Rattle.mapdb_facts.specs.declared.names.RecordId.{RecordId}
use Rattle.mapdb_facts.specs.declared.names.Space.{Space}
use Rattle.mapdb_facts.specs.declared.operations.Op.{Op}
use Rattle.mapdb_facts.specs.declared.operations.Record.{Record}
use Rattle.mapdb_replica.specs.Unmap.{unmap_candidates}
use Rattle.mapdb_replica.specs.declared.pieces.Holder.{Holder}
use Rattle.mapdb_rights.specs.PageRights.{is_into, is_record_into, lies_in}
use Rattle.mapdb_rights.specs.Right.{source_page}
use Rattle.mapdb_replica.proofs.Maps.HolderLists.{place_of}
use Rattle.mapdb_replica.proofs.Unmaps.SharedPlaces.{lies_place, place_at-known, whole_holds}
use Rattle.mapdb_replica.proofs.Copies.OpForms.{IsFormed, IsKnown}
use Rattle.mapdb_sequential.proofs.Lists.StateSteps.{IsUnmappedState, is_hit}
use Rattle.mapdb_replica.proofs.Unmaps.UnmapAtoms.{only_cuts, sound_cuts, take_unmap, unmap_taken}
use Rattle.mapdb_replica.proofs.Unmaps.TakenPages.{IsOfChild, IsOfHolder, IsTakenAt}

module _ (ops : List Op) (kept : IsFormed ops) (space : Space) (part : Place) (place_part : IsPlace part) (rights : Rights) (flush : Bool) where
  no_records : (id : RecordId) → (state_of (unmap_candidates ops space (Some part) rights flush)).record_at id ≡ None
  no_records id = by_look_up ((state_of (unmap_candidates ops space (Some part) rights flush)).record_at id) refl
    where
      by_look_up : (o : Option Record) → (state_of (unmap_candidates ops space (Some part) rights flush)).record_at id ≡ o → o ≡ None
      by_look_up None e = refl
      by_look_up (Some r) e = absurd ((only_cuts ops kept space part place_part rights flush (Rec r) (record_held (unmap_candidates ops space (Some part) rights flush) id r e).0).1)

  no_ends : (other : Space) → (state_of (unmap_candidates ops space (Some part) rights flush)).is_ended other ≡ false
  no_ends other = same_test ((state_of (unmap_candidates ops space (Some part) rights flush)).is_ended other) false
      (λ h. absurd ((only_cuts ops kept space part place_part rights flush (End other) (atom_held (unmap_candidates ops space (Some part) rights flush) (End other) h)).1))
      (λ h. absurd (false≢true h))

  -- where a page of a record is taken
  record_hit : (id : RecordId) (r : Record) (page : ℕ) (right : Right) → (state_of ops).record_at id ≡ Some r → (holder : Holder)
      → IsTakenAt (state_of ops) space part rights flush id page right holder
      → is_hit rights right ((is_into (state_of ops) space r.parent && holds part (source_page r page))
      || (flush && (is_into (state_of ops) space id && holds part page))) ≡ true
  record_hit id r page right held holder taken = and_from (includes rights right) _ taken.named (either taken.which)
    where
      either : ((s : Record) × IsOfChild (state_of ops) part id page holder s) ⊎ IsOfHolder part flush id page holder
          → ((is_into (state_of ops) space r.parent && holds part (source_page r page))
          || (flush && (is_into (state_of ops) space id && holds part page))) ≡ true
      either (inl (s, child)) =
          let same : s ≡ r = some_same s r (sym child.held ∙ held) in
          or_left (is_into (state_of ops) space r.parent && holds part (source_page r page))
          (flush && (is_into (state_of ops) space id && holds part page))
          (subst (λ (x : Record). (is_into (state_of ops) space x.parent && holds part (source_page x page)) ≡ true) same
          (and_from (is_into (state_of ops) space s.parent) (holds part (source_page s page))
          (ap (is_into (state_of ops) space) child.parent ∙ taken.into) child.from_part))
      either (inr own) =
          or_right (is_into (state_of ops) space r.parent && holds part (source_page r page))
          (flush && (is_into (state_of ops) space id && holds part page))
          (and_from flush (is_into (state_of ops) space id && holds part page) own.flushed
          (and_from (is_into (state_of ops) space id) (holds part page) (ap (is_into (state_of ops) space) own.is ∙ taken.into) own.in_part))

  hit_record : (id : RecordId) (r : Record) (page : ℕ) (right : Right) → is_root id ≡ false → (state_of ops).record_at id ≡ Some r
      → holds r.place page ≡ true → lies_in (state_of ops) r.parent (source_page r page) ≡ true
      → is_hit rights right ((is_into (state_of ops) space r.parent && holds part (source_page r page))
      || (flush && (is_into (state_of ops) space id && holds part page))) ≡ true
      → (holder : Holder) × IsTakenAt (state_of ops) space part rights flush id page right holder
  hit_record id r page right other held inside lies h =
      let named = and_parts (includes rights right) ((is_into (state_of ops) space r.parent && holds part (source_page r page))
      || (flush && (is_into (state_of ops) space id && holds part page))) h in
      elim (or_cases (is_into (state_of ops) space r.parent && holds part (source_page r page))
      (flush && (is_into (state_of ops) space id && holds part page)) named.1) [
        | inl above ↦
            let sides = and_parts (is_into (state_of ops) space r.parent) (holds part (source_page r page)) above in
            let at = lies_place (state_of ops) r.parent (source_page r page) lies in (
              record { id = r.parent; place = at.0 },
              record {
                named = named.0;
                into = sides.0;
                place = at.1;
                which =
                    inl (r, record { held = held; parent = refl; inside = inside; from_holder = at.2; from_part = sides.1 });
              },
            )
        | inr own ↦
            let flushed = and_parts flush (is_into (state_of ops) space id && holds part page) own in
            let sides = and_parts (is_into (state_of ops) space id) (holds part page) flushed.1 in (
              record { id = id; place = r.place },
              record {
                named = named.0;
                into = sides.0;
                place = cond-false (is_root id) (Some whole) (place_of ((state_of ops).record_at id)) other ∙ ap place_of held;
                which = inr (record { flushed = flushed.0; is = refl; inside = inside; in_part = sides.1 });
              },
            )
      ]

  root_hit : (id : RecordId) (page : ℕ) (right : Right) → is_root id ≡ true → (holder : Holder)
      → IsTakenAt (state_of ops) space part rights flush id page right holder
      → is_hit rights right (flush && (is_first_space space && holds part page)) ≡ true
  root_hit id page right top holder taken = and_from (includes rights right) (flush && (is_first_space space && holds part page)) taken.named
      (either taken.which)
    where
      either : ((s : Record) × IsOfChild (state_of ops) part id page holder s) ⊎ IsOfHolder part flush id page holder
          → (flush && (is_first_space space && holds part page)) ≡ true
      either (inl (s, child)) = absurd (false≢true (sym (kept.no_root id s child.held) ∙ top))
      either (inr own) =
          and_from flush (is_first_space space && holds part page) own.flushed
          (and_from (is_first_space space) (holds part page)
          (sym (cond-true (is_root id) (is_first_space space) (is_record_into ((state_of ops).record_at id) space) top)
          ∙ ap (is_into (state_of ops) space) own.is ∙ taken.into)
          own.in_part)

  hit_root : (id : RecordId) (page : ℕ) (right : Right) → is_root id ≡ true
      → is_hit rights right (flush && (is_first_space space && holds part page)) ≡ true
      → (holder : Holder) × IsTakenAt (state_of ops) space part rights flush id page right holder
  hit_root id page right top h =
      let named = and_parts (includes rights right) (flush && (is_first_space space && holds part page)) h in
      let flushed = and_parts flush (is_first_space space && holds part page) named.1 in
      let sides = and_parts (is_first_space space) (holds part page) flushed.1 in (
        record { id = id; place = whole },
        record {
          named = named.0;
          into = cond-true (is_root id) (is_first_space space) (is_record_into ((state_of ops).record_at id) space) top ∙ sides.0;
          place = cond-true (is_root id) (Some whole) (place_of ((state_of ops).record_at id)) top;
          which = inr (record { flushed = flushed.0; is = refl; inside = in_whole page sides.1; in_part = sides.1 });
        },
      )
    where
      in_whole : (page : ℕ) → holds part page ≡ true → holds whole page ≡ true
      in_whole page inside =
          let range = holds_range part page inside in
          whole_holds page (lt-ltb page page_limit (omega (arith, place_part.in_space)))

  either_cut : (id : RecordId) (page : ℕ) (right : Right) (hit : Bool)
      → ((holder : Holder) → IsTakenAt (state_of ops) space part rights flush id page right holder → hit ≡ true)
      → (hit ≡ true → (holder : Holder) × IsTakenAt (state_of ops) space part rights flush id page right holder)
      → (state_of (unmap_candidates ops space (Some part) rights flush)).is_cut id page right ≡ hit
  either_cut id page right hit to from =
      same_test ((state_of (unmap_candidates ops space (Some part) rights flush)).is_cut id page right) hit
      (λ h. let taken = unmap_taken ops kept space part place_part rights flush id page right (atom_held (unmap_candidates ops space (Some part) rights flush)
      (Rev id page right) h) in to taken.0 taken.1)
      (λ h. let taken = from h in atom_kept (unmap_candidates ops space (Some part) rights flush) (Rev id page right)
      (sound_cuts ops kept space part place_part rights flush)
      (take_unmap ops kept space part place_part rights flush id page right taken.0 taken.1))

  first_of_none : (o x : Option Record) → x ≡ None → first_of o x ≡ o
  first_of_none (Some r) x e = refl
  first_of_none None x e = e

  or_false : (a b : Bool) → b ≡ false → (a || b) ≡ a
  or_false true b e = refl
  or_false false b e = e

  -- the candidates are the Unmap of the state
  pub is_unmapped : IsUnmappedState (state_of ops) (join (state_of ops)
      (state_of (unmap_candidates ops space (Some part) rights flush))) space part rights flush
  is_unmapped = record {
    records = λ id. first_of_none ((state_of ops).record_at id) ((state_of (unmap_candidates ops space (Some part) rights flush)).record_at id)
        (no_records id);
    ends = λ other. or_false ((state_of ops).is_ended other) ((state_of (unmap_candidates ops space (Some part) rights flush)).is_ended other)
        (no_ends other);
    kept = λ id page right h. or_left ((state_of ops).is_cut id page right)
        ((state_of (unmap_candidates ops space (Some part) rights flush)).is_cut id page right) h;
    at_root = λ id page right top. ap (λ (b : Bool). (state_of ops).is_cut id page right || b)
        (either_cut id page right (is_hit rights right (flush && (is_first_space space && holds part page))) (root_hit id page right top)
        (hit_root id page right top));
    at_record = λ id r page right other held reach lies. ap (λ (b : Bool). (state_of ops).is_cut id page right || b)
        (either_cut id page right (is_hit rights right ((is_into (state_of ops) space r.parent && holds part (source_page r page))
        || (flush && (is_into (state_of ops) space id && holds part page))))
        (record_hit id r page right held)
        (hit_record id r page right other held (and_parts (holds r.place page) (nat_lt r.parent.number id.number) reach).0 lies));
  }

  -- and take from known names alone
  pub unmap_targets : (id : RecordId) (page : ℕ) (right : Right) → is_root id ≡ false → (state_of ops).record_at id ≡ None
      → (state_of (unmap_candidates ops space (Some part) rights flush)).is_cut id page right ≡ false
  unmap_targets id page right other none = either_cut id page right false (λ holder taken. absurd (unknown holder taken taken.which))
      (λ h. absurd (false≢true h))
    where
      not_known : IsKnown (state_of ops) id → ⊥
      not_known (inl top) = false≢true (sym other ∙ top)
      not_known (inr (s, held)) = none_some s (sym none ∙ held)

      unknown : (holder : Holder) → IsTakenAt (state_of ops) space part rights flush id page right holder
          → ((s : Record) × IsOfChild (state_of ops) part id page holder s) ⊎ IsOfHolder part flush id page holder → ⊥
      unknown holder taken (inl (s, child)) = none_some s (sym none ∙ child.held)
      unknown holder taken (inr own) = not_known (subst (IsKnown (state_of ops)) (sym own.is)
          (place_at-known (state_of ops) holder.id holder.place taken.place))
