-- One record after the other is looked at: those that are left out have no right at the page.
use Rattle.std.proofs.Common.{◌≡◌, ℕ, Bool, true, false, refl, sym, ap, subst, ◌∙◌, inl, inr}
use Rattle.std.specs.Prelude.{◌&&◌, nat_lt, not, Option, Some, None, if◌then◌else◌}
use Rattle.std.proofs.Common.{arith}
use Rattle.std.proofs.lemmas.Bool.{and_from, and_parts, cases_Bool, cond-false, false≢true, true≢false}
use Rattle.std.proofs.lemmas.Bool.Decides.{nat_tests}
use Rattle.mapdb_fpage.specs.RightSets.{is_empty}
use Rattle.mapdb_facts.proofs.RecordLemmas.Ascending.{before_else}
use Rattle.mapdb_facts.proofs.Lists.SameNames.{same_id_true, some_same}
use Rattle.mapdb_facts.specs.Looking.{Holds, IsFound, IsNext}
use Rattle.mapdb_facts.specs.Merging.{IsNamed}
use Rattle.mapdb_facts.specs.Names.{is_after, is_before, is_first_space, is_root, number_limit, root, same_id, same_space}
use Rattle.mapdb_facts.specs.WellFormed.{IsFormedRecord}
use Rattle.mapdb_facts.specs.State.{State}
use Rattle.mapdb_facts.specs.declared.names.RecordId.{RecordId}
use Rattle.mapdb_facts.specs.declared.names.Space.{Space}
use Rattle.mapdb_facts.specs.declared.operations.Record.{Record}
use Rattle.mapdb_rights.specs.Live.{IsLive, IsLiveFrom, IsNextLive}
use Rattle.mapdb_rights.specs.PageRights.{is_into, is_record_into}
use Rattle.mapdb_rights.specs.Right.{rights_at}
use Rattle.mapdb_facts.proofs.States.Newness.{not_true}

-- a record of the space is held
record_into : (S : State) (space : Space) (id : RecordId) (o : Option Record) → S.record_at id ≡ o → is_record_into o space ≡ true
    → (r : Record) × (S.record_at id ≡ Some r) × (same_space r.space space ≡ true)
record_into S space id None is h = absurd (false≢true h)
record_into S space id (Some r) is h = (r, is, h)

pub into_held : (S : State) (space : Space) (id : RecordId) → is_root id ≡ false → is_into S space id ≡ true
    → (r : Record) × (S.record_at id ≡ Some r) × (same_space r.space space ≡ true)
into_held S space id apart h = record_into S space id (S.record_at id) refl (drop_root (is_root id) apart h)
  where
    drop_root : (b : Bool) → b ≡ false → (if b then is_first_space space else is_record_into (S.record_at id) space) ≡ true
        → is_record_into (S.record_at id) space ≡ true
    drop_root true e k = absurd (true≢false e)
    drop_root false e k = k

-- a held record with another name than the root's is one of its space
pub held_into : (S : State) (space : Space) (r : Record) → is_root r.id ≡ false → S.record_at r.id ≡ Some r → same_space r.space space ≡ true
    → is_into S space r.id ≡ true
held_into S space r apart held into =
    cond-false (is_root r.id) (is_first_space space) (is_record_into (S.record_at r.id) space) apart
    ∙ ap (λ (o : Option Record). is_record_into o space) held ∙ into

-- a record behind the one before comes from its formed name
pub not_root : (r : Record) → IsFormedRecord r → is_root r.id ≡ false
not_root r formed = other r.id (and_parts (nat_lt 0 r.id.number) (nat_lt r.id.number number_limit) formed.has_number).0
  where
    other : (id : RecordId) → nat_lt 0 id.number ≡ true → is_root id ≡ false
    other id some = grind (arith, nat_tests)

module _ (S : State) (space : Space) (page : ℕ) (after : Option RecordId) where
  -- those that have a right at the page come behind the name
  abbrev pub Further : Option RecordId → Type 0
  Further from = (id : RecordId) → IsLive S space page id → is_after after id ≡ true → is_after from id ≡ true

  -- a record that is looked at has no right at the page: those that have one come behind it
  pub further_next : (from : Option RecordId) (r : Record) → IsNamed S → (IsLive S space page root → is_after after root ≡ false) → IsNext S from r
      → (same_space r.space space && not (is_empty (rights_at S r.id page))) ≡ false → Further from → Further (Some r.id)
  further_next from r named passed next miss further id live above = elim (cases_Bool (is_root id)) [
    | inl is ↦ absurd (false≢true (sym (passed (subst (λ (i : RecordId). IsLive S space page i) (same_id_true id root is) live))
        ∙ subst (λ (i : RecordId). is_after after i ≡ true) (same_id_true id root is) above))
    | inr apart ↦ of_held (into_held S space id apart live.into)
  ]
    where
      of_held : ((s : Record) × (S.record_at id ≡ Some s) × (same_space s.space space ≡ true)) → is_before r.id id ≡ true
      of_held (s, at, in_space) =
          let own : s.id ≡ id = named id s at in
          let held : Holds S s = subst (λ (i : RecordId). S.record_at i ≡ Some s) (sym own) at in
          let behind : is_after from s.id ≡ true = subst (λ (i : RecordId). is_after from i ≡ true) (sym own) (further id live above) in
          let least : is_before id r.id ≡ false = subst (λ (i : RecordId). is_before i r.id ≡ false) own (next.least s held behind) in
          before_else id r.id least (elim (cases_Bool (same_id r.id id)) [
            | inl same ↦
                let e : r.id ≡ id = same_id_true r.id id same in
                let one : s ≡ r = some_same s r (sym at ∙ ap S.record_at (sym e) ∙ next.held) in
                absurd (true≢false (
                sym (and_from (same_space r.space space) (not (is_empty (rights_at S r.id page)))
                (subst (λ (x : Record). same_space x.space space ≡ true) one in_space)
                (ap not (subst (λ (i : RecordId). is_empty (rights_at S i page) ≡ false) (sym e) live.has_some)))
                ∙ miss))
            | inr other ↦ other
          ])

  -- the first that has one is the next
  pub live_here : (from : Option RecordId) (r : Record) → IsNamed S → (IsLive S space page root → is_after after root ≡ false) → IsNext S from r
      → is_root r.id ≡ false → (same_space r.space space && not (is_empty (rights_at S r.id page))) ≡ true → Further from
      → ((id : RecordId) → is_after from id ≡ true → is_after after id ≡ true) → IsNextLive S space page after r.id
  live_here from r named passed next apart is further within =
      let parts = and_parts (same_space r.space space) (not (is_empty (rights_at S r.id page))) is in
      record {
        live = record { into = held_into S space r apart next.held parts.0; has_some = not_true _ parts.1 };
        above = within r.id next.above;
        least = λ other live above. first_of other live (further other live above);
      }
    where
      of_held : (id : RecordId) → is_after from id ≡ true → ((s : Record) × (S.record_at id ≡ Some s) × (same_space s.space space ≡ true)) → is_before id r.id ≡ false
      of_held id behind (s, at, in_space) =
          let own : s.id ≡ id = named id s at in
          subst (λ (i : RecordId). is_before i r.id ≡ false) own
          (next.least s (subst (λ (i : RecordId). S.record_at i ≡ Some s) (sym own) at) (subst (λ (i : RecordId). is_after from i ≡ true) (sym own) behind))

      first_of : (id : RecordId) → IsLive S space page id → is_after from id ≡ true → is_before id r.id ≡ false
      first_of id live behind = elim (cases_Bool (is_root id)) [
        | inl top ↦ absurd (false≢true (sym (passed (subst (λ (i : RecordId). IsLive S space page i) (same_id_true id root top) live))
            ∙ subst (λ (i : RecordId). is_after after i ≡ true) (same_id_true id root top) (within id behind)))
        | inr other ↦ of_held id behind (into_held S space id other live.into)
      ]

  -- behind the last record nothing has a right at the page
  pub none_left : (from : Option RecordId) → IsNamed S → (IsLive S space page root → is_after after root ≡ false) → IsFound S from None → Further from
      → IsLiveFrom S space page after None
  none_left from named passed none further id live = elim (cases_Bool (is_root id)) [
    | inl is ↦ subst (λ (i : RecordId). is_after after i ≡ false) (sym (same_id_true id root is))
        (passed (subst (λ (i : RecordId). IsLive S space page i) (same_id_true id root is) live))
    | inr apart ↦ elim (cases_Bool (is_after after id)) [
      | inl above ↦ of_held (further id live above) (into_held S space id apart live.into)
      | inr below ↦ below
    ]
  ]
    where
      of_held : is_after from id ≡ true → ((s : Record) × (S.record_at id ≡ Some s) × (same_space s.space space ≡ true)) → is_after after id ≡ false
      of_held behind (s, at, in_space) =
          let own : s.id ≡ id = named id s at in
          absurd (true≢false (sym (subst (λ (i : RecordId). is_after from i ≡ true) (sym own) behind)
          ∙ none s (subst (λ (i : RecordId). S.record_at i ≡ Some s) (sym own) at)))
