-- The names of the records of a space that have a right at a page ascend, and come one after the other.
use Rattle.std.proofs.Common.{◌≡◌, ℕ, ◌<◌, Bool, true, false, Some, refl, sym, ap, subst, ◌∙◌, List, [], ◌∷◌, ◌++◌, append_assoc, append-nil, length, arith, inl, inr}
use Rattle.std.specs.Prelude.{◌&&◌, not, Option, None, filter, map, if◌then◌else◌}
use Rattle.std.proofs.lemmas.Bool.{and_from, and_parts, cases_Bool, cond-true, false≢true, true≢false}
use Rattle.mapdb_fpage.specs.RightSets.{is_empty}
use Rattle.mapdb_facts.proofs.Lists.Among.{among_append, among_left, among_right}
use Rattle.mapdb_facts.proofs.RecordLemmas.Ascending.{after_from, among_find, ascending_records, before_else, by_id, find_among, root_before, after_later}
use Rattle.mapdb_facts.proofs.RecordLemmas.Listed.{find_listed}
use Rattle.mapdb_facts.proofs.Lists.SameLists.{same_lists}
use Rattle.mapdb_facts.proofs.Lists.SameNames.{same_id_true}
use Rattle.mapdb_facts.specs.Facts.{births, records_of_facts, state_of_facts}
use Rattle.mapdb_facts.specs.Kept.{names_in}
use Rattle.mapdb_facts.specs.Looking.{Holds}
use Rattle.mapdb_facts.specs.Merging.{IsNamed}
use Rattle.mapdb_facts.specs.Names.{is_after, is_before, is_first_space, is_root, root, same_id, same_space}
use Rattle.mapdb_facts.specs.Records.{AllAfter, IsAmong, IsAscending}
use Rattle.mapdb_facts.specs.State.{State}
use Rattle.mapdb_facts.specs.WellFormed.{IsFormedRecord}
use Rattle.mapdb_facts.specs.declared.holding.Facts.{Facts}
use Rattle.mapdb_facts.specs.declared.names.RecordId.{RecordId}
use Rattle.mapdb_facts.specs.declared.names.Space.{Space}
use Rattle.mapdb_facts.specs.declared.operations.Record.{Record}
use Rattle.mapdb_rights.specs.Live.{IsLive, IsLiveFrom, IsNextLive, is_live_record, live_names}
use Rattle.mapdb_rights.specs.PageRights.{is_record_into}
use Rattle.mapdb_rights.specs.Right.{rights_at}
use Rattle.mapdb_rights.proofs.Live.LiveRecords.{held_into, into_held, not_root}
use Rattle.mapdb_rights.proofs.Lists.NamedRecords.{itself}
use Rattle.mapdb_rights.proofs.Lists.Passing.{among_filter, ascending_filter, filter_among}
use Rattle.mapdb_facts.proofs.States.Newness.{not_true}

-- ---- names of records

among_names : (xs : List Record) (r : Record) → IsAmong r xs → IsAmong r.id (map by_id xs)
among_names [] r k = absurd k
among_names (s ∷ xs) r (inl e) = inl (ap by_id e)
among_names (s ∷ xs) r (inr k) = inr (among_names xs r k)

names_among : (xs : List Record) (id : RecordId) → IsAmong id (map by_id xs) → (r : Record) × IsAmong r xs × (r.id ≡ id)
names_among [] id k = absurd k
names_among (s ∷ xs) id (inl e) = (s, inl refl, e)
names_among (s ∷ xs) id (inr k) = let found = names_among xs id k in (found.0, inr found.1, found.2)

after_names : (id : RecordId) (xs : List Record) → AllAfter by_id id xs → AllAfter itself id (map by_id xs)
after_names id [] h = tt
after_names id (s ∷ xs) h = (h.0, after_names id xs h.1)

ascending_names : (xs : List Record) → IsAscending by_id xs → IsAscending itself (map by_id xs)
ascending_names [] rising = tt
ascending_names (s ∷ xs) rising = (after_names s.id xs rising.0, ascending_names xs rising.1)

-- a list without members is empty
no_members : (names : List RecordId) → ((id : RecordId) → IsAmong id names → ⊥) → names ≡ []
no_members [] none = refl
no_members (id ∷ names) none = absurd (none id (inl refl))

-- those of the names that come after another
abbrev pub names_behind : Option RecordId → List RecordId → List RecordId
names_behind after names = filter (is_after after) names

pub behind_none : (names : List RecordId) → names_behind None names ≡ names
behind_none [] = refl
behind_none (id ∷ names) = ap (λ (rest : List RecordId). id ∷ rest) (behind_none names)

module _ (facts : Facts) (space : Space) (page : ℕ) (named : IsNamed (state_of_facts facts))
    (formed : (r : Record) → Holds (state_of_facts facts) r → IsFormedRecord r) where
  abbrev S : State
  S = state_of_facts facts

  abbrev records : List Record
  records = records_of_facts facts

  abbrev live_records : List Record
  live_records = filter (is_live_record S space page) records

  -- the root is one of them
  abbrev has_root : Bool
  has_root = is_first_space space && not (is_empty (rights_at S root page))

  abbrev names : List RecordId
  names = live_names S records space page

  ascending : IsAscending by_id records
  ascending = ascending_records (births S (names_in facts.records))

  -- ---- which they are

  record Listed (r : Record) : Type 0 where
    held : Holds S r
    into : same_space r.space space ≡ true
    some : is_empty (rights_at S r.id page) ≡ false

  listed_here : (r : Record) → IsAmong r live_records → Listed r
  listed_here r k =
      let found = filter_among (is_live_record S space page) records r k in
      let parts = and_parts (same_space r.space space) (not (is_empty (rights_at S r.id page))) found.1 in
      record { held = sym (find_listed facts named r.id) ∙ among_find records r ascending found.0; into = parts.0; some = not_true _ parts.1 }

  record_live : (id : RecordId) → IsAmong id (map by_id live_records) → IsLive S space page id
  record_live id k =
      let found = names_among live_records id k in
      let listed = listed_here found.0 found.1 in
      subst (λ (i : RecordId). IsLive S space page i) found.2
      (record { into = held_into S space found.0 (not_root found.0 (formed found.0 listed.held)) listed.held listed.into; has_some = listed.some })

  root_live : (id : RecordId) (b : Bool) → has_root ≡ b → IsAmong id (if b then root ∷ [] else []) → IsLive S space page id
  root_live id false none k = absurd k
  root_live id true has (inr k) = absurd k
  root_live id true has (inl e) =
      let parts = and_parts (is_first_space space) (not (is_empty (rights_at S root page))) has in
      subst (λ (i : RecordId). IsLive S space page i) e (record { into = parts.0; has_some = not_true _ parts.1 })

  among_live : (id : RecordId) → IsAmong id names → IsLive S space page id
  among_live id k =
      elim (among_append (if has_root then root ∷ [] else []) (map by_id live_records) id k) [
        | inl first ↦ root_live id has_root refl first
        | inr later ↦ record_live id later
      ]

  root_among : (b : Bool) → b ≡ true → IsAmong root (if b then root ∷ [] else [])
  root_among true e = inl refl
  root_among false e = absurd (false≢true e)

  live_among : (id : RecordId) → IsLive S space page id → IsAmong id names
  live_among id live =
      elim (cases_Bool (is_root id)) [
        | inl top ↦
            let is : id ≡ root = same_id_true id root top in
            let first : is_first_space space ≡ true = sym (cond-true (is_root id) (is_first_space space) (is_record_into (S.record_at id) space) top) ∙ live.into in
            let some : is_empty (rights_at S root page) ≡ false = subst (λ (i : RecordId). is_empty (rights_at S i page) ≡ false) is live.has_some in
            subst (λ (i : RecordId). IsAmong i names) (sym is)
            (among_left (if has_root then root ∷ [] else []) (map by_id live_records) root
            (root_among has_root (and_from (is_first_space space) (not (is_empty (rights_at S root page))) first (ap not some))))
        | inr other ↦ of_held (into_held S space id other live.into)
      ]
    where
      of_held : ((r : Record) × (S.record_at id ≡ Some r) × (same_space r.space space ≡ true)) → IsAmong id names
      of_held (r, at, in_space) =
          let own : r.id ≡ id = named id r at in
          let some : is_empty (rights_at S r.id page) ≡ false = subst (λ (i : RecordId). is_empty (rights_at S i page) ≡ false) (sym own) live.has_some in
          let there : IsAmong r records = (find_among records id r (find_listed facts named id ∙ at)).0 in
          let here : IsAmong r live_records =
          among_filter (is_live_record S space page) records r there (and_from (same_space r.space space) (not (is_empty (rights_at S r.id page))) in_space (ap not some)) in
          subst (λ (i : RecordId). IsAmong i names) own
          (among_right (if has_root then root ∷ [] else []) (map by_id live_records) r.id (among_names live_records r here))

  -- ---- their order

  rising : IsAscending itself names
  rising = by has_root
    where
      later : IsAscending itself (map by_id live_records)
      later = ascending_names live_records (ascending_filter (is_live_record S space page) by_id records ascending)

      behind_root : (id : RecordId) → IsAmong id (map by_id live_records) → is_before root id ≡ true
      behind_root id k =
          let found = names_among live_records id k in
          let listed = listed_here found.0 found.1 in
          subst (λ (i : RecordId). is_before root i ≡ true) found.2 (root_before found.0.id (not_root found.0 (formed found.0 listed.held)))

      by : (b : Bool) → IsAscending itself ((if b then root ∷ [] else []) ++ map by_id live_records)
      by true = (after_from itself root (map by_id live_records) behind_root, later)
      by false = later

  -- the next comes first of those that are left
  next_first : (after : Option RecordId) (id : RecordId) → IsNextLive S space page after id → names_behind after names ≡ id ∷ names_behind (Some id) names
  next_first after id next =
      same_lists itself (names_behind after names) (id ∷ names_behind (Some id) names) (ascending_filter (is_after after) itself names rising) (
        after_from itself id (names_behind (Some id) names) (λ other k. (filter_among (is_after (Some id)) names other k).1),
        ascending_filter (is_after (Some id)) itself names rising,
      )
      (record { to = to; from = from })
    where
      to : (other : RecordId) → IsAmong other (names_behind after names) → IsAmong other (id ∷ names_behind (Some id) names)
      to other k =
          let found = filter_among (is_after after) names other k in
          elim (cases_Bool (same_id id other)) [
            | inl same ↦ inl (same_id_true id other same)
            | inr apart ↦ inr (among_filter (is_after (Some id)) names other found.0 (before_else other id (next.least other (among_live other found.0) found.1) apart))
          ]

      from : (other : RecordId) → IsAmong other (id ∷ names_behind (Some id) names) → IsAmong other (names_behind after names)
      from other (inl e) =
          subst (λ (i : RecordId). IsAmong i (names_behind after names)) e (among_filter (is_after after) names id (live_among id next.live) next.above)
      from other (inr k) =
          let found = filter_among (is_after (Some id)) names other k in
          among_filter (is_after after) names other found.0 (after_later after id other next.above found.1)

  -- one name more was found
  pub next_found : (after : Option RecordId) (id : RecordId) (old new : List RecordId) → IsNextLive S space page after id → new ≡ old ++ id ∷ []
      → old ++ names_behind after names ≡ names → new ++ names_behind (Some id) names ≡ names
  next_found after id old new next more h =
      ap (λ (xs : List RecordId). xs ++ names_behind (Some id) names) more
      ∙ append_assoc old (id ∷ []) (names_behind (Some id) names)
      ∙ ap (λ (xs : List RecordId). old ++ xs) (sym (next_first after id next)) ∙ h

  -- behind the last none is left
  pub all_found : (after : Option RecordId) (found : List RecordId) → IsLiveFrom S space page after None
      → found ++ names_behind after names ≡ names → found ≡ names
  all_found after found none h =
      sym (append-nil found)
      ∙ ap (λ (xs : List RecordId). found ++ xs)
      (sym (no_members (names_behind after names) (λ id k.
      let left = filter_among (is_after after) names id k in
      true≢false (sym left.1 ∙ none id (among_live id left.0)))))
      ∙ h

  -- fewer are left
  pub fewer_left : (after : Option RecordId) (id : RecordId) → IsNextLive S space page after id → length (names_behind (Some id) names) < length (names_behind after names)
  fewer_left after id next = let e : length (names_behind after names) ≡ length (id ∷ names_behind (Some id) names) = ap length (next_first after id next) in omega arith
