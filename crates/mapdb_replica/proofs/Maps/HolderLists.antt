-- The holders of a space are the names into it, with their places.
use Rattle.std.proofs.Common.{◌≡◌, Bool, true, false, Some, refl, sym, ap, subst, ◌∙◌, List, [], ◌∷◌, inl, inr}
use Rattle.std.specs.Prelude.{Option, None, map, filter, if◌then◌else◌}
use Rattle.std.proofs.lemmas.Bool.{cases_Bool, cond-true, cond-false, false≢true}
use Rattle.mapdb_fpage.specs.Place.{Place, whole}
use Rattle.mapdb_facts.proofs.Lists.Among.{among_append, among_left, among_right}
use Rattle.mapdb_facts.proofs.RecordLemmas.Ascending.{found_listed, listed_found}
use Rattle.mapdb_facts.proofs.Lists.SameNames.{same_id_true}
use Rattle.mapdb_facts.specs.Names.{is_first_space, is_root, root, same_space}
use Rattle.mapdb_facts.specs.Records.{IsAmong, records_of}
use Rattle.mapdb_facts.specs.State.{State, state_of}
use Rattle.mapdb_facts.specs.declared.names.RecordId.{RecordId}
use Rattle.mapdb_facts.specs.declared.names.Space.{Space}
use Rattle.mapdb_facts.specs.declared.operations.Op.{Op}
use Rattle.mapdb_facts.specs.declared.operations.Record.{Record}
use Rattle.mapdb_replica.specs.Issue.{holder_of, holders}
use Rattle.mapdb_replica.specs.declared.pieces.Holder.{Holder}
use Rattle.mapdb_rights.specs.PageRights.{is_into, is_record_into}

-- no record is named as the root is
abbrev pub HasNoRoot : List Op → Type 0
HasNoRoot ops = (id : RecordId) (r : Record) → (state_of ops).record_at id ≡ Some r → is_root id ≡ false

-- the place of this name
abbrev pub place_of : Option Record → Option Place
place_of None = None
place_of (Some r) = Some r.place

abbrev pub place_at : State → RecordId → Option Place
place_at S id = if is_root id then Some whole else place_of (S.record_at id)

-- the holders that are records
abbrev of_space : Space → Record → Bool
of_space space r = same_space r.space space

abbrev holders_among : Space → List Record → List Holder
holders_among space xs = map holder_of (filter (of_space space) xs)

record_step : (space : Space) (s : Record) (xs : List Record) (h : Holder) (b : Bool) → same_space s.space space ≡ b
    → IsAmong h (map holder_of (if b then s ∷ filter (of_space space) xs else filter (of_space space) xs))
    → (IsAmong h (holders_among space xs) → (r : Record) × IsAmong r xs × (same_space r.space space ≡ true) × (holder_of r ≡ h))
    → (r : Record) × IsAmong r (s ∷ xs) × (same_space r.space space ≡ true) × (holder_of r ≡ h)
record_step space s xs h true into (inl e) later = (s, inl refl, into, e)
record_step space s xs h true into (inr k) later = let found = later k in (found.0, inr found.1, found.2, found.3)
record_step space s xs h false into k later = let found = later k in (found.0, inr found.1, found.2, found.3)

record_of_holder : (space : Space) (xs : List Record) (h : Holder) → IsAmong h (holders_among space xs)
    → (r : Record) × IsAmong r xs × (same_space r.space space ≡ true) × (holder_of r ≡ h)
record_of_holder space [] h k = absurd k
record_of_holder space (s ∷ xs) h k = record_step space s xs h (same_space s.space space) refl k (record_of_holder space xs h)

holder_step : (space : Space) (s : Record) (xs : List Record) (r : Record) (b : Bool) → same_space s.space space ≡ b → same_space r.space space ≡ true
    → IsAmong r (s ∷ xs)
    → (IsAmong r xs → IsAmong (holder_of r) (holders_among space xs))
    → IsAmong (holder_of r) (map holder_of (if b then s ∷ filter (of_space space) xs else filter (of_space space) xs))
holder_step space s xs r true is into (inl e) later = inl (ap holder_of e)
holder_step space s xs r true is into (inr k) later = inr (later k)
holder_step space s xs r false is into (inl e) later = absurd (false≢true (sym is ∙ ap (λ (x : Record). same_space x.space space) e ∙ into))
holder_step space s xs r false is into (inr k) later = later k

holder_of_record : (space : Space) (xs : List Record) (r : Record) → same_space r.space space ≡ true → IsAmong r xs
    → IsAmong (holder_of r) (holders_among space xs)
holder_of_record space [] r into k = absurd k
holder_of_record space (s ∷ xs) r into k = holder_step space s xs r (same_space s.space space) refl into k (holder_of_record space xs r into)

-- which they are
abbrev IsHolding : State → Space → Holder → Type 0
IsHolding S space h = (is_into S space h.id ≡ true) × (place_at S h.id ≡ Some h.place)

root_holding : (S : State) (space : Space) (h : Holder) (b : Bool) → is_first_space space ≡ b
    → IsAmong h (if b then record { id = root; place = whole } ∷ [] else []) → IsHolding S space h
root_holding S space h true first (inl e) = subst (IsHolding S space) e (first, refl)
root_holding S space h true first (inr k) = absurd k
root_holding S space h false first k = absurd k

record_holding : (S : State) (space : Space) (r : Record) → is_root r.id ≡ false → S.record_at r.id ≡ Some r → same_space r.space space ≡ true
    → IsHolding S space (holder_of r)
record_holding S space r other held into = (
  cond-false (is_root r.id) (is_first_space space) (is_record_into (S.record_at r.id) space) other
      ∙ ap (λ (o : Option Record). is_record_into o space) held ∙ into,
  cond-false (is_root r.id) (Some whole) (place_of (S.record_at r.id)) other ∙ ap place_of held,
)

pub holder_held : (ops : List Op) (space : Space) → HasNoRoot ops → (h : Holder) → IsAmong h (holders (records_of ops) space)
    → IsHolding (state_of ops) space h
holder_held ops space no_root h k =
    elim (among_append (if is_first_space space then record { id = root; place = whole } ∷ [] else []) (holders_among space (records_of ops)) h k) [
      | inl top ↦ root_holding (state_of ops) space h (is_first_space space) refl top
      | inr below ↦
          let found = record_of_holder space (records_of ops) h below in
          let held = listed_found ops found.0 found.1 in
          subst (IsHolding (state_of ops) space) found.3 (record_holding (state_of ops) space found.0 (no_root found.0.id found.0 held) held found.2)
    ]

some_place : (a b : Place) → Some a ≡ Some b → a ≡ b
some_place a b e = cc

record_case : (ops : List Op) (space : Space) (h : Holder) (o : Option Record) → (state_of ops).record_at h.id ≡ o → is_record_into o space ≡ true
    → place_of o ≡ Some h.place → IsAmong h (holders_among space (records_of ops))
record_case ops space h None held into place = absurd (false≢true into)
record_case ops space h (Some r) held into place =
    let found = found_listed ops h.id r held in
    let same : r.place ≡ h.place = some_place r.place h.place place in
    let is : holder_of r ≡ h = λ i. record { id = found.1 i; place = same i } in
    subst (λ (x : Holder). IsAmong x (holders_among space (records_of ops))) is (holder_of_record space (records_of ops) r into found.0)

root_among : (space : Space) (h : Holder) (b : Bool) → is_first_space space ≡ b → b ≡ true → record { id = root; place = whole } ≡ h
    → IsAmong h (if b then record { id = root; place = whole } ∷ [] else [])
root_among space h true first yet is = inl is
root_among space h false first yet is = absurd (false≢true yet)

pub held_holder : (ops : List Op) (space : Space) (h : Holder) → is_into (state_of ops) space h.id ≡ true
    → place_at (state_of ops) h.id ≡ Some h.place → IsAmong h (holders (records_of ops) space)
held_holder ops space h into place =
    elim (cases_Bool (is_root h.id)) [
      | inl top ↦
          let first : is_first_space space ≡ true = sym (cond-true (is_root h.id) (is_first_space space)
          (is_record_into ((state_of ops).record_at h.id) space) top) ∙ into in
          let all : whole ≡ h.place = some_place whole h.place
          (sym (cond-true (is_root h.id) (Some whole) (place_of ((state_of ops).record_at h.id)) top) ∙ place) in
          let named : root ≡ h.id = sym (same_id_true h.id root top) in
          among_left (if is_first_space space then record { id = root; place = whole } ∷ [] else []) (holders_among space (records_of ops)) h
          (root_among space h (is_first_space space) refl first (λ i. record { id = named i; place = all i }))
      | inr other ↦
          among_right (if is_first_space space then record { id = root; place = whole } ∷ [] else []) (holders_among space (records_of ops)) h
          (record_case ops space h ((state_of ops).record_at h.id) refl
          (sym (cond-false (is_root h.id) (is_first_space space) (is_record_into ((state_of ops).record_at h.id) space) other) ∙ into)
          (sym (cond-false (is_root h.id) (Some whole) (place_of ((state_of ops).record_at h.id)) other) ∙ place))
    ]
