-- The listed rights of a page are those that some record of the space has there.
use Rattle.std.proofs.Common.{◌≡◌, ℕ, ◌<◌, Bool, true, false, Some, refl, sym, ap, subst, ◌∙◌, List, [], ◌∷◌, inl, inr, arith}
use Rattle.std.specs.Prelude.{◌⊎◌, ◌||◌, ◌==◌, None, Option, filter, map, nat_lt, not, if◌then◌else◌}
use Rattle.std.proofs.lemmas.Bool.{and_parts, cases_Bool, cond-false, cond-true, eqb-true, false≢true, ltb-true, or_cases, or_left, or_right}
use Rattle.std.proofs.lemmas.Bool.Decides.{nat_tests}
use Rattle.mapdb_fpage.proofs.RightLemmas.{some_here}
use Rattle.mapdb_fpage.specs.Place.{whole}
use Rattle.mapdb_fpage.specs.RightSets.{includes, is_empty, union}
use Rattle.mapdb_fpage.specs.declared.right_sets.Right.{Right}
use Rattle.mapdb_fpage.specs.declared.right_sets.Right.TheVariants.{Execute, Read, Write}
use Rattle.mapdb_fpage.specs.declared.right_sets.Rights.{Rights}
use Rattle.mapdb_facts.proofs.Lists.Among.{among_append, among_left, among_right}
use Rattle.mapdb_facts.proofs.RecordLemmas.Ascending.{found_listed, listed_found}
use Rattle.mapdb_facts.proofs.Maps.Atoms.{record_held}
use Rattle.mapdb_facts.proofs.States.Formed.{formed_record}
use Rattle.mapdb_facts.proofs.Lists.SameNames.{same_id_true}
use Rattle.mapdb_facts.specs.Looking.{Holds}
use Rattle.mapdb_facts.specs.Names.{is_first_space, is_root, number_limit, root, same_space}
use Rattle.mapdb_facts.specs.Records.{IsAmong, records_of}
use Rattle.mapdb_facts.specs.State.{State, state_of}
use Rattle.mapdb_facts.specs.WellFormed.{all_formed}
use Rattle.mapdb_facts.specs.declared.names.RecordId.{RecordId}
use Rattle.mapdb_facts.specs.declared.names.Space.{Space}
use Rattle.mapdb_facts.specs.declared.operations.Op.{Op}
use Rattle.mapdb_facts.specs.declared.operations.Record.{Record}
use Rattle.mapdb_rights.specs.Frame.{frame_at}
use Rattle.mapdb_rights.specs.PageRights.{is_into, is_record_into, pair_with}
use Rattle.mapdb_rights.specs.Right.{has_right, rights_at}
use Rattle.mapdb_replica.specs.Issue.{first_holders, holder_of, holders, record_holders}
use Rattle.mapdb_replica.specs.Pairs.{AllAbove, IsRising, ListsRight, PageRightsAreListed, Pair, page_rights, holder_pair, pairs_from, with_pair, with_some}
use Rattle.mapdb_replica.specs.declared.pieces.Holder.{Holder}
use Rattle.mapdb_replica.proofs.Copies.OpForms.{record_formed}
use Rattle.mapdb_rights.proofs.Rights.OneFrameRelation.{some_number, none_some}
use Rattle.mapdb_rights.proofs.Live.FirstRecords.{union_at}

-- a right of a pair
abbrev pub HasIn : Pair → ℕ → Right → Type 0
HasIn pair frame right = (pair.0 ≡ frame) × (includes pair.1 right ≡ true)

joined_to : (pair other : Pair) (frame : ℕ) (right : Right) → pair.0 ≡ other.0 → HasIn (other.0, union other.1 pair.1) frame right → HasIn pair frame right ⊎ HasIn other frame right
joined_to pair other frame right same h =
    elim (or_cases (includes other.1 right) (includes pair.1 right) (sym (union_at other.1 pair.1 right) ∙ h.1)) [
      | inl old ↦ inr (h.0, old)
      | inr new ↦ inl (same ∙ h.0, new)
    ]

joined_from : (pair other : Pair) (frame : ℕ) (right : Right) → pair.0 ≡ other.0 → HasIn pair frame right ⊎ HasIn other frame right → HasIn (other.0, union other.1 pair.1) frame right
joined_from pair other frame right same (inl h) = (sym same ∙ h.0, union_at other.1 pair.1 right ∙ or_right (includes other.1 right) (includes pair.1 right) h.1)
joined_from pair other frame right same (inr h) = (h.0, union_at other.1 pair.1 right ∙ or_left (includes other.1 right) (includes pair.1 right) h.1)

-- what a list has with a pair more
listed_by : (pair other : Pair) (rest : List Pair) (frame : ℕ) (right : Right) (a b : Bool) → (pair.0 == other.0) ≡ b
    → (ListsRight (with_pair pair rest) frame right → HasIn pair frame right ⊎ ListsRight rest frame right)
    → ListsRight (if a then pair ∷ other ∷ rest else (if b then (other.0, union other.1 pair.1) ∷ rest else other ∷ with_pair pair rest)) frame right
    → HasIn pair frame right ⊎ (HasIn other frame right ⊎ ListsRight rest frame right)
listed_by pair other rest frame right true b same later (inl h) = inl h
listed_by pair other rest frame right true b same later (inr h) = inr h
listed_by pair other rest frame right false true same later (inl h) = elim (joined_to pair other frame right (eqb-true pair.0 other.0 same) h) [ inl k ↦ inl k | inr k ↦ inr (inl k) ]
listed_by pair other rest frame right false true same later (inr h) = inr (inr h)
listed_by pair other rest frame right false false same later (inl h) = inr (inl h)
listed_by pair other rest frame right false false same later (inr h) = elim (later h) [ inl k ↦ inl k | inr k ↦ inr (inr k) ]

pub listed_to : (pair : Pair) (pairs : List Pair) (frame : ℕ) (right : Right) → ListsRight (with_pair pair pairs) frame right → HasIn pair frame right ⊎ ListsRight pairs frame right
listed_to pair [] frame right h = h
listed_to pair (other ∷ rest) frame right h = listed_by pair other rest frame right (nat_lt pair.0 other.0) (pair.0 == other.0) refl (listed_to pair rest frame right) h

lists_by : (pair other : Pair) (rest : List Pair) (frame : ℕ) (right : Right) (a b : Bool) → (pair.0 == other.0) ≡ b
    → (HasIn pair frame right ⊎ ListsRight rest frame right → ListsRight (with_pair pair rest) frame right)
    → HasIn pair frame right ⊎ (HasIn other frame right ⊎ ListsRight rest frame right)
    → ListsRight (if a then pair ∷ other ∷ rest else (if b then (other.0, union other.1 pair.1) ∷ rest else other ∷ with_pair pair rest)) frame right
lists_by pair other rest frame right true b same later h = h
lists_by pair other rest frame right false true same later (inl h) = inl (joined_from pair other frame right (eqb-true pair.0 other.0 same) (inl h))
lists_by pair other rest frame right false true same later (inr (inl h)) = inl (joined_from pair other frame right (eqb-true pair.0 other.0 same) (inr h))
lists_by pair other rest frame right false true same later (inr (inr h)) = inr h
lists_by pair other rest frame right false false same later (inl h) = inr (later (inl h))
lists_by pair other rest frame right false false same later (inr (inl h)) = inl h
lists_by pair other rest frame right false false same later (inr (inr h)) = inr (later (inr h))

pub lists_from : (pair : Pair) (pairs : List Pair) (frame : ℕ) (right : Right) → HasIn pair frame right ⊎ ListsRight pairs frame right → ListsRight (with_pair pair pairs) frame right
lists_from pair [] frame right h = h
lists_from pair (other ∷ rest) frame right h = lists_by pair other rest frame right (nat_lt pair.0 other.0) (pair.0 == other.0) refl (lists_from pair rest frame right) h

-- frames rise with a pair more
above-with : (frame : ℕ) (pair : Pair) (pairs : List Pair) → frame < pair.0 → AllAbove frame pairs → AllAbove frame (with_pair pair pairs)
above-with frame pair [] low above = (low, tt)
above-with frame pair (other ∷ rest) low above = step (nat_lt pair.0 other.0) (pair.0 == other.0) (above-with frame pair rest low above.1)
  where
    step : (a b : Bool) → AllAbove frame (with_pair pair rest) → AllAbove frame (if a then pair ∷ other ∷ rest else (if b then (other.0, union other.1 pair.1) ∷ rest else other ∷ with_pair pair rest))
    step true b later = (low, above)
    step false true later = above
    step false false later = (above.0, later)

pub above-lower : (low frame : ℕ) (pairs : List Pair) → low < frame → AllAbove frame pairs → AllAbove low pairs
above-lower low frame [] less above = tt
above-lower low frame (pair ∷ rest) less above = (omega (arith, above.0), above-lower low frame rest less above.1)

or_empty : (a b : Rights) → is_empty a ≡ false → is_empty (union a b) ≡ false
or_empty a b h = step a.read a.write a.execute b.read b.write b.execute h
  where
    step : (p q r x y z : Bool) → not (p || q || r) ≡ false → not ((p || x) || (q || y) || (r || z)) ≡ false
    step true q r x y z h = refl
    step false true r true y z h = refl
    step false true r false y z h = refl
    step false false true true y z h = refl
    step false false true false true z h = refl
    step false false true false false z h = refl
    step false false false x y z h = absurd (false≢true (sym h))

pub rising-with : (pair : Pair) (pairs : List Pair) → is_empty pair.1 ≡ false → IsRising pairs → IsRising (with_pair pair pairs)
rising-with pair [] some rising = (some, tt, tt)
rising-with pair (other ∷ rest) some rising = step (nat_lt pair.0 other.0) (pair.0 == other.0) refl refl (rising-with pair rest some rising.2)
  where
    step : (a b : Bool) → nat_lt pair.0 other.0 ≡ a → (pair.0 == other.0) ≡ b → IsRising (with_pair pair rest) → IsRising (if a then pair ∷ other ∷ rest else (if b then (other.0, union other.1 pair.1) ∷ rest else other ∷ with_pair pair rest))
    step true b less same later = let low : pair.0 < other.0 = ltb-true pair.0 other.0 less in (some, (low, above-lower pair.0 other.0 rest low rising.1), rising)
    step false true less same later = (or_empty other.1 pair.1 rising.0, rising.1, rising.2)
    step false false less same later = (rising.0, above-with other.0 pair rest (grind (arith, nat_tests)) rising.1, later)

-- what a record gives at the page
abbrev pub Gives : State → ℕ → RecordId → ℕ → Right → Type 0
Gives S page id frame right = (frame_at S id page ≡ Some frame) × (has_right S id page right ≡ true)

module _ (S : State) (page : ℕ) where
  pub right_in : (id : RecordId) (right : Right) → includes (rights_at S id page) right ≡ has_right S id page right
  right_in id Read = refl
  right_in id Write = refl
  right_in id Execute = refl

  some_to : (id : RecordId) (known : List Pair) (frame : ℕ) (right : Right) (o : Option ℕ) → frame_at S id page ≡ o → ListsRight (with_some (pair_with o (rights_at S id page)) known) frame right → Gives S page id frame right ⊎ ListsRight known frame right
  some_to id known frame right None is h = inr h
  some_to id known frame right (Some f) is h = by (is_empty (rights_at S id page)) h
    where
      by : (b : Bool) → ListsRight (with_some (if b then None else Some (f, rights_at S id page)) known) frame right → Gives S page id frame right ⊎ ListsRight known frame right
      by true k = inr k
      by false k =
          elim (listed_to (f, rights_at S id page) known frame right k) [
            | inl has ↦ inl (is ∙ ap Some has.0, sym (right_in id right) ∙ has.1)
            | inr old ↦ inr old
          ]

  some_from : (id : RecordId) (known : List Pair) (frame : ℕ) (right : Right) (o : Option ℕ) → frame_at S id page ≡ o → Gives S page id frame right ⊎ ListsRight known frame right → ListsRight (with_some (pair_with o (rights_at S id page)) known) frame right
  some_from id known frame right None is (inl gives) = absurd (none_some frame (sym is ∙ gives.0))
  some_from id known frame right None is (inr h) = h
  some_from id known frame right (Some f) is h = by (is_empty (rights_at S id page)) refl h
    where
      by : (b : Bool) → is_empty (rights_at S id page) ≡ b → Gives S page id frame right ⊎ ListsRight known frame right → ListsRight (with_some (if b then None else Some (f, rights_at S id page)) known) frame right
      by true empty (inl gives) = absurd (false≢true (sym (some_here (rights_at S id page) right (right_in id right ∙ gives.1)) ∙ empty))
      by true empty (inr k) = k
      by false some (inl gives) = lists_from (f, rights_at S id page) known frame right (inl (some_number f frame (sym is ∙ gives.0), right_in id right ∙ gives.1))
      by false some (inr k) = lists_from (f, rights_at S id page) known frame right (inr k)

  pub some_rising : (id : RecordId) (known : List Pair) (o : Option ℕ) → IsRising known → IsRising (with_some (pair_with o (rights_at S id page)) known)
  some_rising id known None rising = rising
  some_rising id known (Some f) rising = by (is_empty (rights_at S id page)) refl
    where
      by : (b : Bool) → is_empty (rights_at S id page) ≡ b → IsRising (with_some (if b then None else Some (f, rights_at S id page)) known)
      by true empty = rising
      by false some = rising-with (f, rights_at S id page) known some rising

  -- what some holder gives
  abbrev SomeGives : List Holder → ℕ → Right → Type 0
  SomeGives hs frame right = (h : Holder) × IsAmong h hs × Gives S page h.id frame right

  from_to : (hs : List Holder) (known : List Pair) (frame : ℕ) (right : Right) → ListsRight (pairs_from S page known hs) frame right → SomeGives hs frame right ⊎ ListsRight known frame right
  unfolding pairs_from
  from_to [] known frame right h = inr h
  from_to (x ∷ xs) known frame right h =
      elim (from_to xs (with_some (holder_pair S page x.id) known) frame right h) [
        | inl found ↦ inl (found.0, inr found.1, found.2)
        | inr k ↦ elim (some_to x.id known frame right (frame_at S x.id page) refl k) [ inl gives ↦ inl (x, inl refl, gives) | inr m ↦ inr m ]
      ]

  from_from : (hs : List Holder) (known : List Pair) (frame : ℕ) (right : Right) → SomeGives hs frame right ⊎ ListsRight known frame right → ListsRight (pairs_from S page known hs) frame right
  unfolding pairs_from
  from_from [] known frame right (inl found) = absurd found.1
  from_from [] known frame right (inr h) = h
  from_from (x ∷ xs) known frame right (inl found) =
      elim found.1 [
        | inl e ↦
            from_from xs (with_some (holder_pair S page x.id) known) frame right
            (inr (some_from x.id known frame right (frame_at S x.id page) refl (inl (subst (λ (h : Holder). Gives S page h.id frame right) (sym e) found.2))))
        | inr k ↦ from_from xs (with_some (holder_pair S page x.id) known) frame right (inl (found.0, k, found.2))
      ]
  from_from (x ∷ xs) known frame right (inr h) = from_from xs (with_some (holder_pair S page x.id) known) frame right (inr (some_from x.id known frame right (frame_at S x.id page) refl (inr h)))

  from_rising : (hs : List Holder) (known : List Pair) → IsRising known → IsRising (pairs_from S page known hs)
  unfolding pairs_from
  from_rising [] known rising = rising
  from_rising (x ∷ xs) known rising = from_rising xs (with_some (holder_pair S page x.id) known) (some_rising x.id known (frame_at S x.id page) rising)

pub not_root : (ops : List Op) (r : Record) → all_formed ops ≡ true → Holds (state_of ops) r → is_root r.id ≡ false
not_root ops r all held =
    let formed = formed_record r (record_formed ops r all (record_held ops r.id r held).0) in
    let number = (and_parts (nat_lt 0 r.id.number) (nat_lt r.id.number number_limit) formed.has_number).0 in
    other r.id number
  where
    other : (id : RecordId) → nat_lt 0 id.number ≡ true → is_root id ≡ false
    other id some = grind (arith, nat_tests)

pub holder_into : (space : Space) (records : List Record) (h : Holder) → IsAmong h (record_holders space records) → (r : Record) × IsAmong r records × (same_space r.space space ≡ true) × (r.id ≡ h.id)
holder_into space [] h k = absurd k
holder_into space (s ∷ rest) h k = step (same_space s.space space) refl (holder_into space rest h) k
  where
    step : (b : Bool) → same_space s.space space ≡ b → (IsAmong h (record_holders space rest) → (r : Record) × IsAmong r rest × (same_space r.space space ≡ true) × (r.id ≡ h.id)) → IsAmong h (map holder_of (if b then s ∷ filter (λ (x : Record). same_space x.space space) rest else filter (λ (x : Record). same_space x.space space) rest)) → (r : Record) × IsAmong r (s ∷ rest) × (same_space r.space space ≡ true) × (r.id ≡ h.id)
    step true into later (inl e) = (s, inl refl, into, ap (λ (x : Holder). x.id) e)
    step true into later (inr m) = let found = later m in (found.0, inr found.1, found.2, found.3)
    step false into later m = let found = later m in (found.0, inr found.1, found.2, found.3)

holder_among : (space : Space) (records : List Record) (r : Record) → same_space r.space space ≡ true → IsAmong r records → IsAmong (holder_of r) (record_holders space records)
holder_among space [] r into k = absurd k
holder_among space (s ∷ rest) r into k = step (same_space s.space space) refl (holder_among space rest r into) k
  where
    step : (b : Bool) → same_space s.space space ≡ b → (IsAmong r rest → IsAmong (holder_of r) (record_holders space rest)) → IsAmong r (s ∷ rest) → IsAmong (holder_of r) (map holder_of (if b then s ∷ filter (λ (x : Record). same_space x.space space) rest else filter (λ (x : Record). same_space x.space space) rest))
    step true is later (inl e) = inl (ap holder_of e)
    step true is later (inr m) = inr (later m)
    step false is later (inl e) = absurd (false≢true (sym is ∙ ap (λ (x : Record). same_space x.space space) e ∙ into))
    step false is later (inr m) = later m

first_into : (S : State) (space : Space) (h : Holder) (b : Bool) → is_first_space space ≡ b → IsAmong h (if b then record { id = root; place = whole } ∷ [] else []) → is_into S space h.id ≡ true
first_into S space h true first (inl e) = subst (λ (x : Holder). is_into S space x.id ≡ true) e first
first_into S space h true first (inr k) = absurd k
first_into S space h false first k = absurd k

first_among : (space : Space) (b : Bool) → b ≡ true → IsAmong {X = Holder} (record { id = root; place = whole }) (if b then record { id = root; place = whole } ∷ [] else [])
first_among space true yet = inl refl
first_among space false yet = absurd (false≢true yet)

pub into_to : (ops : List Op) (space : Space) (h : Holder) → all_formed ops ≡ true → IsAmong h (holders (records_of ops) space) → is_into (state_of ops) space h.id ≡ true
into_to ops space h all k =
    elim (among_append (first_holders space) (record_holders space (records_of ops)) h k) [
      | inl top ↦ first_into (state_of ops) space h (is_first_space space) refl top
      | inr below ↦
          let found = holder_into space (records_of ops) h below in
          let held = listed_found ops found.0 found.1 in
          subst (λ (id : RecordId). is_into (state_of ops) space id ≡ true) found.3
          (cond-false (is_root found.0.id) (is_first_space space) (is_record_into ((state_of ops).record_at found.0.id) space) (not_root ops found.0 all held)
          ∙ ap (λ (o : Option Record). is_record_into o space) held ∙ found.2)
    ]

into_record : (ops : List Op) (space : Space) (id : RecordId) (o : Option Record) → (state_of ops).record_at id ≡ o → is_record_into o space ≡ true → (h : Holder) × IsAmong h (record_holders space (records_of ops)) × (h.id ≡ id)
into_record ops space id None held into = absurd (false≢true into)
into_record ops space id (Some r) held into = let found = found_listed ops id r held in (holder_of r, holder_among space (records_of ops) r into found.0, found.1)

pub into_from : (ops : List Op) (space : Space) (id : RecordId) → is_into (state_of ops) space id ≡ true → (h : Holder) × IsAmong h (holders (records_of ops) space) × (h.id ≡ id)
into_from ops space id into =
    elim (cases_Bool (is_root id)) [
      | inl top ↦
          let first : is_first_space space ≡ true = sym (cond-true (is_root id) (is_first_space space) (is_record_into ((state_of ops).record_at id) space) top) ∙ into in
          (record { id = root; place = whole }, among_left (first_holders space) (record_holders space (records_of ops)) _ (first_among space (is_first_space space) first), sym (same_id_true id root top))
      | inr other ↦
          let found = into_record ops space id ((state_of ops).record_at id) refl (sym (cond-false (is_root id) (is_first_space space) (is_record_into ((state_of ops).record_at id) space) other) ∙ into) in
          (found.0, among_right (first_holders space) (record_holders space (records_of ops)) found.0 found.1, found.2)
    ]

pub page_rights_are_listed : PageRightsAreListed
unfolding page_rights
page_rights_are_listed ops space page all = (
  from_rising (state_of ops) page (holders (records_of ops) space) [] tt,
  λ frame right. (
    (λ h. elim (from_to (state_of ops) page (holders (records_of ops) space) [] frame right h) [
      | inl found ↦ (found.0.id, into_to ops space found.0 all found.1, found.2.1, found.2.0)
      | inr none ↦ absurd none
    ]),
    (λ pair. let found = into_from ops space pair.0 pair.1 in
        from_from (state_of ops) page (holders (records_of ops) space) [] frame right
        (inl (found.0, found.1, subst (λ (id : RecordId). Gives (state_of ops) page id frame right) (sym found.2) (pair.3, pair.2)))),
  ),
)
