-- The records of a list are listed once each in ascending order, and follow from its state.
use Rattle.std.proofs.Common.{◌≡◌, ℕ, zero, suc, ◌<◌, ◌≤◌, Bool, true, false, Some, refl, sym, ap, subst, ◌∙◌, List, [], ◌∷◌, inl, inr, arith}
use Rattle.std.specs.Prelude.{◌↔◌, Option, None, max, if◌then◌else◌}
use Rattle.std.proofs.lemmas.Bool.{cases_Bool, cond-true, cond-false, false≢true}
use Rattle.std.proofs.lemmas.Bool.Decides.{nat_tests}
use Rattle.mapdb_facts.specs.declared.names.RecordId.{RecordId}
use Rattle.mapdb_facts.specs.declared.operations.Op.{Op}
use Rattle.mapdb_facts.specs.declared.operations.Op.TheVariants.{Born, Closed, Cut}
use Rattle.mapdb_facts.specs.declared.operations.Record.{Record}
use Rattle.mapdb_facts.specs.Looking.{IsFound, IsGreatest, IsNext}
use Rattle.mapdb_facts.specs.Names.{is_after, is_before, is_root, root, same_id}
use Rattle.mapdb_facts.specs.Records.{AllAfter, ComesNext, IsAmong, IsAscending, behind, greatest_number, placed, records_of}
use Rattle.mapdb_facts.specs.State.{State, first_of, state_of}
use Rattle.mapdb_facts.proofs.Lists.SameNames.{none_some, same_id_at, same_id_true, some_same}

-- the first record of this name
abbrev pub find_record : List Record → RecordId → Option Record
find_record [] id = None
find_record (r ∷ rest) id = if same_id r.id id then Some r else find_record rest id

-- names in order
pub before_else : (a b : RecordId) → is_before a b ≡ false → same_id b a ≡ false → is_before b a ≡ true
before_else a b = before_numbers a.number a.processor b.number b.processor
  where
    before_numbers : (n p m q : ℕ) → is_before (record { number = n; processor = p }) (record { number = m; processor = q }) ≡ false → same_id (record { number = m; processor = q }) (record { number = n; processor = p }) ≡ false → is_before (record { number = m; processor = q }) (record { number = n; processor = p }) ≡ true
    before_numbers n p m q x y = grind (arith, nat_tests)

pub before_trans : (a b c : RecordId) → is_before a b ≡ true → is_before b c ≡ true → is_before a c ≡ true
before_trans a b c x y = grind (arith, nat_tests)

pub before_other : (a b : RecordId) → is_before a b ≡ true → same_id a b ≡ false
before_other a b x = grind (arith, nat_tests)

pub root_before : (id : RecordId) → is_root id ≡ false → is_before root id ≡ true
root_before id x = grind (arith, nat_tests)

-- the look-up among placed records
swap : {A : Type 0} → (p q : Bool) (x y z : A) → (p ≡ true → q ≡ false) → (if p then x else (if q then y else z)) ≡ (if q then y else (if p then x else z))
swap true true x y z h = absurd (false≢true (sym (h refl)))
swap true false x y z h = refl
swap false q x y z h = refl

shadow : {A : Type 0} → (p q : Bool) (x y z : A) → (p ≡ false → q ≡ false) → (if p then x else z) ≡ (if p then x else (if q then y else z))
shadow true q x y z h = refl
shadow false true x y z h = absurd (false≢true (sym (h refl)))
shadow false false x y z h = refl

find_step : (r s : Record) (rest : List Record) (id : RecordId) (b1 b2 : Bool) → is_before s.id r.id ≡ b1 → same_id r.id s.id ≡ b2
    → find_record (placed r rest) id ≡ (if same_id r.id id then Some r else find_record rest id)
    → find_record (if b1 then s ∷ placed r rest else (if b2 then r ∷ rest else r ∷ s ∷ rest)) id ≡ (if same_id r.id id then Some r else (if same_id s.id id then Some s else find_record rest id))
find_step r s rest id true b2 first same again =
    ap (λ (v : Option Record). if same_id s.id id then Some s else v) again
    ∙ swap (same_id s.id id) (same_id r.id id) (Some s) (Some r) (find_record rest id)
    (λ h. let e : s.id ≡ id = same_id_true s.id id h in
    other (subst (λ (x : RecordId). is_before x r.id ≡ true) e first))
  where
    other : is_before id r.id ≡ true → same_id r.id id ≡ false
    other x = grind (arith, nat_tests)
find_step r s rest id false true first same again =
    shadow (same_id r.id id) (same_id s.id id) (Some r) (Some s) (find_record rest id)
    (λ h. subst (λ (x : RecordId). same_id x id ≡ false) (same_id_true r.id s.id same) h)
find_step r s rest id false false first same again = refl

find_placed : (r : Record) (xs : List Record) (id : RecordId) → find_record (placed r xs) id ≡ (if same_id r.id id then Some r else find_record xs id)
find_placed r [] id = refl
find_placed r (s ∷ rest) id = find_step r s rest id (is_before s.id r.id) (same_id r.id s.id) refl refl (find_placed r rest id)

first_is : (b : Bool) (r : Record) (o : Option Record) → (if b then Some r else o) ≡ first_of (if b then Some r else None) o
first_is true r o = refl
first_is false r o = refl

-- the look-up among the records of a list is the look-up of the state
pub find_records : (ops : List Op) (id : RecordId) → find_record (records_of ops) id ≡ (state_of ops).record_at id
find_records [] id = refl
find_records (Born r ∷ ops) id =
    find_placed r (records_of ops) id
    ∙ ap (λ (v : Option Record). if same_id r.id id then Some r else v) (find_records ops id)
    ∙ first_is (same_id r.id id) r ((state_of ops).record_at id)
find_records (Cut cut ∷ ops) id = find_records ops id
find_records (Closed space ∷ ops) id = find_records ops id

-- the order
abbrev pub by_id : Record → RecordId
by_id r = r.id

pub after_from : {X : Type 0} → (name : X → RecordId) (id : RecordId) (xs : List X) → ((x : X) → IsAmong x xs → is_before id (name x) ≡ true) → AllAfter name id xs
after_from name id [] h = tt
after_from name id (x ∷ xs) h = (h x (inl refl), after_from name id xs (λ y k. h y (inr k)))

pub after_at : {X : Type 0} → (name : X → RecordId) (id : RecordId) (xs : List X) (x : X) → AllAfter name id xs → IsAmong x xs → is_before id (name x) ≡ true
after_at name id [] x h k = absurd k
after_at name id (y ∷ ys) x h (inl e) = subst (λ z. is_before id (name z) ≡ true) e h.0
after_at name id (y ∷ ys) x h (inr k) = after_at name id ys x h.1 k

pub after_trans : {X : Type 0} → (name : X → RecordId) (a b : RecordId) (xs : List X) → is_before a b ≡ true → AllAfter name b xs → AllAfter name a xs
after_trans name a b xs first h = after_from name a xs (λ x k. before_trans a b (name x) first (after_at name b xs x h k))

after_step : (id : RecordId) (r s : Record) (rest : List Record) (b1 b2 : Bool) → is_before id r.id ≡ true → AllAfter by_id id (s ∷ rest) → AllAfter by_id id (placed r rest)
    → AllAfter by_id id (if b1 then s ∷ placed r rest else (if b2 then r ∷ rest else r ∷ s ∷ rest))
after_step id r s rest true b2 first h again = (h.0, again)
after_step id r s rest false true first h again = (first, h.1)
after_step id r s rest false false first h again = (first, h)

after_placed : (id : RecordId) (r : Record) (xs : List Record) → is_before id r.id ≡ true → AllAfter by_id id xs → AllAfter by_id id (placed r xs)
after_placed id r [] first h = (first, tt)
after_placed id r (s ∷ rest) first h = after_step id r s rest (is_before s.id r.id) (same_id r.id s.id) first h (after_placed id r rest first h.1)

ascending_step : (r s : Record) (rest : List Record) (b1 b2 : Bool) → is_before s.id r.id ≡ b1 → same_id r.id s.id ≡ b2 → IsAscending by_id (s ∷ rest) → IsAscending by_id (placed r rest)
    → IsAscending by_id (if b1 then s ∷ placed r rest else (if b2 then r ∷ rest else r ∷ s ∷ rest))
ascending_step r s rest true b2 first same h again = (after_placed s.id r rest first h.0, again)
ascending_step r s rest false true first same h again = (subst (λ (x : RecordId). AllAfter by_id x rest) (sym (same_id_true r.id s.id same)) h.0, h.1)
ascending_step r s rest false false first same h again =
    let now : is_before r.id s.id ≡ true = before_else s.id r.id first same in
    ((now, after_trans by_id r.id s.id rest now h.0), h)

ascending_placed : (r : Record) (xs : List Record) → IsAscending by_id xs → IsAscending by_id (placed r xs)
ascending_placed r [] h = (tt, tt)
ascending_placed r (s ∷ rest) h = ascending_step r s rest (is_before s.id r.id) (same_id r.id s.id) refl refl h (ascending_placed r rest h.1)

pub ascending_records : (ops : List Op) → IsAscending by_id (records_of ops)
ascending_records [] = tt
ascending_records (Born r ∷ ops) = ascending_placed r (records_of ops) (ascending_records ops)
ascending_records (Cut cut ∷ ops) = ascending_records ops
ascending_records (Closed space ∷ ops) = ascending_records ops

-- what is listed is found, and what is found is listed
pub among_find : (xs : List Record) (r : Record) → IsAscending by_id xs → IsAmong r xs → find_record xs r.id ≡ Some r
among_find [] r h k = absurd k
among_find (s ∷ rest) r h (inl e) = cond-true (same_id s.id r.id) _ _ (same_id_at s.id r.id (ap by_id e)) ∙ ap Some e
among_find (s ∷ rest) r h (inr k) = cond-false (same_id s.id r.id) _ _ (before_other s.id r.id (after_at by_id s.id rest r h.0 k)) ∙ among_find rest r h.1 k

pub find_among : (xs : List Record) (id : RecordId) (r : Record) → find_record xs id ≡ Some r → IsAmong r xs × (r.id ≡ id)
find_among [] id r h = absurd (none_some r h)
find_among (s ∷ rest) id r h =
    elim (cases_Bool (same_id s.id id)) [
      | inl hit ↦
          let e : s ≡ r = some_same s r (sym (cond-true (same_id s.id id) (Some s) (find_record rest id) hit) ∙ h) in
          (inl e, ap by_id (sym e) ∙ same_id_true s.id id hit)
      | inr miss ↦
          let found = find_among rest id r (sym (cond-false (same_id s.id id) (Some s) (find_record rest id) miss) ∙ h) in
          (inr found.0, found.1)
    ]

pub listed_found : (ops : List Op) (r : Record) → IsAmong r (records_of ops) → (state_of ops).record_at r.id ≡ Some r
listed_found ops r k = sym (find_records ops r.id) ∙ among_find (records_of ops) r (ascending_records ops) k

pub found_listed : (ops : List Op) (id : RecordId) (r : Record) → (state_of ops).record_at id ≡ Some r → IsAmong r (records_of ops) × (r.id ≡ id)
found_listed ops id r h = find_among (records_of ops) id r (find_records ops id ∙ h)

pub records_are_listed : (ops : List Op) → IsAscending (λ (r : Record). r.id) (records_of ops) × ((r : Record) → IsAmong r (records_of ops) ↔ ((state_of ops).record_at r.id ≡ Some r))
records_are_listed ops = (ascending_records ops, λ r. (listed_found ops r, λ h. (found_listed ops r.id r h).0))

-- What comes next in an ascending list.
all_behind : (id : RecordId) (xs : List Record) → AllAfter by_id id xs → behind (Some id) xs ≡ xs
all_behind id [] h = refl
all_behind id (x ∷ xs) h = cond-true (is_before id x.id) (x ∷ behind (Some id) xs) (behind (Some id) xs) h.0 ∙ ap (λ (ys : List Record). x ∷ ys) (all_behind id xs h.1)

pub after_later : (after : Option RecordId) (a b : RecordId) → is_after after a ≡ true → is_before a b ≡ true → is_after after b ≡ true
after_later None a b h k = refl
after_later (Some id) a b h k = before_trans id a b h k

all_after : (after : Option RecordId) (id : RecordId) (xs : List Record) → is_after after id ≡ true → AllAfter by_id id xs → behind after xs ≡ xs
all_after after id [] above h = refl
all_after after id (x ∷ xs) above h =
    cond-true (is_after after x.id) (x ∷ behind after xs) (behind after xs) (after_later after id x.id above h.0)
    ∙ ap (λ (ys : List Record). x ∷ ys) (all_after after id xs above h.1)

pub before_same : (a : RecordId) → is_before a a ≡ false
before_same a = grind (arith, nat_tests)

pub before_back : (a b : RecordId) → is_before a b ≡ true → is_before b a ≡ false
before_back a b h = grind (arith, nat_tests)

next_step : (after : Option RecordId) (r x : Record) (xs : List Record) (b : Bool) → is_after after x.id ≡ b → AllAfter by_id x.id xs → IsAmong r (x ∷ xs) → is_after after r.id ≡ true
    → ((s : Record) → IsAmong s (x ∷ xs) → is_after after s.id ≡ true → is_before s.id r.id ≡ false)
    → (IsAmong r xs → behind after xs ≡ r ∷ behind (Some r.id) xs)
    → (if b then x ∷ behind after xs else behind after xs) ≡ r ∷ behind (Some r.id) (x ∷ xs)
next_step after r x xs true passes rising (inl e) above least later =
    subst (λ (s : Record). x ∷ behind after xs ≡ s ∷ behind (Some s.id) (x ∷ xs)) e
    (ap (λ (ys : List Record). x ∷ ys)
    (all_after after x.id xs passes rising ∙ sym (all_behind x.id xs rising)
    ∙ sym (cond-false (is_before x.id x.id) (x ∷ behind (Some x.id) xs) (behind (Some x.id) xs) (before_same x.id))))
next_step after r x xs true passes rising (inr k) above least later =
    absurd (false≢true (sym (least x (inl refl) passes) ∙ after_at by_id x.id xs r rising k))
next_step after r x xs false passes rising (inl e) above least later =
    absurd (false≢true (sym passes ∙ ap (λ (s : Record). is_after after s.id) e ∙ above))
next_step after r x xs false passes rising (inr k) above least later =
    later k
    ∙ ap (λ (ys : List Record). r ∷ ys) (sym (cond-false (is_before r.id x.id) (x ∷ behind (Some r.id) xs) (behind (Some r.id) xs) (before_back x.id r.id (after_at by_id x.id xs r rising k))))

next_of_list : (after : Option RecordId) (r : Record) (xs : List Record) → IsAscending by_id xs → IsAmong r xs → is_after after r.id ≡ true
    → ((s : Record) → IsAmong s xs → is_after after s.id ≡ true → is_before s.id r.id ≡ false) → behind after xs ≡ r ∷ behind (Some r.id) xs
next_of_list after r [] rising k above least = absurd k
next_of_list after r (x ∷ xs) rising k above least =
    next_step after r x xs (is_after after x.id) refl rising.0 k above least
    (λ m. next_of_list after r xs rising.1 m above (λ s n p. least s (inr n) p))

last_of_list : (after : Option RecordId) (xs : List Record) → ((s : Record) → IsAmong s xs → is_after after s.id ≡ false) → behind after xs ≡ []
last_of_list after [] h = refl
last_of_list after (x ∷ xs) h = cond-false (is_after after x.id) (x ∷ behind after xs) (behind after xs) (h x (inl refl)) ∙ last_of_list after xs (λ s k. h s (inr k))

-- the next record, with those that come after it
pub behind-next : (ops : List Op) (after : Option RecordId) (r : Record) → IsNext (state_of ops) after r → behind after (records_of ops) ≡ r ∷ behind (Some r.id) (records_of ops)
behind-next ops after r next =
    next_of_list after r (records_of ops) (ascending_records ops) (found_listed ops r.id r next.held).0 next.above
    (λ s k above. next.least s (listed_found ops s k) above)

pub behind-last : (ops : List Op) (after : Option RecordId) → IsFound (state_of ops) after None → behind after (records_of ops) ≡ []
behind-last ops after none = last_of_list after (records_of ops) (λ s k. none s (listed_found ops s k))

pub comes_next : (ops : List Op) (after : Option RecordId) (result : Option Record) → IsFound (state_of ops) after result → ComesNext (records_of ops) after result
comes_next ops after None found = behind-last ops after found
comes_next ops after (Some r) found = behind-next ops after r found

-- the greatest number
pub most_of : (xs : List Record) (r : Record) → IsAmong r xs → r.id.number ≤ greatest_number xs
most_of [] r k = absurd k
most_of (x ∷ xs) r (inl e) = subst (λ (s : Record). s.id.number ≤ max x.id.number (greatest_number xs)) e (omega arith)
most_of (x ∷ xs) r (inr k) = let low : r.id.number ≤ greatest_number xs = most_of xs r k in omega arith

least_most : (xs : List Record) (n : ℕ) → ((r : Record) → IsAmong r xs → r.id.number ≤ n) → greatest_number xs ≤ n
least_most [] n h = omega arith
least_most (x ∷ xs) n h =
    let here : x.id.number ≤ n = h x (inl refl) in
    let later : greatest_number xs ≤ n = least_most xs n (λ r k. h r (inr k)) in
    omega arith

pub greatest-number : (ops : List Op) (n : ℕ) → IsGreatest (state_of ops) n → n ≡ greatest_number (records_of ops)
greatest-number ops n is =
    let low : greatest_number (records_of ops) ≤ n = least_most (records_of ops) n (λ r k. is.most r (listed_found ops r k)) in
    let high : n ≤ greatest_number (records_of ops) = at_most n (λ some. reached some) in
    omega arith
  where
    reached : 0 < n → n ≤ greatest_number (records_of ops)
    reached some =
        let held = is.held some in
        let most : held.0.id.number ≤ greatest_number (records_of ops) = most_of (records_of ops) held.0 (found_listed ops held.0.id held.0 held.1).0 in
        subst (λ m. m ≤ greatest_number (records_of ops)) held.2 most

    at_most : (m : ℕ) → (0 < m → m ≤ greatest_number (records_of ops)) → m ≤ greatest_number (records_of ops)
    at_most zero h = omega arith
    at_most (suc m) h = h (omega arith)

-- Ascending lists with the same look-ups are one list.
not_found : (xs : List Record) (id : RecordId) → AllAfter by_id id xs → find_record xs id ≡ None
not_found [] id h = refl
not_found (x ∷ xs) id h = cond-false (same_id x.id id) (Some x) (find_record xs id) (differ id x.id h.0) ∙ not_found xs id h.1
  where
    differ : (a b : RecordId) → is_before a b ≡ true → same_id b a ≡ false
    differ a b k = grind (arith, nat_tests)

same_head : (x y : Record) (xs ys : List Record) → IsAscending by_id (x ∷ xs) → IsAscending by_id (y ∷ ys) → IsAmong x (y ∷ ys) → IsAmong y (x ∷ xs) → x ≡ y
same_head x y xs ys rising rising' (inl e) k = sym e
same_head x y xs ys rising rising' (inr h) (inl e) = e
same_head x y xs ys rising rising' (inr h) (inr k) =
    absurd (false≢true (sym (before_back x.id y.id (after_at by_id x.id xs y rising.0 k)) ∙ after_at by_id y.id ys x rising'.0 h))

tail_found : (x : Record) (xs ys : List Record) → AllAfter by_id x.id xs → AllAfter by_id x.id ys → ((id : RecordId) → find_record (x ∷ xs) id ≡ find_record (x ∷ ys) id) → (id : RecordId) → find_record xs id ≡ find_record ys id
tail_found x xs ys rising rising' same id =
    elim (cases_Bool (same_id x.id id)) [
      | inl hit ↦ subst (λ (i : RecordId). find_record xs i ≡ find_record ys i) (same_id_true x.id id hit) (not_found xs x.id rising ∙ sym (not_found ys x.id rising'))
      | inr miss ↦ sym (cond-false (same_id x.id id) (Some x) (find_record xs id) miss) ∙ same id ∙ cond-false (same_id x.id id) (Some x) (find_record ys id) miss
    ]

pub same_lists : (xs ys : List Record) → IsAscending by_id xs → IsAscending by_id ys → ((id : RecordId) → find_record xs id ≡ find_record ys id) → xs ≡ ys
same_lists [] [] rising rising' same = refl
same_lists [] (y ∷ ys) rising rising' same = absurd (none_some y (same y.id ∙ among_find (y ∷ ys) y rising' (inl refl)))
same_lists (x ∷ xs) [] rising rising' same = absurd (none_some x (sym (same x.id) ∙ among_find (x ∷ xs) x rising (inl refl)))
same_lists (x ∷ xs) (y ∷ ys) rising rising' same =
    let in_ys = (find_among (y ∷ ys) x.id x (sym (same x.id) ∙ among_find (x ∷ xs) x rising (inl refl))).0 in
    let in_xs = (find_among (x ∷ xs) y.id y (same y.id ∙ among_find (y ∷ ys) y rising' (inl refl))).0 in
    let head : x ≡ y = same_head x y xs ys rising rising' in_ys in_xs in
    let after' : AllAfter by_id x.id ys = subst (λ (s : Record). AllAfter by_id s.id ys) (sym head) rising'.0 in
    let same' : (id : RecordId) → find_record (x ∷ xs) id ≡ find_record (x ∷ ys) id = λ id. same id ∙ ap (λ (s : Record). find_record (s ∷ ys) id) (sym head) in
    let tail : xs ≡ ys = same_lists xs ys rising.1 rising'.1 (tail_found x xs ys rising.0 after' same') in
    λ i. head i ∷ tail i

pub records_of-state : (xs ys : List Op) → state_of xs ≡ state_of ys → records_of xs ≡ records_of ys
records_of-state xs ys same =
    same_lists (records_of xs) (records_of ys) (ascending_records xs) (ascending_records ys)
    (λ id. find_records xs id ∙ ap (λ (S : State). S.record_at id) same ∙ sym (find_records ys id))
