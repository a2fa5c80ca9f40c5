-- From one holder to the next that has a right at the page: those between show nothing.
use Rattle.std.proofs.Common.{◌≡◌, ℕ, ◌<◌, Bool, true, refl, sym, ap, subst, ◌∙◌, List, [], ◌∷◌, ◌++◌, length, length-append, arith, inl, inr}
use Rattle.std.specs.Prelude.{Option, Some, None, filter}
use Rattle.std.proofs.lemmas.Bool.{cases_Bool, cond-false, cond-true, false≢true, true≢false}
use Rattle.mapdb_fpage.specs.RightSets.{is_empty}
use Rattle.mapdb_facts.proofs.RecordLemmas.Ascending.{after_at, ascending_records, before_back, before_same, listed_found, after_later}
use Rattle.mapdb_facts.specs.Names.{is_after, is_before}
use Rattle.mapdb_facts.specs.Records.{AllAfter, IsAmong, IsAscending, records_of}
use Rattle.mapdb_facts.specs.State.{State, state_of}
use Rattle.mapdb_facts.specs.WellFormed.{all_formed}
use Rattle.mapdb_facts.specs.declared.names.RecordId.{RecordId}
use Rattle.mapdb_facts.specs.declared.names.Space.{Space}
use Rattle.mapdb_facts.specs.declared.operations.Op.{Op}
use Rattle.mapdb_rights.specs.Frame.{frame_at}
use Rattle.mapdb_rights.specs.Live.{IsLive, IsLiveFrom, IsNextLive}
use Rattle.mapdb_rights.specs.PageRights.{pair_with}
use Rattle.mapdb_rights.specs.Right.{rights_at}
use Rattle.mapdb_replica.specs.Issue.{holders}
use Rattle.mapdb_replica.specs.Pairs.{Pair, holder_pair}
use Rattle.mapdb_replica.specs.declared.pieces.Holder.{Holder}
use Rattle.mapdb_replica.proofs.Maps.HolderNames.{ascending-holders, by_name}
use Rattle.mapdb_replica.proofs.Pages.PairLaws.{into_from, into_to, not_root}

-- the holders whose names come after another
abbrev pub later : Option RecordId → List Holder → List Holder
later after hs = filter (λ (h : Holder). is_after after h.id) hs

keep_all : (test : Holder → Bool) (hs : List Holder) → ((h : Holder) → IsAmong h hs → test h ≡ true) → filter test hs ≡ hs
keep_all test [] all = refl
keep_all test (h ∷ hs) all =
    cond-true (test h) (h ∷ filter test hs) (filter test hs) (all h (inl refl))
    ∙ ap (λ (xs : List Holder). h ∷ xs) (keep_all test hs (λ x k. all x (inr k)))

-- nothing comes before the first
pub all_later : (hs : List Holder) → later None hs ≡ hs
all_later [] = refl
all_later (h ∷ hs) = ap (λ (xs : List Holder). h ∷ xs) (all_later hs)

-- the later ones are some that come before a holder, the holder, and those that come after it
record IsSplit (after : Option RecordId) (h : Holder) (hs skipped : List Holder) : Type 0 where
  pub is : later after hs ≡ skipped ++ h ∷ later (Some h.id) hs
  pub between : (x : Holder) → IsAmong x skipped → IsAmong x hs × (is_after after x.id ≡ true) × (is_before x.id h.id ≡ true)

split_here : (after : Option RecordId) (x : Holder) (xs : List Holder) → AllAfter by_name x.id xs → is_after after x.id ≡ true
    → later after (x ∷ xs) ≡ x ∷ later (Some x.id) (x ∷ xs)
split_here after x xs all above =
    cond-true (is_after after x.id) (x ∷ later after xs) (later after xs) above
    ∙ ap (λ (ys : List Holder). x ∷ ys)
    (keep_all (λ (h : Holder). is_after after h.id) xs (λ h k. after_later after x.id h.id above (after_at by_name x.id xs h all k))
    ∙ sym (cond-false (is_before x.id x.id) (x ∷ later (Some x.id) xs) (later (Some x.id) xs) (before_same x.id)
    ∙ keep_all (λ (h : Holder). is_before x.id h.id) xs (λ h k. after_at by_name x.id xs h all k)))

split : (after : Option RecordId) (h : Holder) (hs : List Holder) → IsAscending by_name hs → IsAmong h hs → is_after after h.id ≡ true
    → (skipped : List Holder) × IsSplit after h hs skipped
split after h [] rising k above = absurd k
split after h (x ∷ xs) rising (inl e) above = (
  [],
  record {
    is = subst (λ (g : Holder). later after (x ∷ xs) ≡ g ∷ later (Some g.id) (x ∷ xs)) e
        (split_here after x xs rising.0 (subst (λ (g : Holder). is_after after g.id ≡ true) (sym e) above));
    between = λ y none. absurd none;
  },
)
split after h (x ∷ xs) rising (inr k) above =
    let low : is_before x.id h.id ≡ true = after_at by_name x.id xs h rising.0 k in
    let rest = split after h xs rising.1 k above in
    let left : later (Some h.id) (x ∷ xs) ≡ later (Some h.id) xs =
    cond-false (is_before h.id x.id) (x ∷ later (Some h.id) xs) (later (Some h.id) xs) (before_back x.id h.id low) in
    elim (cases_Bool (is_after after x.id)) [
      | inl here ↦ (
        x ∷ rest.0,
        record {
          is = cond-true (is_after after x.id) (x ∷ later after xs) (later after xs) here
              ∙ ap (λ (ys : List Holder). x ∷ ys) (rest.1.is ∙ ap (λ (ys : List Holder). rest.0 ++ h ∷ ys) (sym left));
          between = λ y among. elim among [
            | inl e ↦ (inl e, subst (λ (g : Holder). is_after after g.id ≡ true) e here, subst (λ (g : Holder). is_before g.id h.id ≡ true) e low)
            | inr m ↦ let in_rest = rest.1.between y m in (inr in_rest.0, in_rest.1, in_rest.2)
          ];
        },
      )
      | inr there ↦ (
        rest.0,
        record {
          is = cond-false (is_after after x.id) (x ∷ later after xs) (later after xs) there
              ∙ rest.1.is ∙ ap (λ (ys : List Holder). rest.0 ++ h ∷ ys) (sym left);
          between = λ y m. let in_rest = rest.1.between y m in (inr in_rest.0, in_rest.1, in_rest.2);
        },
      )
    ]

-- fewer come after a later one
fewer_later : (after : Option RecordId) (h : Holder) (hs : List Holder) → IsAscending by_name hs → IsAmong h hs → is_after after h.id ≡ true
    → length (later (Some h.id) hs) < length (later after hs)
fewer_later after h hs rising k above =
    let parts = split after h hs rising k above in
    let all : length (later after hs) ≡ length (parts.0 ++ h ∷ later (Some h.id) hs) = ap length parts.1.is in
    let sum = length-append parts.0 (h ∷ later (Some h.id) hs) in
    omega (arith, all, sum)

-- What is gathered from what holders have at the page, one after the other: a holder without a right there adds nothing.
module _ {A : Type 0} (S : State) (page : ℕ) (step : A → Option Pair → A) (idle : (a : A) → step a None ≡ a) where
  abbrev pub over : A → List Holder → A
  over a [] = a
  over a (h ∷ hs) = over (step a (holder_pair S page h.id)) hs

  over_none : (a : A) (xs ys : List Holder) → ((x : Holder) → IsAmong x xs → holder_pair S page x.id ≡ None) → over a (xs ++ ys) ≡ over a ys
  over_none a [] ys none = refl
  over_none a (x ∷ xs) ys none =
      ap (λ (o : Option Pair). over (step a o) (xs ++ ys)) (none x (inl refl))
      ∙ ap (λ (b : A). over b (xs ++ ys)) (idle a)
      ∙ over_none a xs ys (λ y k. none y (inr k))

  pub over_next : (after : Option RecordId) (h : Holder) (hs : List Holder) → IsAscending by_name hs → IsAmong h hs → is_after after h.id ≡ true
      → ((x : Holder) → IsAmong x hs → is_after after x.id ≡ true → is_before x.id h.id ≡ true → holder_pair S page x.id ≡ None)
      → (a : A) → over a (later after hs) ≡ over (step a (holder_pair S page h.id)) (later (Some h.id) hs)
  over_next after h hs rising k above none a =
      let parts = split after h hs rising k above in
      ap (λ (xs : List Holder). over a xs) parts.1.is
      ∙ over_none a parts.0 (h ∷ later (Some h.id) hs)
      (λ x among. let at = parts.1.between x among in none x at.0 at.1 at.2)

  pub over_end : (after : Option RecordId) (hs : List Holder)
      → ((x : Holder) → IsAmong x hs → is_after after x.id ≡ true → holder_pair S page x.id ≡ None) → (a : A) → over a (later after hs) ≡ a
  over_end after [] none a = refl
  over_end after (x ∷ xs) none a = elim (cases_Bool (is_after after x.id)) [
    | inl here ↦
        ap (λ (ys : List Holder). over a ys) (cond-true (is_after after x.id) (x ∷ later after xs) (later after xs) here)
        ∙ ap (λ (o : Option Pair). over (step a o) (later after xs)) (none x (inl refl) here)
        ∙ ap (λ (b : A). over b (later after xs)) (idle a)
        ∙ over_end after xs (λ y k. none y (inr k)) a
    | inr there ↦
        ap (λ (ys : List Holder). over a ys) (cond-false (is_after after x.id) (x ∷ later after xs) (later after xs) there)
        ∙ over_end after xs (λ y k. none y (inr k)) a
  ]

-- The holders of a space, from one live record to the next.
module _ (ops : List Op) (space : Space) (page : ℕ) (all : all_formed ops ≡ true) where
  no_pair : (id : RecordId) → is_empty (rights_at (state_of ops) id page) ≡ true → holder_pair (state_of ops) page id ≡ None
  no_pair id empty = by (frame_at (state_of ops) id page)
    where
      by : (frame : Option ℕ) → pair_with frame (rights_at (state_of ops) id page) ≡ None
      by None = refl
      by (Some f) = cond-true (is_empty (rights_at (state_of ops) id page)) None (Some (f, rights_at (state_of ops) id page)) empty

  quiet : (x : Holder) → IsAmong x (holders (records_of ops) space) → (IsLive (state_of ops) space page x.id → ⊥) → holder_pair (state_of ops) page x.id ≡ None
  quiet x among dead = elim (cases_Bool (is_empty (rights_at (state_of ops) x.id page))) [
    | inl empty ↦ no_pair x.id empty
    | inr some ↦ absurd (dead (record { into = into_to ops space x all among; has_some = some }))
  ]

  rising_holders : IsAscending by_name (holders (records_of ops) space)
  rising_holders = ascending-holders space (records_of ops) (ascending_records ops) (λ r k. not_root ops r all (listed_found ops r k))

  pub fewer_left : (after : Option RecordId) (id : RecordId) → IsNextLive (state_of ops) space page after id
      → length (later (Some id) (holders (records_of ops) space)) < length (later after (holders (records_of ops) space))
  fewer_left after id next =
      let found = into_from ops space id next.live.into in
      subst (λ (i : RecordId). length (later (Some i) (holders (records_of ops) space)) < length (later after (holders (records_of ops) space))) found.2
      (fewer_later after found.0 (holders (records_of ops) space) rising_holders found.1
      (subst (λ (i : RecordId). is_after after i ≡ true) (sym found.2) next.above))

  module _ {A : Type 0} (step : A → Option Pair → A) (idle : (a : A) → step a None ≡ a) where
    abbrev gathered : A → List Holder → A
    gathered a hs = over (state_of ops) page step idle a hs

    pub live_next : (after : Option RecordId) (id : RecordId) → IsNextLive (state_of ops) space page after id
        → (a : A) → gathered a (later after (holders (records_of ops) space))
        ≡ gathered (step a (holder_pair (state_of ops) page id)) (later (Some id) (holders (records_of ops) space))
    live_next after id next a =
        let found = into_from ops space id next.live.into in
        subst (λ (i : RecordId). gathered a (later after (holders (records_of ops) space))
        ≡ gathered (step a (holder_pair (state_of ops) page i)) (later (Some i) (holders (records_of ops) space))) found.2
        (over_next (state_of ops) page step idle after found.0 (holders (records_of ops) space) rising_holders found.1
        (subst (λ (i : RecordId). is_after after i ≡ true) (sym found.2) next.above)
        (λ x among above before. quiet x among (λ live.
        false≢true (sym (next.least x.id live above) ∙ subst (λ (i : RecordId). is_before x.id i ≡ true) found.2 before))) a)

    pub live_end : (after : Option RecordId) → IsLiveFrom (state_of ops) space page after None
        → (a : A) → gathered a (later after (holders (records_of ops) space)) ≡ a
    live_end after none a =
        over_end (state_of ops) page step idle after (holders (records_of ops) space)
        (λ x among above. quiet x among (λ live. true≢false (sym above ∙ none x.id live))) a
