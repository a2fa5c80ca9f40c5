-- What settling pages comes to.
use Rattle.std.proofs.Common.{◌≡◌, ℕ, suc, ◌+◌, ◌-◌, ◌*◌, ◌^◌, ◌<◌, ◌≤◌, List, [], ◌∷◌, ◌++◌, Bool, true, false, refl, sym, ap, subst, ◌∙◌, arith, inl, inr, mul-le-mul_left, mul-le-mul_right}
use Rattle.std.proofs.Math.Nat.{one-le-pow, pow-succ'}
use Rattle.std.specs.Prelude.{◌⊎◌, ◌&&◌, Some, nat_le, nat_lt, nat_eq, if◌then◌else◌}
use Rattle.std.specs.Bool.{beq}
use Rattle.std.proofs.lemmas.Bool.{and_from, and_parts, cases_Bool, cond-false, cond-true, eq-eqb, false≢true, lt-ltb, ltb-true}
use Rattle.std.proofs.lemmas.Grind.{common_steps}
use Rattle.mapdb_fpage.specs.Bounds.{page_limit}
use Rattle.mapdb_fpage.specs.Place.{holds}
use Rattle.mapdb_fpage.specs.RightSets.{no_rights}
use Rattle.mapdb_fpage.specs.declared.right_sets.Rights.{Rights}
use Rattle.mapdb_fpage.specs.RightSets.{same_rights}
use Rattle.mapdb_facts.specs.Exact.{exact_id}
use Rattle.mapdb_facts.specs.Looking.{Holds}
use Rattle.mapdb_facts.specs.Merging.{IsNamed}
use Rattle.mapdb_facts.specs.Names.{is_root, number_limit, same_id}
use Rattle.mapdb_facts.specs.State.{State}
use Rattle.mapdb_facts.specs.WellFormed.{IsFormedRecord}
use Rattle.mapdb_facts.specs.declared.names.RecordId.{RecordId}
use Rattle.mapdb_facts.specs.declared.operations.Record.{Record}
use Rattle.mapdb_lists.specs.Changes.{Cached, covers}
use Rattle.mapdb_rights.specs.Right.{reaches, source_page}
use Rattle.mapdb_rights.specs.declared.index.stale.Stale.{Stale}
use Rattle.mapdb_rights.specs.Caching.{IsSettled, IsTakenAnew, rights_from}
use Rattle.mapdb_rights.specs.Pending.{AreSettledBut, IsPending, share, weight, worth}
use Rattle.mapdb_rights.specs.Revoked.{IsRevoked}
use Rattle.mapdb_rights.proofs.Rights.Revoked.{revoked_from, revoked_settled}
use Rattle.mapdb_rights.proofs.Settling.Ended.{numbered_is_other}
use Rattle.mapdb_rights.proofs.Settling.Pendings.{pending_either, weight-last}
use Rattle.mapdb_rights.proofs.Rights.Settled.{settling_unsettles_children}
use Rattle.mapdb_fpage.specs.RightBits.{beq_itself}

-- ---- which pages are covered

is_from : (a b : ℕ) → nat_le a b ≡ true → a ≤ b
is_from a b h = grind (arith, common_steps)

to_from : (a b : ℕ) → a ≤ b → nat_le a b ≡ true
to_from a b h = grind (arith, common_steps)

pub record Covered (id : RecordId) (first end : ℕ) (other : RecordId) (page : ℕ) : Type 0 where
  pub same : id ≡ other
  pub from : first ≤ page
  pub before : page < end

pub covered : (id : RecordId) (first end : ℕ) (other : RecordId) (page : ℕ) → covers id first end other page ≡ true → Covered id first end other page
covered id first end other page h =
    let p = and_parts (same_id id other) (nat_le first page && nat_lt page end) h in
    let q = and_parts (nat_le first page) (nat_lt page end) p.1 in
    record { same = exact_id id other p.0; from = is_from first page q.0; before = ltb-true page end q.1 }

pub to_covers : (id : RecordId) (first end page : ℕ) → first ≤ page → page < end → covers id first end id page ≡ true
to_covers id first end page from before =
    and_from (same_id id id) (nat_le first page && nat_lt page end)
    (and_from (nat_eq id.number id.number) (nat_eq id.processor id.processor) (eq-eqb id.number id.number refl) (eq-eqb id.processor id.processor refl))
    (and_from (nat_le first page) (nat_lt page end) (to_from first page from) (lt-ltb page end before))

-- pages are those of a first part, or those of the rest
pub covers_parts : (id : RecordId) (first middle end : ℕ) (other : RecordId) (page : ℕ) → covers id first end other page ≡ true
    → (covers id first middle other page ≡ true) ⊎ (covers id middle end other page ≡ true)
covers_parts id first middle end other page h =
    let c = covered id first end other page h in
    elim (before_or_from page middle) [
      | inl before ↦ inl (subst (λ (o : RecordId). covers id first middle o page ≡ true) c.same (to_covers id first middle page c.from before))
      | inr from ↦ inr (subst (λ (o : RecordId). covers id middle end o page ≡ true) c.same (to_covers id middle end page from c.before))
    ]
  where
    before_or_from : (a b : ℕ) → (a < b) ⊎ (b ≤ a)
    before_or_from a b = grind arith

-- ---- what a run is settled to

module _ (S : State) (old new : Cached) (id : RecordId) (first end : ℕ) (rights : Rights)
    (is : (q : ℕ) → first ≤ q → q < end → rights ≡ rights_from old S id q) where
  -- over the run the rights are those that come from the parent
  from_parent : (other : RecordId) (page : ℕ) → covers id first end other page ≡ true → rights ≡ rights_from old S other page
  from_parent other page h =
      let c = covered id first end other page h in
      is page c.from c.before ∙ ap (λ (o : RecordId). rights_from old S o page) c.same

  -- nothing has to be written
  pub settled_already : ((q : ℕ) → first ≤ q → q < end → old id q ≡ rights) → (other : RecordId) (page : ℕ)
      → IsSettled S old other page ⊎ (covers id first end other page ≡ true) → IsSettled S old other page
  settled_already kept other page (inl settled) = settled
  settled_already kept other page (inr inside) =
      let c = covered id first end other page inside in
      subst (λ (o : RecordId). IsSettled S old o page) c.same (kept page c.from c.before ∙ is page c.from c.before)

  module _ (written : (other : RecordId) (page : ℕ) → new other page ≡ (if covers id first end other page then rights else old other page)) where
    taken : IsTakenAnew S old id first end new
    taken other page =
        elim (cases_Bool (covers id first end other page)) [
          | inl inside ↦
              written other page ∙ cond-true (covers id first end other page) rights (old other page) inside ∙ from_parent other page inside
              ∙ sym (cond-true (covers id first end other page) (rights_from old S other page) (old other page) inside)
          | inr out ↦
              written other page ∙ cond-false (covers id first end other page) rights (old other page) out
              ∙ sym (cond-false (covers id first end other page) (rights_from old S other page) (old other page) out)
        ]

    rights_itself : (a : Rights) → same_rights a a ≡ true
    rights_itself a = and_from (beq a.read a.read) _ (beq_itself a.read) (and_from (beq a.write a.write) (beq a.execute a.execute) (beq_itself a.write) (beq_itself a.execute))

    -- other rights stand only where some were written
    written_there : (other : RecordId) (page : ℕ) → same_rights (new other page) (old other page) ≡ false → covers id first end other page ≡ true
    written_there other page differ =
        elim (cases_Bool (covers id first end other page)) [
          | inl inside ↦ inside
          | inr out ↦ absurd (false≢true (sym differ
              ∙ ap (λ v. same_rights v (old other page)) (written other page ∙ cond-false (covers id first end other page) rights (old other page) out)
              ∙ rights_itself (old other page)))
        ]

    -- a record that is revoked has nothing, whatever its parent has
    left_settled : IsNamed S → ((r : Record) → Holds S r → IsFormedRecord r) → (other : RecordId) (r : Record) → S.record_at other ≡ Some r → IsRevoked S r → (page : ℕ) → holds r.place page ≡ true
        → IsSettled S old other page ⊎ (covers id first end other page ≡ true) → IsSettled S new other page
    left_settled named formed other r at revoked page inside before =
        subst (λ (o : RecordId). IsSettled S new o page) name
        (nothing (subst (λ (o : RecordId). IsSettled S old o page ⊎ (covers id first end o page ≡ true)) (sym name) before))
      where
        name : r.id ≡ other
        name = named other r at

        held : S.record_at r.id ≡ Some r
        held = ap S.record_at name ∙ at

        not_root : is_root r.id ≡ false
        not_root = numbered_is_other r.id (formed r held).has_number

        none : rights_from old S r.id page ≡ no_rights
        none = revoked_from S r revoked not_root held old page inside

        written_none : (t : Bool) → covers id first end r.id page ≡ t → (t ≡ true) ⊎ (old r.id page ≡ no_rights) → new r.id page ≡ no_rights
        written_none true c either = taken r.id page ∙ cond-true (covers id first end r.id page) (rights_from old S r.id page) (old r.id page) c ∙ none
        written_none false c (inl t) = absurd (false≢true t)
        written_none false c (inr kept) = taken r.id page ∙ cond-false (covers id first end r.id page) (rights_from old S r.id page) (old r.id page) c ∙ kept

        nothing : IsSettled S old r.id page ⊎ (covers id first end r.id page ≡ true) → IsSettled S new r.id page
        nothing (inl settled) = revoked_settled S r revoked not_root held old new page inside (written_none (covers id first end r.id page) refl (inr (settled ∙ none)))
        nothing (inr inside_run) = revoked_settled S r revoked not_root held old new page inside (written_none (covers id first end r.id page) refl (inl inside_run))

    pub settled_after : IsNamed S → ((r : Record) → Holds S r → IsFormedRecord r) → (stack : List Stale)
        → ((other : RecordId) (r : Record) → S.record_at other ≡ Some r → r.parent ≡ id → (page : ℕ) → holds r.place page ≡ true → first ≤ source_page r page → source_page r page < end
        → IsRevoked S r ⊎ IsPending stack other page)
        → (other : RecordId) (page : ℕ) → IsSettled S old other page ⊎ (covers id first end other page ≡ true) → IsSettled S new other page ⊎ IsPending stack other page
    settled_after named formed stack pushed other page before =
        elim (settling_unsettles_children S old new id first end taken other page before) [
          | inl settled ↦ inl settled
          | inr unsettled ↦ child_left unsettled.0 unsettled.1 unsettled.2 unsettled.3
        ]
      where
        child_left : (r : Record) → S.record_at other ≡ Some r → reaches other r page ≡ true → same_rights (new r.parent (source_page r page)) (old r.parent (source_page r page)) ≡ false
            → IsSettled S new other page ⊎ IsPending stack other page
        child_left r held reach differ =
            let c = covered id first end r.parent (source_page r page) (written_there r.parent (source_page r page) differ) in
            let inside : holds r.place page ≡ true = (and_parts (holds r.place page) (nat_lt r.parent.number other.number) reach).0 in
            elim (pushed other r held (sym c.same) page inside c.from c.before) [
              | inl revoked ↦ inl (left_settled named formed other r held revoked page inside before)
              | inr pending ↦ inr pending
            ]

-- ---- one step

pub step_settled : (S : State) (cached new : Cached) (old middle after : List Stale) (stale : Stale) (end : ℕ)
    → AreSettledBut S cached (old ++ stale ∷ [])
    → ((id : RecordId) (page : ℕ) → IsPending old id page → IsPending middle id page)
    → ((id : RecordId) (page : ℕ) → covers stale.id end stale.end id page ≡ true → IsPending middle id page)
    → ((id : RecordId) (page : ℕ) → IsPending middle id page → IsPending after id page)
    → ((id : RecordId) (page : ℕ) → IsSettled S cached id page ⊎ (covers stale.id stale.first end id page ≡ true) → IsSettled S new id page ⊎ IsPending after id page)
    → AreSettledBut S new after
step_settled S cached new old middle after stale end before kept rest later run id page =
    elim (before id page) [
      | inl settled ↦ run id page (inl settled)
      | inr pending ↦ elim (pending_either old stale id page pending) [
        | inl front ↦ inr (later id page (kept id page front))
        | inr last ↦ elim (covers_parts stale.id stale.first end stale.end id page last) [
          | inl first ↦ run id page (inr first)
          | inr behind ↦ inr (later id page (rest id page behind))
        ]
      ]
    ]

pub step_empty : (S : State) (cached : Cached) (old : List Stale) (stale : Stale) → stale.end ≤ stale.first → AreSettledBut S cached (old ++ stale ∷ []) → AreSettledBut S cached old
step_empty S cached old stale empty before id page =
    elim (before id page) [
      | inl settled ↦ inl settled
      | inr pending ↦ elim (pending_either old stale id page pending) [
        | inl front ↦ inr front
        | inr last ↦ absurd (none (covered stale.id stale.first stale.end id page last))
      ]
    ]
  where
    none : Covered stale.id stale.first stale.end id page → ⊥
    none c = let from = c.from in let later = c.before in omega arith

-- ---- what is left counts less

worth-step : (base number : ℕ) → number < number_limit → worth base number ≡ base * worth base (number + 1)
unfolding worth
worth-step base number below =
    let e : number_limit - number ≡ suc (number_limit - (number + 1)) = omega arith in
    ap (λ k. base ^ k) e ∙ pow-succ' base (number_limit - (number + 1))

worth-some : (base number : ℕ) → 0 < base → 1 ≤ worth base number
unfolding worth
worth-some base number some = one-le-pow (number_limit - number) base some

-- children count less than one page of their parent
children_count : (n w : ℕ) → 1 ≤ w → n * (1 + page_limit * w) + 1 ≤ (n * (1 + page_limit) + 1) * w
children_count n w some =
    let one : 1 + page_limit * w ≤ (1 + page_limit) * w = omega arith in
    let all = mul-le-mul_left {m = 1 + page_limit * w} {n = (1 + page_limit) * w} n one in
    grind (arith, all)

pub weight_falls : (n : ℕ) (old middle after : List Stale) (stale : Stale) (end : ℕ) → stale.first < end → end ≤ stale.end
    → weight (n * (1 + page_limit) + 1) middle ≤ weight (n * (1 + page_limit) + 1) old + (1 + (stale.end - end) * worth (n * (1 + page_limit) + 1) stale.id.number)
    → weight (n * (1 + page_limit) + 1) after ≤ weight (n * (1 + page_limit) + 1) middle + n * share (n * (1 + page_limit) + 1) (stale.id.number + 1)
    → weight (n * (1 + page_limit) + 1) after < weight (n * (1 + page_limit) + 1) (old ++ stale ∷ [])
weight_falls n old middle after stale end some within to_middle to_after =
    let base : ℕ = n * (1 + page_limit) + 1 in
    let w : ℕ = worth base stale.id.number in
    let last = weight-last base old stale in
    let few = children_count n (worth base (stale.id.number + 1)) (worth-some base (stale.id.number + 1) (omega arith)) in
    let step = worth-step base stale.id.number stale.named in
    let falls = mul-le-mul_right {m = (stale.end - end) + 1} {n = stale.end - stale.first} w (omega arith) in
    grind (arith, last, few, step, falls, to_middle, to_after)
