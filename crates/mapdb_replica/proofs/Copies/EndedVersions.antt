-- As many versions of a number as have ended, so many operations there are.
use Rattle.std.proofs.Common.{inl, inr, ◌≡◌, ℕ, zero, suc, ◌+◌, ◌<◌, ◌≤◌, Bool, true, false, refl, sym, ap, subst, ◌∙◌, List, [], ◌∷◌, length, arith}
use Rattle.std.specs.Prelude.{◌||◌, nat_lt, if◌then◌else◌}
use Rattle.std.specs.List.{range_with_len}
use Rattle.std.proofs.lemmas.Bool.{and_parts, or_cases, cond-false, cond-true, false≢true, ltb-false, ltb-true}
use Rattle.indexmap.proofs.IndexTableLemmas.Probe.{pigeonhole}
use Rattle.mapdb_facts.specs.Names.{same_space}
use Rattle.mapdb_facts.specs.State.{State, state_of}
use Rattle.mapdb_facts.specs.WellFormed.{all_formed, is_formed}
use Rattle.mapdb_facts.specs.declared.names.Space.{Space}
use Rattle.mapdb_facts.specs.declared.operations.Op.{Op}
use Rattle.mapdb_facts.specs.declared.operations.Op.TheVariants.{Born, Closed, Cut}
use Rattle.mapdb_facts.proofs.Lists.SameNames.{same_space_true}
use Rattle.mapdb_replica.specs.Versions.{EndBefore, first_free, free_version, versioned_space}

-- the place of the first end of the space
place_of : List Op → Space → ℕ
place_of [] space = 0
place_of (Born r ∷ ops) space = suc (place_of ops space)
place_of (Cut cut ∷ ops) space = suc (place_of ops space)
place_of (Closed other ∷ ops) space = if same_space other space then 0 else suc (place_of ops space)

one_less : (a b : ℕ) → suc a ≡ suc b → a ≡ b
one_less a b e = omega (arith, e)

within_by : (t ended : Bool) (place count : ℕ) → (t || ended) ≡ true → (ended ≡ true → place < count) → (if t then 0 else suc place) < suc count
within_by true ended place count h later = omega arith
within_by false ended place count h later = let low = later h in omega (arith, low)

-- it stands within the list
place_within : (ops : List Op) (space : Space) → (state_of ops).is_ended space ≡ true → place_of ops space < length ops
unfolding place_of
place_within [] space h = absurd (false≢true h)
place_within (Born r ∷ ops) space h = let later = place_within ops space h in omega (arith, later)
place_within (Cut cut ∷ ops) space h = let later = place_within ops space h in omega (arith, later)
place_within (Closed other ∷ ops) space h = within_by (same_space other space) ((state_of ops).is_ended space) (place_of ops space) (length ops) h (place_within ops space)

same_by : (other a b : Space) (s t ended_a ended_b : Bool) (place_a place_b : ℕ) → same_space other a ≡ s → same_space other b ≡ t
    → (s || ended_a) ≡ true → (t || ended_b) ≡ true → (if s then 0 else suc place_a) ≡ (if t then 0 else suc place_b)
    → (ended_a ≡ true → ended_b ≡ true → place_a ≡ place_b → a ≡ b) → a ≡ b
same_by other a b true true ended_a ended_b place_a place_b is also h k e later = sym (same_space_true other a is) ∙ same_space_true other b also
same_by other a b true false ended_a ended_b place_a place_b is also h k e later = absurd (omega (arith, e))
same_by other a b false true ended_a ended_b place_a place_b is also h k e later = absurd (omega (arith, e))
same_by other a b false false ended_a ended_b place_a place_b is also h k e later = later h k (one_less place_a place_b e)

-- spaces that have ended at one place are one
same_place : (ops : List Op) (a b : Space) → (state_of ops).is_ended a ≡ true → (state_of ops).is_ended b ≡ true
    → place_of ops a ≡ place_of ops b → a ≡ b
unfolding place_of
same_place [] a b h k e = absurd (false≢true h)
same_place (Born r ∷ ops) a b h k e = same_place ops a b h k (one_less (place_of ops a) (place_of ops b) e)
same_place (Cut cut ∷ ops) a b h k e = same_place ops a b h k (one_less (place_of ops a) (place_of ops b) e)
same_place (Closed other ∷ ops) a b h k e =
    same_by other a b (same_space other a) (same_space other b) ((state_of ops).is_ended a) ((state_of ops).is_ended b) (place_of ops a) (place_of ops b)
    refl refl h k e (same_place ops a b)

pub few_versions : (ops : List Op) (number count : ℕ) → EndBefore (state_of ops) number count → count ≤ length ops
few_versions ops number count ended =
    pigeonhole count (length ops) (λ v. place_of ops (versioned_space number v))
    (λ v below. place_within ops (versioned_space number v) (ended v below))
    (λ v w below_v below_w e. ap (λ (s : Space). s.version) (same_place ops (versioned_space number v) (versioned_space number w) (ended v below_v) (ended w below_w) e))

-- one more version has ended
pub one_more : (ops : List Op) (number version : ℕ) → EndBefore (state_of ops) number version
    → (state_of ops).is_ended (versioned_space number version) ≡ true → EndBefore (state_of ops) number (version + 1)
one_more ops number version before now earlier less = by (nat_lt earlier version) refl
  where
    by : (t : Bool) → nat_lt earlier version ≡ t → (state_of ops).is_ended (versioned_space number earlier) ≡ true
    by true e = before earlier (ltb-true earlier version e)
    by false e =
        let high : version ≤ earlier = ltb-false earlier version e in
        let same : version ≡ earlier = omega arith in
        subst (λ v. (state_of ops).is_ended (versioned_space number v) ≡ true) same now

-- the first that lives, where those before it have ended
first_found : (S : State) (number start version left : ℕ) → EndBefore S number version → S.is_ended (versioned_space number version) ≡ false
    → start ≤ version → version < start + left → first_free S number (range_with_len start left) ≡ version
first_found S number start version zero before lives low high = absurd (omega (arith, low, high))
first_found S number start version (suc left) before lives low high =
    by (nat_lt start version) refl (first_found S number (start + 1) version left before lives)
  where
    by : (t : Bool) → nat_lt start version ≡ t
        → (start + 1 ≤ version → version < (start + 1) + left → first_free S number (range_with_len (start + 1) left) ≡ version)
        → (if S.is_ended (versioned_space number start) then first_free S number (range_with_len (start + 1) left) else start) ≡ version
    by true e again =
        let less : start < version = ltb-true start version e in
        cond-true (S.is_ended (versioned_space number start)) (first_free S number (range_with_len (start + 1) left)) start (before start less)
        ∙ again (omega (arith, less)) (omega (arith, high))
    by false e again =
        let least : version ≤ start = ltb-false start version e in
        let same : start ≡ version = omega (arith, low, least) in
        cond-false (S.is_ended (versioned_space number start)) (first_free S number (range_with_len (start + 1) left)) start
        (subst (λ v. S.is_ended (versioned_space number v) ≡ false) (sym same) lives) ∙ same

pub first_version : (ops : List Op) (number version : ℕ) → EndBefore (state_of ops) number version
    → (state_of ops).is_ended (versioned_space number version) ≡ false → version ≤ length ops → version ≡ free_version ops number
unfolding free_version
first_version ops number version before lives most =
    sym (first_found (state_of ops) number 0 version (length ops + 1) before lives (omega arith) (omega (arith, most)))

-- no space of the first number ends
root_open : (ops : List Op) (version : ℕ) → all_formed ops ≡ true → (state_of ops).is_ended (versioned_space 0 version) ≡ true → ⊥
root_open [] version formed h = false≢true h
root_open (Born r ∷ ops) version formed h = root_open ops version (and_parts (is_formed (Born r)) (all_formed ops) formed).1 h
root_open (Cut cut ∷ ops) version formed h = root_open ops version (and_parts (is_formed (Cut cut)) (all_formed ops) formed).1 h
root_open (Closed other ∷ ops) version formed h =
    let parts = and_parts (is_formed (Closed other)) (all_formed ops) formed in
    elim (or_cases (same_space other (versioned_space 0 version)) ((state_of ops).is_ended (versioned_space 0 version)) h) [
      | inl same ↦ false≢true (subst (λ (s : Space). is_formed (Closed s) ≡ true) (same_space_true other (versioned_space 0 version) same) parts.0)
      | inr later ↦ root_open ops version parts.1 later
    ]

-- so its first version is the free one
pub root_version : (ops : List Op) (number version : ℕ) → all_formed ops ≡ true → EndBefore (state_of ops) number version → number ≡ 0 → version ≡ 0
root_version ops number zero formed before is = refl
root_version ops number (suc version) formed before is =
    absurd (root_open ops 0 formed (subst (λ n. (state_of ops).is_ended (versioned_space n 0) ≡ true) is (before 0 (omega arith))))
