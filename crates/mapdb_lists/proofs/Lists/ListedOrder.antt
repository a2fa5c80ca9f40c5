-- How entries are ordered: those of one owner by order, first page and name.
use Rattle.std.proofs.Common.{◌≡◌, ℕ, Bool, ◌<◌, ◌≤◌, true, false, refl, sym, ap, subst, ◌∙◌, arith, inl, inr}
use Rattle.std.specs.Prelude.{◌⊎◌, ◌&&◌, nat_eq}
use Rattle.std.specs.BTreeMap.{is_at}
use Rattle.std.specs.Cmp.{IsTotalOrder, nat_cmp_is, tied_then}
use Rattle.std.specs.Ordering.{is_eq, is_gt, is_lt, nat_cmp, ordering_reverse, ordering_then}
use Rattle.std.specs.declared.cmp.Ordering.{Ordering}
use Rattle.std.specs.declared.cmp.Ordering.TheVariants.{Equal, Greater, Less}
use Rattle.std.proofs.lemmas.Bool.{and_from, and_parts, eq-eqb, eqb-true, false≢true, true≢false}
use Rattle.std.proofs.lemmas.Cmp.{nat_cmp_total, on_total, then_total, tied_itself}
use Rattle.mapdb_facts.proofs.Lists.Comparing.{from_below, id_at, nat_at, space_at}
use Rattle.mapdb_facts.proofs.NameLemmas.NamesInOrder.{id_total}
use Rattle.mapdb_facts.specs.Exact.{exact_id, exact_space}
use Rattle.mapdb_facts.specs.Kept.{id_cmp, space_cmp}
use Rattle.mapdb_facts.specs.Names.{root, same_id}
use Rattle.mapdb_facts.specs.declared.names.RecordId.{RecordId}
use Rattle.mapdb_lists.specs.declared.places.Listed.{Listed}
use Rattle.mapdb_lists.specs.declared.places.Owner.{Owner}
use Rattle.mapdb_lists.specs.declared.places.Owner.TheVariants.{Record, Space}
use Rattle.mapdb_lists.specs.Listing.{listed_cmp, owner_cmp, same_owner}

-- ---- it is total, and what compares equal is the same

space_total : IsTotalOrder space_cmp
space_total = then_total (on_total (λ a. a.number) nat_cmp_total) (on_total (λ a. a.version) nat_cmp_total)

owner_back : (x y : Owner) → owner_cmp x y ≡ ordering_reverse (owner_cmp y x)
owner_back (Record a) (Record b) = id_total.antisymm a b
owner_back (Record a) (Space b) = refl
owner_back (Space a) (Record b) = refl
owner_back (Space a) (Space b) = space_total.antisymm a b

owner_on : (x y z : Owner) → owner_cmp x y ≡ Less → owner_cmp y z ≡ Less → owner_cmp x z ≡ Less
owner_on (Record a) (Record b) (Record c) h k = id_total.trans a b c h k
owner_on (Record a) (Record b) (Space c) h k = refl
owner_on (Record a) (Space b) (Record c) h k = absurd (false≢true (ap is_lt k))
owner_on (Record a) (Space b) (Space c) h k = refl
owner_on (Space a) (Record b) z h k = absurd (false≢true (ap is_lt h))
owner_on (Space a) (Space b) (Record c) h k = k
owner_on (Space a) (Space b) (Space c) h k = space_total.trans a b c h k

owner_alike : (x y z : Owner) → owner_cmp x y ≡ Equal → owner_cmp x z ≡ owner_cmp y z
owner_alike (Record a) (Record b) (Record c) h = id_total.congr a b c h
owner_alike (Record a) (Record b) (Space c) h = refl
owner_alike (Record a) (Space b) z h = absurd (true≢false (ap is_lt h))
owner_alike (Space a) (Record b) z h = absurd (true≢false (ap is_gt h))
owner_alike (Space a) (Space b) (Record c) h = refl
owner_alike (Space a) (Space b) (Space c) h = space_total.congr a b c h

owner_total : IsTotalOrder owner_cmp
owner_total = record { antisymm = owner_back; trans = owner_on; congr = owner_alike }

pub listed_total : IsTotalOrder listed_cmp
listed_total =
    then_total (on_total (λ (e : Listed). e.owner) owner_total)
    (then_total (on_total (λ (e : Listed). e.order) nat_cmp_total) (then_total (on_total (λ (e : Listed). e.first) nat_cmp_total) (on_total (λ (e : Listed). e.id) id_total)))

owner_at : (a b : Owner) → is_at (owner_cmp a) b ≡ same_owner a b
owner_at (Record a) (Record b) = id_at a b
owner_at (Record a) (Space b) = refl
owner_at (Space a) (Record b) = refl
owner_at (Space a) (Space b) = space_at a b

pub exact_owner : (a b : Owner) → same_owner a b ≡ true → a ≡ b
exact_owner (Record a) (Record b) h = ap Record (exact_id a b h)
exact_owner (Record a) (Space b) h = absurd (false≢true h)
exact_owner (Space a) (Record b) h = absurd (false≢true h)
exact_owner (Space a) (Space b) h = ap Space (exact_space a b h)

owner_itself : (a : Owner) → same_owner a a ≡ true
owner_itself (Record a) = and_from (nat_eq a.number a.number) (nat_eq a.processor a.processor) (eq-eqb a.number a.number refl) (eq-eqb a.processor a.processor refl)
owner_itself (Space a) = and_from (nat_eq a.number a.number) (nat_eq a.version a.version) (eq-eqb a.number a.number refl) (eq-eqb a.version a.version refl)

pub owner_is : (a b : Owner) → a ≡ b → same_owner a b ≡ true
owner_is a b e = subst (λ (o : Owner). same_owner a o ≡ true) e (owner_itself a)

listed_at : (a b : Listed) → is_at (listed_cmp a) b ≡ (same_owner a.owner b.owner && (nat_eq a.order b.order && (nat_eq a.first b.first && same_id a.id b.id)))
listed_at a b =
    sym (tied_then (owner_cmp a.owner b.owner) (ordering_then (nat_cmp a.order b.order) (ordering_then (nat_cmp a.first b.first) (id_cmp a.id b.id))))
    ∙ (λ i. owner_at a.owner b.owner i && later i)
  where
    last : is_eq (ordering_then (nat_cmp a.first b.first) (id_cmp a.id b.id)) ≡ (nat_eq a.first b.first && same_id a.id b.id)
    last = sym (tied_then (nat_cmp a.first b.first) (id_cmp a.id b.id)) ∙ (λ i. nat_at a.first b.first i && id_at a.id b.id i)

    later : is_eq (ordering_then (nat_cmp a.order b.order) (ordering_then (nat_cmp a.first b.first) (id_cmp a.id b.id)))
        ≡ (nat_eq a.order b.order && (nat_eq a.first b.first && same_id a.id b.id))
    later = sym (tied_then (nat_cmp a.order b.order) (ordering_then (nat_cmp a.first b.first) (id_cmp a.id b.id))) ∙ (λ i. nat_at a.order b.order i && last i)

pub listed_apart : (a b : Listed) → same_owner a.owner b.owner ≡ false → is_at (listed_cmp a) b ≡ false
listed_apart a b other = listed_at a b ∙ ap (λ (t : Bool). t && (nat_eq a.order b.order && (nat_eq a.first b.first && same_id a.id b.id))) other

pub exact_listed : (a b : Listed) → is_at (listed_cmp a) b ≡ true → a ≡ b
exact_listed a b h =
    let p = and_parts (same_owner a.owner b.owner) _ (sym (listed_at a b) ∙ h) in
    let q = and_parts (nat_eq a.order b.order) _ p.1 in
    let r = and_parts (nat_eq a.first b.first) (same_id a.id b.id) q.1 in
    let owner = exact_owner _ _ p.0 in
    let order = eqb-true a.order b.order q.0 in
    let first = eqb-true a.first b.first r.0 in
    let id = exact_id _ _ r.1 in
    λ i. record { owner = owner i; order = order i; first = first i; id = id i }

pub listed_itself : (a : Listed) → is_at (listed_cmp a) a ≡ true
listed_itself a = ap is_eq (tied_itself listed_total a)

-- ---- owners between two of one owner

-- ---- entries of one owner

pub same_then : (a b : Listed) → a.owner ≡ b.owner → listed_cmp a b ≡ ordering_then (nat_cmp a.order b.order) (ordering_then (nat_cmp a.first b.first) (id_cmp a.id b.id))
same_then a b same =
    let tied_owner : owner_cmp a.owner b.owner ≡ Equal = subst (λ (o : Owner). owner_cmp a.owner o ≡ Equal) same (tied_itself owner_total a.owner) in
    ap (λ o. ordering_then o (ordering_then (nat_cmp a.order b.order) (ordering_then (nat_cmp a.first b.first) (id_cmp a.id b.id)))) tied_owner

pub three_ways : (a b : ℕ) → (a < b) ⊎ (a ≡ b) ⊎ (b < a)
three_ways a b = grind arith

pub from_equal : (a b : ℕ) → a ≡ b → nat_cmp a b ≡ Equal
from_equal a b e = sym (nat_cmp_is a b Equal e)

pub from_above : (a b : ℕ) → b < a → nat_cmp a b ≡ Greater
from_above a b h = sym (nat_cmp_is a b Greater h)

-- what comes no later has no greater order, and at the same order begins no later
pub up_to : (order k_order first k_first : ℕ) (o : Ordering) → is_gt (ordering_then (nat_cmp order k_order) (ordering_then (nat_cmp first k_first) o)) ≡ false
    → (order < k_order) ⊎ ((order ≡ k_order) × (first ≤ k_first))
up_to order k_order first k_first o h =
    elim (three_ways order k_order) [
      | inl less ↦ inl less
      | inr more ↦ elim more [
        | inl same ↦ inr (same, first_up (three_ways first k_first) (sym (ap (λ x. is_gt (ordering_then x (ordering_then (nat_cmp first k_first) o))) (from_equal order k_order same)) ∙ h))
        | inr above ↦ absurd (true≢false (sym (ap (λ x. is_gt (ordering_then x (ordering_then (nat_cmp first k_first) o))) (from_above order k_order above)) ∙ h))
      ]
    ]
  where
    first_up : (first < k_first) ⊎ (first ≡ k_first) ⊎ (k_first < first) → is_gt (ordering_then (nat_cmp first k_first) o) ≡ false → first ≤ k_first
    first_up (inl less) g = omega arith
    first_up (inr (inl same)) g = omega arith
    first_up (inr (inr above)) g = absurd (true≢false (sym (ap (λ x. is_gt (ordering_then x o)) (from_above first k_first above)) ∙ g))

pub le_parts : (a b : Listed) → a.owner ≡ b.owner → is_gt (listed_cmp a b) ≡ false → (a.order < b.order) ⊎ ((a.order ≡ b.order) × (a.first ≤ b.first))
le_parts a b same h = up_to a.order b.order a.first b.first (id_cmp a.id b.id) (sym (ap is_gt (same_then a b same)) ∙ h)

-- what begins earlier at the same order, or has a lesser order, comes first
pub lt_parts : (a b : Listed) → a.owner ≡ b.owner → (a.order < b.order) ⊎ ((a.order ≡ b.order) × (a.first < b.first)) → listed_cmp a b ≡ Less
lt_parts a b same (inl less) =
    same_then a b same ∙ ap (λ x. ordering_then x (ordering_then (nat_cmp a.first b.first) (id_cmp a.id b.id))) (from_below a.order b.order less)
lt_parts a b same (inr both) =
    same_then a b same
    ∙ ap (λ x. ordering_then x (ordering_then (nat_cmp a.first b.first) (id_cmp a.id b.id))) (from_equal a.order b.order both.0)
    ∙ ap (λ x. ordering_then x (id_cmp a.id b.id)) (from_below a.first b.first both.1)

pub root_first : (id : RecordId) → is_gt (id_cmp root id) ≡ false
root_first id =
    elim (three_ways 0 id.number) [
      | inl less ↦ ap (λ x. is_gt (ordering_then x (nat_cmp 0 id.processor))) (from_below 0 id.number less)
      | inr more ↦ elim more [
        | inl same ↦ ap (λ x. is_gt (ordering_then x (nat_cmp 0 id.processor))) (from_equal 0 id.number same) ∙ none_below id.processor (three_ways 0 id.processor)
        | inr above ↦ absurd (omega arith)
      ]
    ]
  where
    none_below : (n : ℕ) → (0 < n) ⊎ (0 ≡ n) ⊎ (n < 0) → is_gt (nat_cmp 0 n) ≡ false
    none_below n (inl less) = ap is_gt (from_below 0 n less)
    none_below n (inr (inl same)) = ap is_gt (from_equal 0 n same)
    none_below n (inr (inr above)) = absurd (omega arith)

pub less_from : (o : Ordering) → is_lt o ≡ true → o ≡ Less
less_from Less h = refl
less_from Equal h = absurd (false≢true h)
less_from Greater h = absurd (false≢true h)
