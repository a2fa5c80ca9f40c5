-- How places of one owner are ordered: by order, first page and name.
use Rattle.std.proofs.Common.{◌≡◌, ℕ, ◌<◌, ◌≤◌, true, false, refl, sym, ap, ◌∙◌, arith, inl, inr}
use Rattle.std.specs.Prelude.{◌⊎◌}
use Rattle.std.specs.BTreeMap.{is_at}
use Rattle.std.specs.Ordering.{is_eq, is_gt, is_le, is_lt, nat_cmp, ordering_reverse, ordering_then}
use Rattle.std.specs.declared.cmp.Ordering.{Ordering}
use Rattle.std.specs.declared.cmp.Ordering.TheVariants.{Equal, Greater, Less}
use Rattle.std.proofs.lemmas.Bool.{false≢true, true≢false}
use Rattle.std.proofs.lemmas.Cmp.{tied_itself}
use Rattle.mapdb_facts.proofs.Lists.Comparing.{from_below}
use Rattle.mapdb_facts.specs.Kept.{id_cmp}
use Rattle.mapdb_facts.specs.Names.{root}
use Rattle.mapdb_lists.specs.declared.own_place.OwnPlace.{OwnPlace}
pub use Rattle.mapdb_lists.specs.PlaceOrders.{exact_own, same_at_own, place_total, same_own}
use Rattle.mapdb_lists.specs.OwnPlaces.{place_cmp, start}
use Rattle.mapdb_lists.proofs.Lists.ListedOrder.{from_equal, less_from, root_first, three_ways, up_to}

-- ---- what compares equal is the same

pub place_itself : (a : OwnPlace) → is_at (place_cmp a) a ≡ true
place_itself a = ap is_eq (tied_itself place_total a)

pub le_itself : (a : OwnPlace) → is_gt (place_cmp a a) ≡ false
le_itself a = ap is_gt (tied_itself place_total a)

-- it does not matter from which of two places they are compared
pub at_back : (a b : OwnPlace) → is_at (place_cmp a) b ≡ is_at (place_cmp b) a
at_back a b = ap is_eq (place_total.antisymm a b) ∙ back (place_cmp b a)
  where
    back : (o : Ordering) → is_eq (ordering_reverse o) ≡ is_eq o
    back Less = refl
    back Equal = refl
    back Greater = refl

-- ---- what comes before what

-- what comes no later has no greater order, and at the same order begins no later
pub le_parts : (a b : OwnPlace) → is_gt (place_cmp a b) ≡ false → (a.order < b.order) ⊎ ((a.order ≡ b.order) × (a.first ≤ b.first))
le_parts a b h = up_to a.order b.order a.first b.first (id_cmp a.id b.id) h

-- what begins earlier at the same order, or has a lesser order, comes first
pub lt_parts : (a b : OwnPlace) → (a.order < b.order) ⊎ ((a.order ≡ b.order) × (a.first < b.first)) → place_cmp a b ≡ Less
lt_parts a b (inl less) = ap (λ x. ordering_then x (ordering_then (nat_cmp a.first b.first) (id_cmp a.id b.id))) (from_below a.order b.order less)
lt_parts a b (inr both) =
    ap (λ x. ordering_then x (ordering_then (nat_cmp a.first b.first) (id_cmp a.id b.id))) (from_equal a.order b.order both.0)
    ∙ ap (λ x. ordering_then x (id_cmp a.id b.id)) (from_below a.first b.first both.1)

pub start_le : (order first : ℕ) (k : OwnPlace) → (order < k.order) ⊎ ((order ≡ k.order) × (first ≤ k.first)) → is_gt (place_cmp (start order first) k) ≡ false
start_le order first k (inl less) = ap is_gt (lt_parts (start order first) k (inl less))
start_le order first k (inr both) =
    elim (three_ways first k.first) [
      | inl less ↦ ap is_gt (lt_parts (start order first) k (inr (both.0, less)))
      | inr more ↦ elim more [
        | inl alike ↦
            ap (λ x. is_gt (ordering_then x (ordering_then (nat_cmp first k.first) (id_cmp root k.id)))) (from_equal order k.order both.0)
            ∙ ap (λ x. is_gt (ordering_then x (id_cmp root k.id))) (from_equal first k.first alike)
            ∙ root_first k.id
        | inr above ↦ absurd (omega arith)
      ]
    ]

-- of two places that differ the one that comes no later comes first
pub same_or_above : (a b : OwnPlace) → is_gt (place_cmp a b) ≡ false → (a ≡ b) ⊎ (place_cmp a b ≡ Less)
same_or_above a b h = by (place_cmp a b) refl h
  where
    by : (o : Ordering) → place_cmp a b ≡ o → is_gt o ≡ false → (a ≡ b) ⊎ (place_cmp a b ≡ Less)
    by Less e k = inr e
    by Equal e k = inl (exact_own a b (ap is_eq e))
    by Greater e k = absurd (true≢false k)

-- what does not come before another comes no earlier
pub not_before : (a b : OwnPlace) → is_lt (place_cmp a b) ≡ false → is_gt (place_cmp b a) ≡ false
not_before a b h = ap is_gt (place_total.antisymm b a) ∙ by (place_cmp a b) h
  where
    by : (o : Ordering) → is_lt o ≡ false → is_gt (ordering_reverse o) ≡ false
    by Less k = absurd (true≢false k)
    by Equal k = refl
    by Greater k = refl

pub lt_le : (a b : OwnPlace) → is_lt (place_cmp a b) ≡ true → is_gt (place_cmp a b) ≡ false
lt_le a b h = ap is_gt (less_from (place_cmp a b) h)

-- what comes no later than one that comes no later than another comes no later than that
pub le_on : (a b c : OwnPlace) → is_gt (place_cmp a b) ≡ false → is_gt (place_cmp b c) ≡ false → is_gt (place_cmp a c) ≡ false
le_on a b c h k = by (same_or_above a b h) (same_or_above b c k)
  where
    by : (a ≡ b) ⊎ (place_cmp a b ≡ Less) → (b ≡ c) ⊎ (place_cmp b c ≡ Less) → is_gt (place_cmp a c) ≡ false
    by (inl same) _ = ap (λ (x : OwnPlace). is_gt (place_cmp x c)) same ∙ k
    by (inr less) (inl same) = ap (λ (x : OwnPlace). is_gt (place_cmp a x)) (sym same) ∙ h
    by (inr less) (inr more) = ap is_gt (place_total.trans a b c less more)

-- a bound's test as a fact
pub le_is : (o : Ordering) → is_le o ≡ true → is_gt o ≡ false
le_is Less h = refl
le_is Equal h = refl
le_is Greater h = absurd (false≢true h)

pub le_as : (o : Ordering) → is_gt o ≡ false → is_le o ≡ true
le_as Less h = refl
le_as Equal h = refl
le_as Greater h = absurd (true≢false h)
