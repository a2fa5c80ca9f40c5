-- What is stale in lists that were put together, and what it counts.
use Rattle.std.proofs.Common.{◌≡◌, ℕ, ◌+◌, ◌-◌, ◌*◌, ◌^◌, ◌<◌, ◌≤◌, List, [], ◌∷◌, ◌++◌, length, true, arith, inl, inr, mul-le-mul_right}
use Rattle.std.proofs.Math.Nat.{pow-le-pow_right}
use Rattle.std.specs.Prelude.{◌⊎◌}
use Rattle.mapdb_facts.specs.Names.{number_limit}
use Rattle.mapdb_facts.specs.declared.names.RecordId.{RecordId}
use Rattle.mapdb_lists.specs.Changes.{covers}
use Rattle.mapdb_rights.specs.declared.index.stale.Stale.{Stale}
use Rattle.mapdb_fpage.specs.Bounds.{page_limit}
use Rattle.mapdb_rights.specs.Pending.{IsPending, share, weight, worth}

pub pending_front : (xs ys : List Stale) (id : RecordId) (page : ℕ) → IsPending xs id page → IsPending (xs ++ ys) id page
pending_front [] ys id page h = absurd h
pending_front (x ∷ xs) ys id page (inl h) = inl h
pending_front (x ∷ xs) ys id page (inr h) = inr (pending_front xs ys id page h)

pub pending_last : (xs : List Stale) (x : Stale) (id : RecordId) (page : ℕ) → covers x.id x.first x.end id page ≡ true → IsPending (xs ++ x ∷ []) id page
pending_last [] x id page h = inl h
pending_last (y ∷ xs) x id page h = inr (pending_last xs x id page h)

pub pending_either : (xs : List Stale) (x : Stale) (id : RecordId) (page : ℕ) → IsPending (xs ++ x ∷ []) id page → IsPending xs id page ⊎ (covers x.id x.first x.end id page ≡ true)
pending_either [] x id page (inl h) = inr h
pending_either [] x id page (inr h) = absurd h
pending_either (y ∷ xs) x id page (inl h) = inl (inl h)
pending_either (y ∷ xs) x id page (inr h) = elim (pending_either xs x id page h) [ inl front ↦ inl (inr front) | inr last ↦ inr last ]

pub weight-last : (base : ℕ) (xs : List Stale) (x : Stale) → weight base (xs ++ x ∷ []) ≡ weight base xs + (1 + (x.end - x.first) * worth base x.id.number)
weight-last base [] x = omega arith
weight-last base (y ∷ xs) x = let h = weight-last base xs x in omega (arith, h)

-- one entry more counts no more than all pages of its record
pub weight_one_more : (base : ℕ) (xs : List Stale) (x : Stale) → weight base (xs ++ x ∷ []) ≤ weight base xs + share base x.id.number
weight_one_more base xs x =
    let last = weight-last base xs x in
    let few : (x.end - x.first) * worth base x.id.number ≤ page_limit * worth base x.id.number = mul-le-mul_right {m = x.end - x.first} {n = page_limit} (worth base x.id.number) (span x.end x.first x.limit) in
    omega (arith, last, few)
  where
    span : (a b : ℕ) → a ≤ page_limit → a - b ≤ page_limit
    span a b h = omega arith

-- a later number counts no more
pub share_later : (base n m : ℕ) → 0 < base → n ≤ m → share base m ≤ share base n
unfolding worth
share_later base n m some later =
    let fewer : number_limit - m ≤ number_limit - n = omega arith in
    let less : base ^ (number_limit - m) ≤ base ^ (number_limit - n) = pow-le-pow_right {n = base} some {i = number_limit - m} {j = number_limit - n} fewer in
    omega arith

-- in an empty list nothing is stale
pub none_pending : (xs : List Stale) (id : RecordId) (page : ℕ) → length xs ≡ 0 → IsPending xs id page → ⊥
none_pending [] id page none h = h
none_pending (x ∷ xs) id page none h = omega arith
