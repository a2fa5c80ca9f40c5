-- Spaces at their places in an ascending list.
use Rattle.std.proofs.Common.{◌≡◌, true, refl, sym, List, [], ◌∷◌, inl, inr}
use Rattle.std.specs.Prelude.{◌⊎◌, if◌then◌else◌}
use Rattle.std.proofs.lemmas.Bool.{cond_both}
use Rattle.mapdb_facts.specs.declared.names.RecordId.{RecordId}
use Rattle.mapdb_facts.specs.declared.names.Space.{Space}
use Rattle.mapdb_facts.specs.Exact.{exact_space}
use Rattle.mapdb_facts.specs.Names.{is_before, is_space_before, same_space}
use Rattle.mapdb_facts.specs.Records.{AllAfter, IsAmong, IsAscending}
use Rattle.mapdb_facts.specs.Spaces.{numbered, placed_space}
use Rattle.mapdb_facts.proofs.RecordLemmas.Ascending.{after_trans, before_else}

-- the order
after_space : (first : RecordId) (space : Space) (spaces : List Space) → is_before first (numbered space) ≡ true
    → AllAfter numbered first spaces → AllAfter numbered first (placed_space space spaces)
after_space first space [] low h = (low, tt)
after_space first space (other ∷ rest) low h =
    cond_both (is_space_before other space) (other ∷ placed_space space rest)
    (if same_space space other then other ∷ rest else space ∷ other ∷ rest) (AllAfter numbered first)
    (λ b. (h.0, after_space first space rest low h.1))
    (λ b. cond_both (same_space space other) (other ∷ rest) (space ∷ other ∷ rest) (AllAfter numbered first) (λ s. h) (λ s. (low, h)))

pub ascending_space : (space : Space) (spaces : List Space) → IsAscending numbered spaces → IsAscending numbered (placed_space space spaces)
ascending_space space [] h = (tt, tt)
ascending_space space (other ∷ rest) h =
    cond_both (is_space_before other space) (other ∷ placed_space space rest)
    (if same_space space other then other ∷ rest else space ∷ other ∷ rest) (IsAscending numbered)
    (λ b. (after_space (numbered other) space rest b h.0, ascending_space space rest h.1))
    (λ b. cond_both (same_space space other) (other ∷ rest) (space ∷ other ∷ rest) (IsAscending numbered) (λ s. h)
    (λ s.
    let now : is_before (numbered space) (numbered other) ≡ true = before_else (numbered other) (numbered space) b s in
    ((now, after_trans numbered (numbered space) (numbered other) rest now h.0), h)))

-- the members
pub among_placed : (space other : Space) (spaces : List Space) → IsAmong other (placed_space space spaces)
    → (space ≡ other) ⊎ IsAmong other spaces
among_placed space other [] k = k
among_placed space other (head ∷ rest) k =
    cond_both (is_space_before head space) (head ∷ placed_space space rest)
    (if same_space space head then head ∷ rest else space ∷ head ∷ rest)
    (λ spaces. IsAmong other spaces → (space ≡ other) ⊎ IsAmong other (head ∷ rest))
    (λ b. behind_head (among_placed space other rest))
    (λ b. cond_both (same_space space head) (head ∷ rest) (space ∷ head ∷ rest)
    (λ spaces. IsAmong other spaces → (space ≡ other) ⊎ IsAmong other (head ∷ rest)) (λ s m. inr m) (λ s m. m)) k
  where
    placed_or : (space ≡ other) ⊎ IsAmong other rest → (space ≡ other) ⊎ IsAmong other (head ∷ rest)
    placed_or (inl e) = inl e
    placed_or (inr m) = inr (inr m)

    behind_head : (IsAmong other (placed_space space rest) → (space ≡ other) ⊎ IsAmong other rest)
        → IsAmong other (head ∷ placed_space space rest) → (space ≡ other) ⊎ IsAmong other (head ∷ rest)
    behind_head again (inl e) = inr (inl e)
    behind_head again (inr m) = placed_or (again m)

pub placed_among : (space : Space) (spaces : List Space) → IsAmong space (placed_space space spaces)
placed_among space [] = inl refl
placed_among space (head ∷ rest) =
    cond_both (is_space_before head space) (head ∷ placed_space space rest)
    (if same_space space head then head ∷ rest else space ∷ head ∷ rest) (IsAmong space)
    (λ b. inr (placed_among space rest))
    (λ b. cond_both (same_space space head) (head ∷ rest) (space ∷ head ∷ rest) (IsAmong space)
    (λ s. inl (sym (exact_space space head s))) (λ s. inl refl))

pub still_among : (space other : Space) (spaces : List Space) → IsAmong other spaces → IsAmong other (placed_space space spaces)
still_among space other [] k = absurd k
still_among space other (head ∷ rest) k =
    cond_both (is_space_before head space) (head ∷ placed_space space rest)
    (if same_space space head then head ∷ rest else space ∷ head ∷ rest) (IsAmong other)
    (λ b. behind_head (still_among space other rest) k)
    (λ b. cond_both (same_space space head) (head ∷ rest) (space ∷ head ∷ rest) (IsAmong other) (λ s. k) (λ s. inr k))
  where
    behind_head : (IsAmong other rest → IsAmong other (placed_space space rest)) → IsAmong other (head ∷ rest)
        → IsAmong other (head ∷ placed_space space rest)
    behind_head again (inl e) = inl e
    behind_head again (inr m) = inr (again m)
