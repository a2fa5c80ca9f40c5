-- The names that have revocations follow from the state.
use Rattle.std.proofs.Common.{◌≡◌, ℕ, ◌+◌, ◌-◌, ◌<◌, true, false, refl, sym, subst, List, [], ◌∷◌, inl, inr, arith}
use Rattle.std.specs.Prelude.{◌⊎◌, ◌&&◌, ◌||◌, nat_le, nat_lt, if◌then◌else◌}
use Rattle.std.proofs.lemmas.Bool.Decides.{nat_tests}
use Rattle.std.proofs.lemmas.Bool.{and_from, and_parts, cond-false, cond_both, false≢true, or_left, or_right}
use Rattle.std.proofs.lemmas.Nat.{pow_pos}
use Rattle.mapdb_fpage.specs.Bounds.{least_order}
use Rattle.mapdb_fpage.specs.Place.{Place, holds, page_total}
use Rattle.mapdb_fpage.specs.RightSets.{includes, is_empty}
use Rattle.mapdb_fpage.specs.declared.right_sets.Right.{Right}
use Rattle.mapdb_facts.specs.Names.{is_before, same_id}
use Rattle.mapdb_facts.specs.Records.{AllAfter, IsAmong, IsAscending}
use Rattle.mapdb_facts.specs.State.{State, cuts, state_of}
use Rattle.mapdb_facts.specs.declared.names.RecordId.{RecordId}
use Rattle.mapdb_facts.specs.declared.operations.Op.{Op}
use Rattle.mapdb_facts.specs.declared.operations.Op.TheVariants.{Born, Closed, Cut}
use Rattle.mapdb_facts.specs.declared.operations.Revocation.{Revocation}
use Rattle.mapdb_facts.proofs.RecordLemmas.Ascending.{after_trans, before_else}
use Rattle.mapdb_facts.proofs.Lists.SameNames.{same_id_itself, same_id_true}
use Rattle.mapdb_snapshot.specs.Cutting.{cut_names, placed_name}
use Rattle.mapdb_facts.proofs.Lists.SameLists.{same_lists}
use Rattle.mapdb_rights.proofs.Live.FirstRecords.{either}
use Rattle.mapdb_fpage.proofs.RightLemmas.{some_here, some_of}
use Rattle.mapdb_snapshot.proofs.Names.NamesComeBack.{among_placed_name}

-- names are ordered by themselves
abbrev itself : RecordId → RecordId
itself id = id

-- the order
after_name : (first id : RecordId) (names : List RecordId) → is_before first id ≡ true → AllAfter itself first names
    → AllAfter itself first (placed_name id names)
after_name first id [] low h = (low, tt)
after_name first id (other ∷ rest) low h =
    cond_both (is_before other id) (other ∷ placed_name id rest) (if same_id id other then other ∷ rest else id ∷ other ∷ rest)
    (AllAfter itself first)
    (λ b. (h.0, after_name first id rest low h.1))
    (λ b. cond_both (same_id id other) (other ∷ rest) (id ∷ other ∷ rest) (AllAfter itself first) (λ s. h) (λ s. (low, h)))

ascending_name : (id : RecordId) (names : List RecordId) → IsAscending itself names → IsAscending itself (placed_name id names)
ascending_name id [] h = (tt, tt)
ascending_name id (other ∷ rest) h =
    cond_both (is_before other id) (other ∷ placed_name id rest) (if same_id id other then other ∷ rest else id ∷ other ∷ rest)
    (IsAscending itself)
    (λ b. (after_name other id rest b h.0, ascending_name id rest h.1))
    (λ b. cond_both (same_id id other) (other ∷ rest) (id ∷ other ∷ rest) (IsAscending itself) (λ s. h)
    (λ s. let now : is_before id other ≡ true = before_else other id b s in ((now, after_trans itself id other rest now h.0), h)))

ascending_names : (ops : List Op) → IsAscending itself (cut_names ops)
ascending_names [] = tt
ascending_names (Born r ∷ ops) = ascending_names ops
ascending_names (Closed space ∷ ops) = ascending_names ops
ascending_names (Cut cut ∷ ops) =
    cond_both (is_empty cut.rights) (cut_names ops) (placed_name cut.target (cut_names ops)) (IsAscending itself) (λ e. ascending_names ops)
    (λ e. ascending_name cut.target (cut_names ops) (ascending_names ops))

placed_among : (id : RecordId) (names : List RecordId) → IsAmong id (placed_name id names)
placed_among id [] = inl refl
placed_among id (head ∷ rest) =
    cond_both (is_before head id) (head ∷ placed_name id rest) (if same_id id head then head ∷ rest else id ∷ head ∷ rest) (IsAmong id)
    (λ b. inr (placed_among id rest))
    (λ b. cond_both (same_id id head) (head ∷ rest) (id ∷ head ∷ rest) (IsAmong id) (λ s. inl (sym (same_id_true id head s)))
    (λ s. inl refl))

still_among : (id other : RecordId) (names : List RecordId) → IsAmong other names → IsAmong other (placed_name id names)
still_among id other [] k = absurd k
still_among id other (head ∷ rest) k =
    cond_both (is_before head id) (head ∷ placed_name id rest) (if same_id id head then head ∷ rest else id ∷ head ∷ rest) (IsAmong other)
    (λ b. behind_head (still_among id other rest) k)
    (λ b. cond_both (same_id id head) (head ∷ rest) (id ∷ head ∷ rest) (IsAmong other) (λ s. k) (λ s. inr k))
  where
    behind_head : (IsAmong other rest → IsAmong other (placed_name id rest)) → IsAmong other (head ∷ rest)
        → IsAmong other (head ∷ placed_name id rest)
    behind_head again (inl e) = inl e
    behind_head again (inr m) = inr (again m)

-- some right is revoked from the record somewhere
abbrev HasCut : State → RecordId → Type 0
HasCut S id = (page : ℕ) × (right : Right) × (S.is_cut id page right ≡ true)

to_itself : (first total : ℕ) → 0 < total → (nat_le first first && nat_lt first (first + total)) ≡ true
to_itself first total some = grind (arith, nat_tests)

first_held : (part : Place) → holds part part.first_page ≡ true
first_held part = let some : 0 < page_total part = pow_pos (part.order - least_order) in to_itself part.first_page (page_total part) some

-- a revocation of some right takes it at its first page
takes_some : (cut : Revocation) (id : RecordId) (S : State) → is_empty cut.rights ≡ false → cut.target ≡ id
    → (page : ℕ) × (right : Right) × ((cuts cut id page right || S.is_cut id page right) ≡ true)
takes_some cut id S some same =
    let right = some_of cut.rights some in (
      cut.part.first_page,
      right.0,
      or_left (cuts cut id cut.part.first_page right.0) (S.is_cut id cut.part.first_page right.0)
          (and_from (same_id cut.target id && holds cut.part cut.part.first_page) (includes cut.rights right.0)
          (and_from (same_id cut.target id) (holds cut.part cut.part.first_page)
          (subst (λ (other : RecordId). same_id cut.target other ≡ true) same (same_id_itself cut.target)) (first_held cut.part))
          right.1),
    )

takes_later : (cut : Revocation) (id : RecordId) (S : State) → HasCut S id
    → (page : ℕ) × (right : Right) × ((cuts cut id page right || S.is_cut id page right) ≡ true)
takes_later cut id S has = (has.0, has.1, or_right (cuts cut id has.0 has.1) (S.is_cut id has.0 has.1) has.2)

names_cut : (ops : List Op) (id : RecordId) → IsAmong id (cut_names ops) → HasCut (state_of ops) id
names_cut [] id k = absurd k
names_cut (Born r ∷ ops) id k = names_cut ops id k
names_cut (Closed space ∷ ops) id k = names_cut ops id k
names_cut (Cut cut ∷ ops) id k =
    cond_both (is_empty cut.rights) (cut_names ops) (placed_name cut.target (cut_names ops))
    (λ names. IsAmong id names → HasCut (state_of (Cut cut ∷ ops)) id)
    (λ e m. takes_later cut id (state_of ops) (names_cut ops id m))
    (λ e m. here_or_later (names_cut ops id) e (among_placed_name cut.target id (cut_names ops) m)) k
  where
    here_or_later : (IsAmong id (cut_names ops) → HasCut (state_of ops) id) → is_empty cut.rights ≡ false
        → (cut.target ≡ id) ⊎ IsAmong id (cut_names ops) → HasCut (state_of (Cut cut ∷ ops)) id
    here_or_later again e (inl same) = takes_some cut id (state_of ops) e same
    here_or_later again e (inr m) = takes_later cut id (state_of ops) (again m)

cut_named : (ops : List Op) (id : RecordId) (page : ℕ) (right : Right) → (state_of ops).is_cut id page right ≡ true
    → IsAmong id (cut_names ops)
cut_named [] id page right h = absurd (false≢true h)
cut_named (Born r ∷ ops) id page right h = cut_named ops id page right h
cut_named (Closed space ∷ ops) id page right h = cut_named ops id page right h
cut_named (Cut cut ∷ ops) id page right h = by (cut_named ops id page right)
    (either (cuts cut id page right) ((state_of ops).is_cut id page right) h)
  where
    by : ((state_of ops).is_cut id page right ≡ true → IsAmong id (cut_names ops))
        → (cuts cut id page right ≡ true) ⊎ ((state_of ops).is_cut id page right ≡ true) → IsAmong id (cut_names (Cut cut ∷ ops))
    by again (inl now) =
        let parts = and_parts (same_id cut.target id && holds cut.part page) (includes cut.rights right) now in
        let named = (and_parts (same_id cut.target id) (holds cut.part page) parts.0).0 in
        subst (IsAmong id) (sym (cond-false (is_empty cut.rights) (cut_names ops) (placed_name cut.target (cut_names ops))
        (some_here cut.rights right parts.1)))
        (subst (λ (other : RecordId). IsAmong other (placed_name cut.target (cut_names ops))) (same_id_true cut.target id named)
        (placed_among cut.target (cut_names ops)))
    by again (inr later) =
        cond_both (is_empty cut.rights) (cut_names ops) (placed_name cut.target (cut_names ops)) (IsAmong id)
        (λ e. again later)
        (λ e. still_among cut.target id (cut_names ops) (again later))

names_there : (xs ys : List Op) → state_of xs ≡ state_of ys → (id : RecordId) → IsAmong id (cut_names xs) → IsAmong id (cut_names ys)
names_there xs ys same id k =
    let has = names_cut xs id k in
    cut_named ys id has.0 has.1 (subst (λ (S : State). S.is_cut id has.0 has.1 ≡ true) same has.2)

-- lists with one state have the same names with revocations
pub cut_names-state : (xs ys : List Op) → state_of xs ≡ state_of ys → cut_names xs ≡ cut_names ys
cut_names-state xs ys same =
    same_lists itself (cut_names xs) (cut_names ys) (ascending_names xs) (ascending_names ys)
    (record { to = names_there xs ys same; from = names_there ys xs (sym same) })
