-- The spaces that have ended follow from the state.
use Rattle.std.proofs.Common.{◌≡◌, true, sym, ap, subst, List, [], ◌∷◌, inl, inr}
use Rattle.std.specs.Prelude.{◌⊎◌, ◌||◌}
use Rattle.std.proofs.lemmas.Bool.{false≢true, or_right}
use Rattle.mapdb_facts.specs.Exact.{exact_space}
use Rattle.mapdb_facts.specs.Names.{same_space}
use Rattle.mapdb_facts.specs.Records.{IsAmong, IsAscending}
use Rattle.mapdb_facts.specs.State.{State, state_of}
use Rattle.mapdb_facts.specs.declared.names.Space.{Space}
use Rattle.mapdb_facts.specs.declared.operations.Op.{Op}
use Rattle.mapdb_facts.specs.declared.operations.Op.TheVariants.{Born, Closed, Cut}
use Rattle.mapdb_facts.proofs.Lists.SameLists.{same_lists}
use Rattle.mapdb_facts.proofs.Lists.SameNames.{same_space_itself}
use Rattle.mapdb_facts.proofs.Maps.Spaces.{among_placed, ascending_space, placed_among, still_among}
use Rattle.mapdb_facts.specs.Spaces.{numbered, placed_space}
use Rattle.mapdb_snapshot.specs.Snapshot.{ended_of}
use Rattle.mapdb_rights.proofs.Live.FirstRecords.{either}

ascending_spaces : (ops : List Op) → IsAscending numbered (ended_of ops)
ascending_spaces [] = tt
ascending_spaces (Born r ∷ ops) = ascending_spaces ops
ascending_spaces (Cut cut ∷ ops) = ascending_spaces ops
ascending_spaces (Closed space ∷ ops) = ascending_space space (ended_of ops) (ascending_spaces ops)

spaces_ended : (ops : List Op) (space : Space) → IsAmong space (ended_of ops) → (state_of ops).is_ended space ≡ true
spaces_ended [] space k = absurd k
spaces_ended (Born r ∷ ops) space k = spaces_ended ops space k
spaces_ended (Cut cut ∷ ops) space k = spaces_ended ops space k
spaces_ended (Closed closed ∷ ops) space k = by (spaces_ended ops space) (among_placed closed space (ended_of ops) k)
  where
    by : (IsAmong space (ended_of ops) → (state_of ops).is_ended space ≡ true) → (closed ≡ space) ⊎ IsAmong space (ended_of ops)
        → (same_space closed space || (state_of ops).is_ended space) ≡ true
    by again (inl e) = ap (λ x. x || (state_of ops).is_ended space) (subst (λ (other : Space). same_space closed other
        ≡ true) e (same_space_itself closed))
    by again (inr m) = or_right (same_space closed space) ((state_of ops).is_ended space) (again m)

ended_there : (ops : List Op) (space : Space) → (state_of ops).is_ended space ≡ true → IsAmong space (ended_of ops)
ended_there [] space h = absurd (false≢true h)
ended_there (Born r ∷ ops) space h = ended_there ops space h
ended_there (Cut cut ∷ ops) space h = ended_there ops space h
ended_there (Closed closed ∷ ops) space h = by (ended_there ops space)
    (either (same_space closed space) ((state_of ops).is_ended space) h)
  where
    by : ((state_of ops).is_ended space ≡ true → IsAmong space (ended_of ops))
        → (same_space closed space ≡ true) ⊎ ((state_of ops).is_ended space ≡ true) → IsAmong space (placed_space closed (ended_of ops))
    by again (inl same) = subst (λ (other : Space). IsAmong other (placed_space closed (ended_of ops))) (exact_space closed space same)
        (placed_among closed (ended_of ops))
    by again (inr later) = still_among closed space (ended_of ops) (again later)

spaces_there : (xs ys : List Op) → state_of xs ≡ state_of ys → (space : Space) → IsAmong space (ended_of xs) → IsAmong space (ended_of ys)
spaces_there xs ys same space k = ended_there ys space (subst (λ (S : State). S.is_ended space ≡ true) same (spaces_ended xs space k))

-- lists with one state have the same ended spaces
pub ended_of-state : (xs ys : List Op) → state_of xs ≡ state_of ys → ended_of xs ≡ ended_of ys
ended_of-state xs ys same =
    same_lists numbered (ended_of xs) (ended_of ys) (ascending_spaces xs) (ascending_spaces ys)
    (record { to = spaces_there xs ys same; from = spaces_there ys xs (sym same) })
