-- The spaces that there are.
use Rattle.std.proofs.Common.{◌≡◌, Bool, true, false, refl, sym, subst, List, [], ◌∷◌, ◌++◌, inl, inr}
use Rattle.std.specs.Prelude.{◌⊎◌, filter, map, if◌then◌else◌}
use Rattle.mapdb_fpage.specs.Place.{whole}
use Rattle.mapdb_facts.specs.Exact.{exact_space}
use Rattle.mapdb_facts.specs.Names.{first_space, is_first_space, root, same_space}
use Rattle.mapdb_facts.specs.Records.{IsAmong, IsAscending}
use Rattle.mapdb_facts.specs.Spaces.{numbered}
use Rattle.mapdb_facts.specs.declared.names.Space.{Space}
use Rattle.mapdb_facts.specs.declared.operations.Record.{Record}
use Rattle.mapdb_facts.proofs.Maps.Spaces.{ascending_space, placed_among, still_among}
use Rattle.mapdb_replica.specs.Issue.{holder_of, holders, record_holders}
use Rattle.mapdb_table.specs.Table.{spaces_among}

-- The spaces of records.

pub ascending_among : (records : List Record) → IsAscending numbered (spaces_among records)
ascending_among [] = (tt, tt)
ascending_among (r ∷ rest) = ascending_space r.space (spaces_among rest) (ascending_among rest)

pub first_among : (records : List Record) → IsAmong first_space (spaces_among records)
first_among [] = inl refl
first_among (r ∷ rest) = still_among r.space first_space (spaces_among rest) (first_among rest)

none_or_recorded : (records : List Record) (space : Space) → (record_holders space records ≡ []) ⊎ IsAmong space (spaces_among records)
none_or_recorded [] space = inl refl
none_or_recorded (r ∷ rest) space = by (same_space r.space space) refl (none_or_recorded rest space)
  where
    later : List Record
    later = filter (λ (x : Record). same_space x.space space) rest

    by : (b : Bool) → same_space r.space space ≡ b → (record_holders space rest ≡ []) ⊎ IsAmong space (spaces_among rest)
        → (map holder_of (if b then r ∷ later else later) ≡ []) ⊎ IsAmong space (spaces_among (r ∷ rest))
    by true e again = inr (subst (λ (s : Space). IsAmong s (spaces_among (r ∷ rest))) (exact_space r.space space e) (placed_among r.space (spaces_among rest)))
    by false e (inl none) = inl none
    by false e (inr among) = inr (still_among r.space space (spaces_among rest) among)

-- a space that there is not has no holders
pub none_or_space : (records : List Record) (space : Space) → (holders records space ≡ []) ⊎ IsAmong space (spaces_among records)
none_or_space records space = by (is_first_space space) refl (none_or_recorded records space)
  where
    by : (b : Bool) → is_first_space space ≡ b → (record_holders space records ≡ []) ⊎ IsAmong space (spaces_among records)
        → ((if b then record { id = root; place = whole } ∷ [] else []) ++ record_holders space records ≡ []) ⊎ IsAmong space (spaces_among records)
    by true e again = inr (subst (λ (s : Space). IsAmong s (spaces_among records)) (sym (exact_space space first_space e)) (first_among records))
    by false e again = again
