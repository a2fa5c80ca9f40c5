-- The spaces that there are, gathered from one operation after the other, and what others have: no rows.
use Rattle.std.proofs.Common.{◌≡◌, ℕ, refl, sym, ap, subst, ◌∙◌, List, [], ◌∷◌, inl, inr, arith}
use Rattle.std.specs.Prelude.{◌⊎◌, None, Option}
use Rattle.mapdb_fpage.specs.Bounds.{page_limit}
use Rattle.mapdb_facts.specs.Names.{first_space}
use Rattle.mapdb_facts.specs.Records.{IsAmong, IsAscending, records_of}
use Rattle.mapdb_facts.specs.Spaces.{numbered, placed_space}
use Rattle.mapdb_facts.specs.State.{HasAtom, IsSound, Rec, state_of}
use Rattle.mapdb_facts.specs.declared.names.Space.{Space}
use Rattle.mapdb_facts.specs.declared.operations.Op.{Op}
use Rattle.mapdb_facts.specs.declared.operations.Op.TheVariants.{Born, Closed, Cut}
use Rattle.mapdb_facts.specs.declared.operations.Record.{Record}
use Rattle.mapdb_facts.proofs.Lists.SameLists.{same_lists}
use Rattle.mapdb_facts.proofs.Maps.Atoms.{atom_kept, record_held}
use Rattle.mapdb_facts.proofs.RecordLemmas.Ascending.{found_listed, listed_found}
use Rattle.mapdb_facts.proofs.Maps.Spaces.{among_placed, ascending_space, placed_among, still_among}
use Rattle.mapdb_replica.specs.Pairs.{Pair, page_rights}
use Rattle.mapdb_replica.specs.Served.{served, served_among}
use Rattle.mapdb_table.specs.Table.{rows_behind, rows_of_spaces, space_rows, spaces_among, spaces_of, table, with_space_of}
use Rattle.mapdb_table.proofs.ListedSpaces.{ascending_among, none_or_space, first_among}
use Rattle.mapdb_table.proofs.RowLists.{behind-all, behind-skip}

-- The walk over the operations.

-- the spaces of the records among these
abbrev pub born_spaces : List Op → List Space
born_spaces [] = []
born_spaces (Born r ∷ ops) = r.space ∷ born_spaces ops
born_spaces (Cut cut ∷ ops) = born_spaces ops
born_spaces (Closed space ∷ ops) = born_spaces ops

-- what was gathered are spaces that there are, in order, and all others are those of records that are left
pub record Gathered (ops rest : List Op) (spaces : List Space) : Type 0 where
  pub rising : IsAscending numbered spaces
  pub to : (space : Space) → IsAmong space spaces → IsAmong space (spaces_of ops)
  pub from : (space : Space) → IsAmong space (spaces_of ops) → IsAmong space spaces ⊎ IsAmong space (born_spaces rest)

-- the space of a record is one that there is
space_of : (r : Record) (records : List Record) → IsAmong r records → IsAmong r.space (spaces_among records)
space_of r [] k = absurd k
space_of r (x ∷ xs) (inl e) =
    subst (λ (y : Record). IsAmong y.space (spaces_among (x ∷ xs))) e (placed_among x.space (spaces_among xs))
space_of r (x ∷ xs) (inr k) = still_among x.space r.space (spaces_among xs) (space_of r xs k)

-- a space that there is is the first one, or that of a record
of_record : (records : List Record) (space : Space) → IsAmong space (spaces_among records) → (first_space ≡ space) ⊎ ((r : Record) × IsAmong r records × (r.space ≡ space))
of_record [] space (inl e) = inl e
of_record [] space (inr none) = absurd none
of_record (r ∷ rest) space k = elim (among_placed r.space space (spaces_among rest) k) [
  | inl e ↦ inr (r, inl refl, e)
  | inr m ↦ elim (of_record rest space m) [
    | inl e ↦ inl e
    | inr held ↦ inr (held.0, inr held.1, held.2)
  ]
]

born_in : (ops : List Op) (r : Record) → HasAtom ops (Rec r) → IsAmong r.space (born_spaces ops)
born_in [] r k = absurd k
born_in (Born s ∷ ops) r (inl e) = inl (ap (λ (x : Record). x.space) e)
born_in (Born s ∷ ops) r (inr k) = inr (born_in ops r k)
born_in (Cut cut ∷ ops) r (inl none) = absurd none
born_in (Cut cut ∷ ops) r (inr k) = born_in ops r k
born_in (Closed space ∷ ops) r (inl none) = absurd none
born_in (Closed space ∷ ops) r (inr k) = born_in ops r k

all_born : (ops : List Op) (space : Space) → IsAmong space (spaces_of ops) → (first_space ≡ space) ⊎ IsAmong space (born_spaces ops)
all_born ops space k = elim (of_record (records_of ops) space k) [
  | inl e ↦ inl e
  | inr held ↦ inr (subst (λ (s : Space). IsAmong s (born_spaces ops)) held.2 (born_in ops held.0 (record_held ops held.0.id held.0 (listed_found ops held.0 held.1)).0))
]

pub gathered-first : (ops : List Op) (none spaces : List Space) → none ≡ [] → spaces ≡ placed_space first_space none → Gathered ops ops spaces
gathered-first ops none spaces empty is =
    let one : spaces ≡ first_space ∷ [] = is ∙ ap (placed_space first_space) empty in
    subst (λ (xs : List Space). Gathered ops ops xs) (sym one) (record {
      rising = (tt, tt);
      to = λ space among. elim among [
        | inl e ↦ subst (λ (s : Space). IsAmong s (spaces_of ops)) e (first_among (records_of ops))
        | inr none ↦ absurd none
      ];
      from = λ space among. elim (all_born ops space among) [
        | inl e ↦ inl (inl e)
        | inr left ↦ inr left
      ];
    })

-- with one operation more
pub gathered-next : (ops rest : List Op) (op : Op) (old : List Space) → IsSound ops → ((r : Record) → op ≡ Born r → HasAtom ops (Rec r)) → Gathered ops (op ∷ rest) old
    → Gathered ops rest (with_space_of op old)
gathered-next ops rest (Cut cut) old sound has so_far = record { rising = so_far.rising; to = so_far.to; from = so_far.from }
gathered-next ops rest (Closed space) old sound has so_far = record { rising = so_far.rising; to = so_far.to; from = so_far.from }
gathered-next ops rest (Born r) old sound has so_far =
    let there : IsAmong r.space (spaces_of ops) = space_of r (records_of ops) (found_listed ops r.id r (atom_kept ops (Rec r) sound (has r refl))).0 in
    record {
      rising = ascending_space r.space old so_far.rising;
      to = λ space among. elim (among_placed r.space space old among) [
        | inl e ↦ subst (λ (s : Space). IsAmong s (spaces_of ops)) e there
        | inr k ↦ so_far.to space k
      ];
      from = λ space among. elim (so_far.from space among) [
        | inl k ↦ inl (still_among r.space space old k)
        | inr k ↦ elim k [
          | inl e ↦ inl (subst (λ (s : Space). IsAmong s (placed_space r.space old)) e (placed_among r.space old))
          | inr m ↦ inr m
        ]
      ];
    }

pub first_stays : (op : Op) (space : Space) (spaces : List Space) → IsAmong space spaces → IsAmong space (with_space_of op spaces)
first_stays (Born r) space spaces among = still_among r.space space spaces among
first_stays (Cut cut) space spaces among = among
first_stays (Closed ended) space spaces among = among

pub gathered-last : (ops rest : List Op) (spaces : List Space) → rest ≡ [] → IsAmong first_space spaces → Gathered ops rest spaces → spaces ≡ spaces_of ops
gathered-last ops rest spaces is first so_far =
    same_lists numbered spaces (spaces_of ops) so_far.rising (ascending_among (records_of ops)) (record {
      to = so_far.to;
      from = λ space among. elim (so_far.from space among) [
        | inl k ↦ k
        | inr k ↦ absurd (subst (λ (xs : List Op). IsAmong space (born_spaces xs)) is k)
      ];
    })

-- Other spaces.

no_rows : (f : ℕ → Option Pair) (space : Space) → ((page : ℕ) → f page ≡ None) → rows_behind f space 0 ≡ []
no_rows f space none = behind-skip f space 0 page_limit (omega arith) (omega arith) (λ q low high. none q) ∙ behind-all f space page_limit (omega arith)

pub there_or_none : (ops : List Op) (space : Space) → (space_rows ops space ≡ []) ⊎ IsAmong space (spaces_of ops)
unfolding space_rows served page_rights
there_or_none ops space = elim (none_or_space (records_of ops) space) [
  | inl none ↦ inl (no_rows (served ops space) space (λ page. ap (served_among (state_of ops) page) none))
  | inr among ↦ inr among
]

-- the rows of the spaces that there are make the table
pub table_of : (ops : List Op) (spaces : List Space) → spaces ≡ spaces_of ops → rows_of_spaces (space_rows ops) spaces ≡ table ops
unfolding table
table_of ops spaces is = ap (rows_of_spaces (space_rows ops)) is
