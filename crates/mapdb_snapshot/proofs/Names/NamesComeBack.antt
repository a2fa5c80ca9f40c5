-- The names with revocations, and the spaces that have ended.
use Rattle.std.proofs.Common.{◌≡◌, ℕ, ◌<◌, Bool, true, false, refl, sym, subst, ◌∙◌, List, [], ◌∷◌, inl, inr, arith}
use Rattle.std.specs.Prelude.{◌⊎◌, if◌then◌else◌}
use Rattle.std.proofs.lemmas.Bool.{false≢true, or_cases}
use Rattle.mapdb_fpage.specs.Bounds.{page_limit}
use Rattle.mapdb_fpage.specs.RightSets.{is_empty}
use Rattle.mapdb_fpage.specs.declared.right_sets.Right.{Right}
use Rattle.mapdb_fpage.proofs.Meets.{holds_range}
use Rattle.mapdb_facts.specs.Names.{is_before, is_space_before, same_id, same_space}
use Rattle.mapdb_facts.specs.Spaces.{placed_space}
use Rattle.mapdb_facts.specs.Records.{IsAmong}
use Rattle.mapdb_facts.specs.State.{End, HasAtom, cuts, state_of}
use Rattle.mapdb_facts.specs.Values.{IsId}
use Rattle.mapdb_facts.specs.declared.names.RecordId.{RecordId}
use Rattle.mapdb_facts.specs.declared.names.Space.{Space}
use Rattle.mapdb_facts.specs.declared.operations.Op.{Op}
use Rattle.mapdb_facts.specs.declared.operations.Op.TheVariants.{Born, Closed, Cut}
use Rattle.mapdb_facts.proofs.Lists.SameNames.{same_id_true, same_space_true}
use Rattle.mapdb_snapshot.specs.ComingBack.{IsRevocation, IsSaved}
use Rattle.mapdb_snapshot.specs.Cutting.{cut_names, placed_name}
use Rattle.mapdb_snapshot.specs.Snapshot.{ended_of}
use Rattle.mapdb_snapshot.proofs.Places.CutsComeBack.{cut_parts}
use Rattle.mapdb_snapshot.proofs.Places.RunsCover.{empty_excludes}
use Rattle.mapdb_facts.proofs.Maps.Spaces.{among_placed}

-- a value of a list, which stands where a test says
module _ {X : Type 0} where
  -- what is among a list with a value in front or in the place of the first, or behind it
  among_choice : (x y first : X) (rest behind : List X) (before same : Bool) → (IsAmong y behind → (x ≡ y) ⊎ IsAmong y rest)
      → IsAmong y (if before then first ∷ behind else (if same then first ∷ rest else x ∷ first ∷ rest))
      → (x ≡ y) ⊎ IsAmong y (first ∷ rest)
  among_choice x y first rest behind true same later (inl h) = inr (inl h)
  among_choice x y first rest behind true same later (inr h) = elim (later h) [ inl e ↦ inl e | inr r ↦ inr (inr r) ]
  among_choice x y first rest behind false true later h = inr h
  among_choice x y first rest behind false false later h = h

  choice_among : (x y first : X) (rest behind : List X) (before same : Bool) → (same ≡ true → x ≡ first)
      → ((x ≡ y) ⊎ IsAmong y rest → IsAmong y behind)
      → (x ≡ y) ⊎ IsAmong y (first ∷ rest)
      → IsAmong y (if before then first ∷ behind else (if same then first ∷ rest else x ∷ first ∷ rest))
  choice_among x y first rest behind true same is later (inl h) = inr (later (inl h))
  choice_among x y first rest behind true same is later (inr (inl h)) = inl h
  choice_among x y first rest behind true same is later (inr (inr h)) = inr (later (inr h))
  choice_among x y first rest behind false true is later (inl h) = inl (sym (is refl) ∙ h)
  choice_among x y first rest behind false true is later (inr h) = h
  choice_among x y first rest behind false false is later h = h

pub among_placed_name : (id other : RecordId) (ids : List RecordId) → IsAmong other (placed_name id ids) → (id ≡ other) ⊎ IsAmong other ids
among_placed_name id other [] h = h
among_placed_name id other (first ∷ rest) h =
    among_choice id other first rest (placed_name id rest) (is_before first id) (same_id id first) (among_placed_name id other rest) h

placed_name_among : (id other : RecordId) (ids : List RecordId) → (id ≡ other) ⊎ IsAmong other ids → IsAmong other (placed_name id ids)
placed_name_among id other [] h = h
placed_name_among id other (first ∷ rest) h =
    choice_among id other first rest (placed_name id rest) (is_before first id) (same_id id first) (same_id_true id first)
    (placed_name_among id other rest) h

placed_space_among : (space other : Space) (spaces : List Space) → (space ≡ other) ⊎ IsAmong other spaces
    → IsAmong other (placed_space space spaces)
placed_space_among space other [] h = h
placed_space_among space other (first ∷ rest) h =
    choice_among space other first rest (placed_space space rest) (is_space_before first space) (same_space space first)
    (same_space_true space first) (placed_space_among space other rest) h

named_or : (empty : Bool) (id other : RecordId) (ids : List RecordId) → IsAmong other (if empty then ids else placed_name id ids)
    → (id ≡ other) ⊎ IsAmong other ids
named_or true id other ids h = inr h
named_or false id other ids h = among_placed_name id other ids h

-- a name with revocations has numbers in their ranges
pub name_fits : (ops : List Op) (id : RecordId) → ((op : Op) → IsAmong op ops → IsSaved op) → IsAmong id (cut_names ops) → IsId id
name_fits [] id fits h = absurd h
name_fits (Born r ∷ ops) id fits h = name_fits ops id (λ op among. fits op (inr among)) h
name_fits (Cut cut ∷ ops) id fits h = elim (named_or (is_empty cut.rights) cut.target id (cut_names ops) h) [
  | inl same ↦ let range : IsRevocation cut = fits (Cut cut) (inl refl) in subst (λ (x : RecordId). IsId x) same range.target
  | inr later ↦ name_fits ops id (λ op among. fits op (inr among)) later
]
name_fits (Closed space ∷ ops) id fits h = name_fits ops id (λ op among. fits op (inr among)) h

named_here : (empty : Bool) (id : RecordId) (ids : List RecordId) → (empty ≡ true → ⊥)
    → IsAmong id (if empty then ids else placed_name id ids)
named_here true id ids some = absurd (some refl)
named_here false id ids some = placed_name_among id id ids (inl refl)

named_later : (empty : Bool) (id other : RecordId) (ids : List RecordId) → IsAmong other ids
    → IsAmong other (if empty then ids else placed_name id ids)
named_later true id other ids h = h
named_later false id other ids h = placed_name_among id other ids (inr h)

-- what is revoked is revoked of one of the names, at a page of the space
pub revoked_named : (ops : List Op) (id : RecordId) (page : ℕ) (right : Right) → ((op : Op) → IsAmong op ops → IsSaved op)
    → (state_of ops).is_cut id page right ≡ true → IsAmong id (cut_names ops) × (page < page_limit)
revoked_named [] id page right fits h = absurd (false≢true h)
revoked_named (Born r ∷ ops) id page right fits h = revoked_named ops id page right (λ op among. fits op (inr among)) h
revoked_named (Cut cut ∷ ops) id page right fits h = elim (or_cases (cuts cut id page right) ((state_of ops).is_cut id page right) h) [
  | inl here ↦
      let parts = cut_parts cut id page right here in
      let range : IsRevocation cut = fits (Cut cut) (inl refl) in
      let lies = holds_range cut.part page parts.1 in (
        subst (λ (x : RecordId). IsAmong x (cut_names (Cut cut ∷ ops))) (same_id_true cut.target id parts.0)
            (named_here (is_empty cut.rights) cut.target (cut_names ops) (λ empty. empty_excludes cut.rights right empty parts.2)),
        omega (arith, lies.1, range.part.in_space),
      )
  | inr later ↦
      let found = revoked_named ops id page right (λ op among. fits op (inr among)) later in
      (named_later (is_empty cut.rights) cut.target id (cut_names ops) found.0, found.1)
]
revoked_named (Closed space ∷ ops) id page right fits h = revoked_named ops id page right (λ op among. fits op (inr among)) h

-- the spaces are those that have ended
pub ended_atom : (ops : List Op) (space : Space) → IsAmong space (ended_of ops) → HasAtom ops (End space)
ended_atom [] space h = h
ended_atom (Born r ∷ ops) space h = inr (ended_atom ops space h)
ended_atom (Cut cut ∷ ops) space h = inr (ended_atom ops space h)
ended_atom (Closed other ∷ ops) space h = elim (among_placed other space (ended_of ops) h) [
  | inl same ↦ inl same
  | inr later ↦ inr (ended_atom ops space later)
]

pub atom_ended : (ops : List Op) (space : Space) → HasAtom ops (End space) → IsAmong space (ended_of ops)
atom_ended [] space h = h
atom_ended (Born r ∷ ops) space (inl h) = absurd h
atom_ended (Born r ∷ ops) space (inr h) = atom_ended ops space h
atom_ended (Cut cut ∷ ops) space (inl h) = absurd h
atom_ended (Cut cut ∷ ops) space (inr h) = atom_ended ops space h
atom_ended (Closed other ∷ ops) space (inl h) = placed_space_among other space (ended_of ops) (inl h)
atom_ended (Closed other ∷ ops) space (inr h) = placed_space_among other space (ended_of ops) (inr (atom_ended ops space h))
