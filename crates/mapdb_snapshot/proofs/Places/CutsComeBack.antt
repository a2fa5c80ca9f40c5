-- The revocations of a snapshot take exactly the rights that are revoked.
use Rattle.std.proofs.Common.{◌≡◌, ℕ, ◌+◌, ◌<◌, ◌≤◌, true, refl, sym, ap, subst, ◌∙◌, List, [], ◌∷◌, ◌++◌, map, inl, inr, arith}
use Rattle.std.specs.Prelude.{◌&&◌, ◌⊎◌}
use Rattle.std.proofs.lemmas.Bool.{and_from, and_parts}
use Rattle.mapdb_fpage.specs.Bounds.{page_limit}
use Rattle.mapdb_fpage.specs.Place.{IsPlace, Place, holds}
use Rattle.mapdb_fpage.specs.RightSets.{includes}
use Rattle.mapdb_fpage.specs.declared.right_sets.Right.{Right}
use Rattle.mapdb_fpage.specs.declared.right_sets.Rights.{Rights}
use Rattle.mapdb_facts.specs.Names.{same_id}
use Rattle.mapdb_facts.specs.Records.{IsAmong}
use Rattle.mapdb_facts.specs.Adding.{cut_at as revoked_at}
use Rattle.mapdb_facts.specs.Runs.{cut_runs}
use Rattle.mapdb_facts.specs.State.{HasAtom, Rev, State, cuts}
use Rattle.mapdb_facts.specs.declared.names.RecordId.{RecordId}
use Rattle.mapdb_facts.specs.declared.operations.Op.TheVariants.{Cut}
use Rattle.mapdb_facts.specs.declared.operations.Revocation.{Revocation}
use Rattle.mapdb_facts.specs.declared.runs.CutRun.{CutRun}
use Rattle.mapdb_facts.proofs.Lists.SameNames.{same_id_itself, same_id_true}
use Rattle.mapdb_snapshot.specs.Cutting.{cuts_of_names, cuts_of_run, cuts_of_runs, places_of}
use Rattle.mapdb_snapshot.proofs.Places.PlacesCover.{AreIn, Cover, places_cover}
use Rattle.mapdb_snapshot.proofs.Places.RunsCover.{AreInRuns, HaveRights, runs_have}
use Rattle.mapdb_rights.proofs.Rights.Settled.{includes_where}

-- one of the revocations takes the right
abbrev pub Take : List Revocation → RecordId → ℕ → Right → Type 0
Take [] id page right = ⊥
Take (cut ∷ rest) id page right = (cuts cut id page right ≡ true) ⊎ Take rest id page right

-- as operations they have these atoms
pub take_of_atom : (revocations : List Revocation) (id : RecordId) (page : ℕ) (right : Right)
    → HasAtom (map Cut revocations) (Rev id page right) → Take revocations id page right
take_of_atom [] id page right h = h
take_of_atom (cut ∷ rest) id page right (inl h) = inl h
take_of_atom (cut ∷ rest) id page right (inr h) = inr (take_of_atom rest id page right h)

pub atom_of_take : (revocations : List Revocation) (id : RecordId) (page : ℕ) (right : Right)
    → Take revocations id page right → HasAtom (map Cut revocations) (Rev id page right)
atom_of_take [] id page right h = h
atom_of_take (cut ∷ rest) id page right (inl h) = inl h
atom_of_take (cut ∷ rest) id page right (inr h) = inr (atom_of_take rest id page right h)

take_either : (xs ys : List Revocation) (id : RecordId) (page : ℕ) (right : Right)
    → Take (xs ++ ys) id page right → Take xs id page right ⊎ Take ys id page right
take_either [] ys id page right h = inr h
take_either (cut ∷ xs) ys id page right (inl h) = inl (inl h)
take_either (cut ∷ xs) ys id page right (inr h) = elim (take_either xs ys id page right h) [ inl x ↦ inl (inr x) | inr y ↦ inr y ]

take_left : (xs ys : List Revocation) (id : RecordId) (page : ℕ) (right : Right) → Take xs id page right → Take (xs ++ ys) id page right
take_left [] ys id page right h = absurd h
take_left (cut ∷ xs) ys id page right (inl h) = inl h
take_left (cut ∷ xs) ys id page right (inr h) = inr (take_left xs ys id page right h)

take_right : (xs ys : List Revocation) (id : RecordId) (page : ℕ) (right : Right) → Take ys id page right → Take (xs ++ ys) id page right
take_right [] ys id page right h = h
take_right (cut ∷ xs) ys id page right h = inr (take_right xs ys id page right h)

among_either : (xs ys : List Revocation) (cut : Revocation) → IsAmong cut (xs ++ ys) → IsAmong cut xs ⊎ IsAmong cut ys
among_either [] ys cut h = inr h
among_either (x ∷ xs) ys cut (inl h) = inl (inl h)
among_either (x ∷ xs) ys cut (inr h) = elim (among_either xs ys cut h) [ inl left ↦ inl (inr left) | inr right ↦ inr right ]

-- the revocation of a right set at a place
abbrev cut_at : RecordId → Rights → Place → Revocation
cut_at id rights place = record { target = id; part = place; rights = rights }

-- what a revocation takes is under its name, in its part, and of its rights
pub cut_parts : (cut : Revocation) (id : RecordId) (page : ℕ) (right : Right) → cuts cut id page right ≡ true
    → (same_id cut.target id ≡ true) × (holds cut.part page ≡ true) × (includes cut.rights right ≡ true)
cut_parts cut id page right h =
    let both = and_parts (same_id cut.target id && holds cut.part page) (includes cut.rights right) h in
    let first = and_parts (same_id cut.target id) (holds cut.part page) both.0 in
    (first.0, first.1, both.1)

take_at_places : (id other : RecordId) (rights : Rights) (places : List Place) (page : ℕ) (right : Right)
    → Take (map (λ place. cut_at id rights place) places) other page right
    → (same_id id other ≡ true) × AreIn places page × (includes rights right ≡ true)
take_at_places id other rights [] page right h = absurd h
take_at_places id other rights (place ∷ places) page right (inl h) =
    let parts = cut_parts (cut_at id rights place) other page right h in (parts.0, inl parts.1, parts.2)
take_at_places id other rights (place ∷ places) page right (inr h) =
    let later = take_at_places id other rights places page right h in (later.0, inr later.1, later.2)

places_take : (id : RecordId) (rights : Rights) (places : List Place) (page : ℕ) (right : Right)
    → AreIn places page → includes rights right ≡ true → Take (map (λ place. cut_at id rights place) places) id page right
places_take id rights [] page right h has = absurd h
places_take id rights (place ∷ places) page right (inl h) has =
    inl (and_from (same_id id id && holds place page) (includes rights right)
    (and_from (same_id id id) (holds place page) (same_id_itself id) h) has)
places_take id rights (place ∷ places) page right (inr h) has = inr (places_take id rights places page right h has)

among_places : (id : RecordId) (rights : Rights) (places : List Place) (cut : Revocation)
    → ((place : Place) → IsAmong place places → IsPlace place)
    → IsAmong cut (map (λ place. cut_at id rights place) places) → (id ≡ cut.target) × IsPlace cut.part
among_places id rights [] cut each h = absurd h
among_places id rights (place ∷ places) cut each (inl h) =
    (ap (λ (x : Revocation). x.target) h, subst (λ (x : Revocation). IsPlace x.part) h (each place (inl refl)))
among_places id rights (place ∷ places) cut each (inr h) = among_places id rights places cut (λ p among. each p (inr among)) h

-- a run within the space is covered by its places
run_cover : (run : CutRun) → run.first_page + run.page_count ≤ page_limit
    → Cover (places_of run.first_page run.page_count) run.first_page run.page_count
run_cover run room = places_cover run.page_count run.first_page run.page_count (omega arith) room

-- what the revocations of runs take, and where they stand
runs_take_only : (id other : RecordId) (runs : List CutRun) (page : ℕ) (right : Right)
    → ((run : CutRun) → IsAmong run runs → run.first_page + run.page_count ≤ page_limit)
    → Take (cuts_of_runs id runs) other page right → (same_id id other ≡ true) × AreInRuns runs page right
runs_take_only id other [] page right room h = absurd h
runs_take_only id other (run ∷ runs) page right room h =
    elim (take_either (cuts_of_run id run) (cuts_of_runs id runs) other page right h) [
      | inl here ↦
          let found = take_at_places id other run.rights (places_of run.first_page run.page_count) page right here in
          let range = (run_cover run (room run (inl refl))).into page found.1 in
          (found.0, inl (record { low = range.0; high = range.1; has = found.2 }))
      | inr later ↦ let found = runs_take_only id other runs page right (λ r among. room r (inr among)) later in (found.0, inr found.1)
    ]

runs_take : (id : RecordId) (runs : List CutRun) (page : ℕ) (right : Right)
    → ((run : CutRun) → IsAmong run runs → run.first_page + run.page_count ≤ page_limit)
    → AreInRuns runs page right → Take (cuts_of_runs id runs) id page right
runs_take id [] page right room h = absurd h
runs_take id (run ∷ runs) page right room (inl h) =
    take_left (cuts_of_run id run) (cuts_of_runs id runs) id page right
    (places_take id run.rights (places_of run.first_page run.page_count) page right
    ((run_cover run (room run (inl refl))).from page h.low h.high) h.has)
runs_take id (run ∷ runs) page right room (inr h) =
    take_right (cuts_of_run id run) (cuts_of_runs id runs) id page right (runs_take id runs page right (λ r among. room r (inr among)) h)

runs_stand : (id : RecordId) (runs : List CutRun) (cut : Revocation)
    → ((run : CutRun) → IsAmong run runs → run.first_page + run.page_count ≤ page_limit)
    → IsAmong cut (cuts_of_runs id runs) → (id ≡ cut.target) × IsPlace cut.part
runs_stand id [] cut room h = absurd h
runs_stand id (run ∷ runs) cut room h = elim (among_either (cuts_of_run id run) (cuts_of_runs id runs) cut h) [
  | inl here ↦ among_places id run.rights (places_of run.first_page run.page_count) cut (run_cover run (room run (inl refl))).each here
  | inr later ↦ runs_stand id runs cut (λ r among. room r (inr among)) later
]

all_runs : (S : State) (id : RecordId) → HaveRights (revoked_at S id) 0 page_limit (cut_runs S id 0)
unfolding cut_runs
all_runs S id = runs_have (revoked_at S id) 0 page_limit

-- the revocations of names take only what is revoked
pub names_take_only : (S : State) (ids : List RecordId) (other : RecordId) (page : ℕ) (right : Right)
    → Take (cuts_of_names S ids) other page right → S.is_cut other page right ≡ true
names_take_only S [] other page right h = absurd h
names_take_only S (id ∷ ids) other page right h =
    elim (take_either (cuts_of_runs id (cut_runs S id 0)) (cuts_of_names S ids) other page right h) [
      | inl here ↦
          let runs = all_runs S id in
          let found = runs_take_only id other (cut_runs S id 0) page right runs.each here in
          let cut = (runs.into page right found.1).2 in
          subst (λ x. S.is_cut x page right ≡ true) (same_id_true id other found.0) (sym (includes_where (S.is_cut id page) right) ∙ cut)
      | inr later ↦ names_take_only S ids other page right later
    ]

names_take_here : (S : State) (id : RecordId) (page : ℕ) (right : Right) → page < page_limit → S.is_cut id page right ≡ true
    → Take (cuts_of_runs id (cut_runs S id 0)) id page right
names_take_here S id page right within is =
    let runs = all_runs S id in
    runs_take id (cut_runs S id 0) page right runs.each (runs.from page right (omega arith) within
    (includes_where (S.is_cut id page) right ∙ is))

-- and all that is revoked of these names
pub names_take : (S : State) (ids : List RecordId) (id : RecordId) (page : ℕ) (right : Right)
    → IsAmong id ids → page < page_limit → S.is_cut id page right ≡ true → Take (cuts_of_names S ids) id page right
names_take S [] id page right among within is = absurd among
names_take S (first ∷ ids) id page right (inl same) within is =
    take_left (cuts_of_runs first (cut_runs S first 0)) (cuts_of_names S ids) id page right
    (subst (λ (x : RecordId). Take (cuts_of_runs x (cut_runs S x 0)) id page right) (sym same) (names_take_here S id page right within is))
names_take S (first ∷ ids) id page right (inr among) within is =
    take_right (cuts_of_runs first (cut_runs S first 0)) (cuts_of_names S ids) id page right
    (names_take S ids id page right among within is)

-- each of them is of one of the names, at a place
pub names_stand : (S : State) (ids : List RecordId) (cut : Revocation) → IsAmong cut (cuts_of_names S ids)
    → IsAmong cut.target ids × IsPlace cut.part
names_stand S [] cut h = absurd h
names_stand S (id ∷ ids) cut h = elim (among_either (cuts_of_runs id (cut_runs S id 0)) (cuts_of_names S ids) cut h) [
  | inl here ↦ let found = runs_stand id (cut_runs S id 0) cut (all_runs S id).each here in (inl found.0, found.1)
  | inr later ↦ let found = names_stand S ids cut later in (inr found.0, found.1)
]
