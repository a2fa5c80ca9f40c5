-- The chain is a page, and then the chain from its source on: how many steps are allowed does not matter.
use Rattle.std.proofs.Common.{◌≡◌, ℕ, zero, suc, ◌<◌, ◌≤◌, List, [], ◌∷◌, Some, refl, ap, ◌∙◌, arith}
use Rattle.std.specs.Prelude.{Bool, true, false, Option, None, if◌then◌else◌}
use Rattle.mapdb_facts.specs.Names.{is_root}
use Rattle.mapdb_facts.specs.State.{State}
use Rattle.mapdb_facts.specs.declared.names.RecordId.{RecordId}
use Rattle.mapdb_facts.specs.declared.operations.Record.{Record}
use Rattle.mapdb_rights.specs.Right.{reaches, source_page}
use Rattle.mapdb_rights.proofs.Rights.Steps.{earlier}
use Rattle.mapdb_picture.specs.declared.steps.Spot.{Spot}
use Rattle.mapdb_picture.specs.Chain.{chain, chain_within, chained, source_in, step_up}

abbrev spot_of : RecordId → ℕ → Spot
spot_of id page = record { id = id; page = page }

-- a source has a lesser number
source_earlier : (id : RecordId) (o : Option Record) (page : ℕ) (source : Spot) → source_in id o page ≡ Some source → source.id.number < id.number
source_earlier id None page source e = cc
source_earlier id (Some r) page source e = by (reaches id r page) refl e
  where
    by : (t : Bool) → reaches id r page ≡ t → (let o : Option Spot = if t then Some (spot_of r.parent (source_page r page)) else None in o ≡ Some source) → source.id.number < id.number
    by true h e = let same : spot_of r.parent (source_page r page) ≡ source = cc in let less = earlier id r page h in omega (arith, ap (λ (s : Spot). s.id.number) same)
    by false h e = cc

pub step_earlier : (S : State) (spot source : Spot) → step_up S spot ≡ Some source → source.id.number < spot.id.number
step_earlier S spot source e = by (is_root spot.id) e
  where
    by : (t : Bool) → (let o : Option Spot = if t then None else source_in spot.id (S.record_at spot.id) spot.page in o ≡ Some source) → source.id.number < spot.id.number
    by true e = cc
    by false e = source_earlier spot.id (S.record_at spot.id) spot.page source e

-- only the rest from a source on matters
rest_same : (f g : Spot → List Spot) (spot : Spot) (o : Option Spot) → ((source : Spot) → o ≡ Some source → f source ≡ g source)
    → chained f spot o ≡ chained g spot o
rest_same f g spot None same = refl
rest_same f g spot (Some source) same = ap (λ (rest : List Spot). spot ∷ rest) (same source refl)

steps_same : (n m : ℕ) (S : State) (spot : Spot) → spot.id.number ≤ n → spot.id.number ≤ m → chain_within n S spot ≡ chain_within m S spot
steps_same zero zero S spot below_n below_m = refl
steps_same zero (suc m) S spot below_n below_m =
    rest_same (λ _. []) (chain_within m S) spot (step_up S spot) (λ source e. let less = step_earlier S spot source e in absurd (omega arith))
steps_same (suc n) zero S spot below_n below_m =
    rest_same (chain_within n S) (λ _. []) spot (step_up S spot) (λ source e. let less = step_earlier S spot source e in absurd (omega arith))
steps_same (suc n) (suc m) S spot below_n below_m =
    rest_same (chain_within n S) (chain_within m S) spot (step_up S spot)
    (λ source e. let less = step_earlier S spot source e in steps_same n m S source (omega arith) (omega arith))

chain_is : (n : ℕ) (S : State) (spot : Spot) → spot.id.number ≤ n → chain_within n S spot ≡ chained (λ source. chain_within source.id.number S source) spot (step_up S spot)
chain_is zero S spot below =
    rest_same (λ _. []) (λ source. chain_within source.id.number S source) spot (step_up S spot)
    (λ source e. let less = step_earlier S spot source e in absurd (omega arith))
chain_is (suc n) S spot below =
    rest_same (chain_within n S) (λ source. chain_within source.id.number S source) spot (step_up S spot)
    (λ source e. let less = step_earlier S spot source e in steps_same n source.id.number S source (omega arith) (omega arith))

-- the definition of the chain, with no count of steps
pub chain_step : (S : State) (spot : Spot) → chain S spot ≡ chained (chain S) spot (step_up S spot)
unfolding chain
chain_step S spot = chain_is spot.id.number S spot (omega arith)

-- what is left of the chain
abbrev pub chain_from : State → Option Spot → List Spot
chain_from S None = []
chain_from S (Some spot) = chain S spot

chained_from : (S : State) (spot : Spot) (o : Option Spot) → chained (chain S) spot o ≡ spot ∷ chain_from S o
chained_from S spot None = refl
chained_from S spot (Some source) = refl

pub chain_next : (S : State) (spot : Spot) → chain S spot ≡ spot ∷ chain_from S (step_up S spot)
chain_next S spot = chain_step S spot ∙ chained_from S spot (step_up S spot)
