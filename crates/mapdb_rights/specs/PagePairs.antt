-- What the records of a space have at a page, each its frame with its rights.
use Rattle.std.specs.Prelude.{◌≡◌, ℕ, List, [], ◌∷◌, ◌++◌, Option, Some, None}
use Rattle.mapdb_fpage.specs.declared.right_sets.Rights.{Rights}
use Rattle.mapdb_facts.specs.Records.{IsAmong}
use Rattle.mapdb_facts.specs.State.{State}
use Rattle.mapdb_facts.specs.declared.names.RecordId.{RecordId}
use Rattle.mapdb_facts.specs.declared.names.Space.{Space}
use Rattle.mapdb_rights.specs.Live.{IsLive}
use Rattle.mapdb_rights.specs.PageRights.{pair_at}

-- with one pair more, where there is one
abbrev pub with_shown : Option (ℕ × Rights) → List (ℕ × Rights) → List (ℕ × Rights)
with_shown None pairs = pairs
with_shown (Some pair) pairs = pairs ++ pair ∷ []

-- some record of the space has this frame there, with these rights
pub record IsShownPair (S : State) (space : Space) (page : ℕ) (pair : ℕ × Rights)
    : Type 0 where
  pub id : RecordId
  pub live : IsLive S space page id
  pub is : pair_at S id page ≡ Some pair

-- what the record has there is among the pairs
pub record HasPairAmong (S : State) (page : ℕ) (pairs : List (ℕ × Rights)) (id : RecordId)
    : Type 0 where
  pub pair : ℕ × Rights
  pub is : pair_at S id page ≡ Some pair
  pub among : IsAmong pair pairs

-- each of the pairs is that of some record
abbrev pub AreShown : State → Space → ℕ → List (ℕ × Rights) → Type 0
AreShown S space page pairs = (pair : ℕ × Rights) → IsAmong pair pairs
    → IsShownPair S space page pair

-- these are the pairs of all records of the space that have a right at the page, and no other
pub record ArePagePairs (S : State) (space : Space) (page : ℕ) (pairs : List (ℕ × Rights))
    : Type 0 where
  pub shown : AreShown S space page pairs
  pub all : (id : RecordId) → IsLive S space page id → HasPairAmong S page pairs id
