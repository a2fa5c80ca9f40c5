-- What a space shows from its first page to its last, part after part.
use Rattle.std.specs.Prelude.{◌≡◌, ◌<◌, ◌≤◌, ℕ, List, [], ◌∷◌}
use Rattle.mapdb_fpage.specs.Bounds.{page_limit}
use Rattle.mapdb_facts.specs.State.{State}
use Rattle.mapdb_facts.specs.declared.names.Space.{Space}
use Rattle.mapdb_rights.specs.Live.{ShowUntil}
use Rattle.mapdb_rights.specs.Served.{IsServed}
use Rattle.mapdb_rights.specs.declared.index.served_pages.SteadyPages.{SteadyPages}

-- what the page is served from, and an end up to which all records of the space go on from there
pub record IsShownFrom (S : State) (space : Space) (page : ℕ) (shown : SteadyPages) : Type 0 where
  pub begins : shown.page ≡ page
  pub served : IsServed S space page shown.served
  pub above : page < shown.end
  pub limit : shown.end ≤ page_limit
  pub until : ShowUntil S space page shown.end

-- parts, one behind the other, from a page up to before another, of each of which something holds
-- at the page where it begins
abbrev pub CoverPages : (ℕ → SteadyPages → Type 0) → ℕ → ℕ → List SteadyPages → Type 0
CoverPages IsPart from to [] = from ≡ to
CoverPages IsPart from to (part ∷ rest) = IsPart from part × CoverPages IsPart part.end to rest
