-- Parts of what a space shows, one behind the other.
use Rattle.std.proofs.Common.{ℕ, List, [], ◌∷◌, ◌++◌, refl, sym, subst}
use Rattle.mapdb_rights.specs.ShownSpaces.{CoverPages}
use Rattle.mapdb_rights.specs.declared.index.served_pages.SteadyPages.{SteadyPages}

-- one part more
pub parts_on : (IsPart : ℕ → SteadyPages → Type 0) (from to : ℕ) (parts : List SteadyPages) (next : SteadyPages) → IsPart to next → CoverPages IsPart from to parts
    → CoverPages IsPart from next.end (parts ++ next ∷ [])
parts_on IsPart from to [] next here same = (subst (λ n. IsPart n next) (sym same) here, refl)
parts_on IsPart from to (part ∷ rest) next here parts = (parts.0, parts_on IsPart part.end to rest next here parts.1)

-- of which something else holds too
pub parts_as : (IsPart Is : ℕ → SteadyPages → Type 0) → ((page : ℕ) (part : SteadyPages) → IsPart page part → Is page part) → (from to : ℕ) (parts : List SteadyPages) → CoverPages IsPart from to parts
    → CoverPages Is from to parts
parts_as IsPart Is so from to [] same = same
parts_as IsPart Is so from to (part ∷ rest) parts = (so from part parts.0, parts_as IsPart Is so part.end to rest parts.1)
