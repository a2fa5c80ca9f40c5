-- A list from which some members may be left out.
use Rattle.std.specs.Prelude.{◌≡◌, ◌⊎◌, List, [], ◌∷◌}

-- The same members in the same order, but for some of those that may go.
abbrev pub IsAllBut : {A : Type 0} → (A → Type 0) → List A → List A → Type 0
IsAllBut may_go [] left = left ≡ []
IsAllBut {A} may_go (x ∷ all) left =
    (may_go x × IsAllBut may_go all left)
    ⊎ ((rest : List A) × (left ≡ x ∷ rest) × IsAllBut may_go all rest)
