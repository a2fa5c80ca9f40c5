-- What holds of pictures and explanations.
use Rattle.std.specs.Prelude.{◌≡◌, ℕ, List}
use Rattle.mapdb_facts.specs.State.{IsSound, SameAtoms}
use Rattle.mapdb_facts.specs.declared.names.Space.{Space}
use Rattle.mapdb_facts.specs.declared.operations.Op.{Op}
use Rattle.mapdb_picture.specs.Explanation.{explanation_text}
use Rattle.mapdb_picture.specs.Picture.{picture_text}

-- a picture depends on the atoms alone
abbrev pub PicturesAreOfAtoms : Type 0
PicturesAreOfAtoms = (xs ys : List Op) → IsSound xs → SameAtoms xs ys
    → picture_text xs ≡ picture_text ys

-- and so does an explanation
abbrev pub ExplanationsAreOfAtoms : Type 0
ExplanationsAreOfAtoms =
    (xs ys : List Op) (space : Space) (page : ℕ) → IsSound xs → SameAtoms xs ys
    → explanation_text xs space page ≡ explanation_text ys space page
