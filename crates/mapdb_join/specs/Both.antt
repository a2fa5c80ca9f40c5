-- The atoms of two values side by side: those of the first, and those of the second.
use Rattle.std.specs.Prelude.{Bool, List, ◌++◌, map}
use Rattle.mapdb_join.specs.Atoms.{Clashes}
use Rattle.mapdb_join.specs.declared.both.Both.{Both}
use Rattle.mapdb_join.specs.declared.both.OneOf.{OneOf}
use Rattle.mapdb_join.specs.declared.both.OneOf.TheVariants.{First, Second}

module _ {S T A B : Type 0} where
  -- whether the part that the atom belongs to has it
  abbrev pub has_either : (S → A → Bool) → (T → B → Bool) → Both S T → OneOf A B → Bool
  has_either has_first has_second p (First x) = has_first p.first x
  has_either has_first has_second p (Second y) = has_second p.second y

  -- the atoms of the first part, then those of the second
  abbrev pub atoms_either : (S → List A) → (T → List B) → Both S T → List (OneOf A B)
  atoms_either one two p = map First (one p.first) ++ map Second (two p.second)

-- atoms of one part that exclude each other there
abbrev pub excludes_either : {A B : Type 0} → (A → A → Type 0) → (B → B → Type 0) → OneOf A B →
    OneOf A B → Type 0
excludes_either one two (First x) (First y) = one x y
excludes_either one two (Second x) (Second y) = two x y
excludes_either one two (First x) (Second y) = ⊥
excludes_either one two (Second x) (First y) = ⊥

-- each part is a value that a program can have
abbrev pub IsPair : {S T : Type 0} → (S → Type 0) → (T → Type 0) → Both S T → Type 0
IsPair is_first is_second p = is_first p.first × is_second p.second

module _ {S T A B P Q : Type 0}
    (has_first : S → A → Bool) (one : A → A → Type 0)
    (has_second : T → B → Bool) (two : B → B → Type 0)
    (is_first : S → S → P → Type 0) (is_second : T → T → Q → Type 0) where
  -- a spot of the first part, where that clashes, and else one of the second
  abbrev pub IsEitherSpot : Both S T → Both S T → OneOf P Q → Type 0
  IsEitherSpot a b (First s) = Clashes has_first one a.first b.first × is_first a.first b.first s
  IsEitherSpot a b (Second s) =
      (Clashes has_first one a.first b.first → ⊥)
      × Clashes has_second two a.second b.second × is_second a.second b.second s
