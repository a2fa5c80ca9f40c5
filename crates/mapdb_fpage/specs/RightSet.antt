-- What a set of rights says (Fpages: rwx).
use Rattle.std.specs.Prelude.{Bool}

-- whether each right is in the set
pub record RightSet : Type 0 where
  pub read : Bool
  pub write : Bool
  pub execute : Bool
