-- Lists of operations from which some that are known already were left out.
use Rattle.std.specs.Prelude.{◌≡◌, ◌++◌, false, List}
use Rattle.mapdb_facts.specs.Adding.{is_new}
use Rattle.mapdb_facts.specs.State.{State}
use Rattle.mapdb_facts.specs.declared.operations.Op.{Op}
use Rattle.mapdb_rights.specs.AllBut.{IsAllBut}

-- the state lacks nothing that the operation says
abbrev pub IsOld : State → Op → Type 0
IsOld S op = is_new S op ≡ false

-- the new list is the old one, and behind it all of these, but for some that are known already
pub record Adds (S : State) (ops old new : List Op) : Type 0 where
  pub more : List Op
  pub is : new ≡ old ++ more
  pub all_but : IsAllBut (IsOld S) ops more
