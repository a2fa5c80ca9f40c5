-- What a call that gives tells is what the copy answers.
use Rattle.std.proofs.Common.{◌≡◌, refl, ap, sym, subst, inl, inr}
use Rattle.std.specs.Prelude.{ℕ, List, map, Result, Ok, Err}
use Rattle.std.proofs.lemmas.Bool.{false≢true}
use Rattle.mapdb_facts.specs.declared.operations.Op.{Op}
use Rattle.mapdb_replica.specs.Giving.{IsNotGiven}
use Rattle.mapdb_replica.specs.declared.faults.GiveFault.{GiveFault}
use Rattle.mapdb_c.specs.Filling.{Fills, FitsArray}
use Rattle.mapdb_c.specs.Giving.{GivesAs, give_status}
use Rattle.mapdb_c.specs.RawOperations.{written_operation}
use Rattle.mapdb_c.specs.declared.operations.RawOperation.{RawOperation}
use Rattle.mapdb_c.specs.declared.statuses.Status.{Status}
use Rattle.mapdb_c.specs.declared.statuses.Status.TheVariants as status

pub gives :
    (answer : Result (List Op) GiveFault) (ops : List Op) (told : Status) (old new : List RawOperation) (count_old count_new : ℕ)
    → answer ≡ Ok ops → FitsArray (map written_operation ops) told old new count_new
    → GivesAs answer told old new count_old count_new
gives answer ops told old new count_old count_new is fits =
    subst (λ (a : Result (List Op) GiveFault). GivesAs a told old new count_old count_new) (sym is) (inl fits)

pub gives_none :
    (answer : Result (List Op) GiveFault) (why : GiveFault) (old : List RawOperation) (count : ℕ)
    → IsNotGiven answer why → GivesAs answer (give_status why) old old count count
gives_none answer why old count (inl is) =
    subst (λ (a : Result (List Op) GiveFault). GivesAs a (give_status why) old old count count) (sym is) (refl, refl, refl)
gives_none (Ok ops) why old count (inr is) = inr (ap give_status is.0, refl, refl)
gives_none (Err other) why old count (inr (wanted, ok)) = absurd (false≢true ok)

pub fills :
    (A : Type 0) (list : List A) (told : Status) (old new : List A) (count_old count_new : ℕ)
    → FitsArray list told old new count_new → Fills list told old new count_old count_new
fills A list told old new count_old count_new is = inl is

pub fills_none :
    (A : Type 0) (list : List A) (old : List A) (count : ℕ) → Fills list status.Memory old old count count
fills_none A list old count = inr (refl, refl, refl)
