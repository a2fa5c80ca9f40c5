-- What follows for a result.
use Rattle.std.specs.Prelude.{Result, Ok, Err, OnErr}

-- what holds, holds of an error
pub on_err_from : {T E A : Type 0} (r : Result T E) → A → OnErr r A
on_err_from (Ok v) h = tt
on_err_from (Err e) h = h
