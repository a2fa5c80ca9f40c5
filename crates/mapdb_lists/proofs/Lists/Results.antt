-- What holds of an answer that is no error.
use Rattle.std.specs.Prelude.{IfOk, OnOk, Result, Ok, Err}

pub on_both : {T E : Type 0} {P Q R : Type 0} (r : Result T E) → (P → Q → R) → OnOk r P → OnOk r Q → OnOk r R
on_both (Ok v) f h k = f h k
on_both (Err e) f h k = h

pub on_any : {T E : Type 0} {P : Type 0} (r : Result T E) → P → OnOk r P
on_any (Ok v) h = h
on_any (Err e) h = search Rattle.std.proofs.Common.rules

pub if_both : {T E : Type 0} (r : Result T E) (P Q R : T → Type 0) → ((v : T) → P v → Q v → R v) → IfOk r P → IfOk r Q → IfOk r R
if_both (Ok v) P Q R f h k = f v h k
if_both (Err e) P Q R f h k = h
