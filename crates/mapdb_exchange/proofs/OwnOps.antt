-- The element at a place begins the rest of the list.
use Rattle.std.proofs.Common.{◌≡◌, ◌<◌, ◌+◌, ℕ, suc, List, ◌∷◌, length, drop, sym, ◌∙◌, add-one, get_or}
use Rattle.std.specs.Prelude.{Some, slice_get}
use Rattle.std.proofs.Math.Seq.{drop-cons}
use Rattle.std.proofs.lemmas.Option.{slice_get_within, get_or_from_slice_get}
use Rattle.mapdb_facts.specs.declared.operations.Op.{Op}

pub own_here : (xs : List Op) (i : ℕ) (x y : Op) → slice_get xs i ≡ Some x → x ≡ y → drop i xs ≡ y ∷ drop (i + 1) xs
own_here xs i x y at same =
    let within : i < length xs = slice_get_within xs i x at in
    let here : drop i xs ≡ get_or xs i x ∷ drop (suc i) xs = drop-cons xs i x within in
    let is : get_or xs i x ≡ y = get_or_from_slice_get xs i x x at ∙ same in
    here ∙ (λ k. is k ∷ drop (sym (add-one i) k) xs)
