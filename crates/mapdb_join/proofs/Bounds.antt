-- A union is a least upper bound.
use Rattle.std.specs.Prelude.{Bool}
use Rattle.std.proofs.Common.{sym, ◌∙◌, inl, inr}
use Rattle.std.proofs.lemmas.Bool.{or_cases, or_left, or_right}
use Rattle.mapdb_join.specs.Atoms.{IsUnion, IsLeastUpperBound}

-- what has the atoms of both and no others is the least that covers both
pub bound_from_union : {S A : Type 0} (has : S → A → Bool) (a b c : S) → IsUnion has a b c →
    IsLeastUpperBound has a b c
bound_from_union has a b c u = record {
  first = λ x h. u x ∙ or_left _ _ h;
  second = λ x h. u x ∙ or_right _ _ h;
  least = λ d f s x h. elim (or_cases (has a x) (has b x) (sym (u x) ∙ h)) [ inl p ↦ f x p | inr q ↦ s x q ];
}
