-- What stands where one change was put in place of another, or of none.
use Rattle.std.proofs.Common.{◌≡◌, ℕ, ◌<◌, Bool, true, false, refl, sym, ap, ◌∙◌, arith, inl, inr}
use Rattle.std.specs.Option.{unwrap_or}
use Rattle.mapdb_fpage.specs.Bounds.{page_limit}
use Rattle.mapdb_lists.specs.Changes.{IsRewritten, left_before}
use Rattle.std.specs.Prelude.{Option, nat_eq, if◌then◌else◌}
use Rattle.std.proofs.lemmas.Bool.{cases_Bool, cond-false, cond-true, eq-eqb, eqb-true}
use Rattle.mapdb_fpage.specs.declared.right_sets.Rights.{Rights}
use Rattle.mapdb_fpage.specs.RightSets.{same_rights}
use Rattle.mapdb_fpage.specs.RightBits.{exact_rights}
use Rattle.mapdb_fpage.specs.RightBits.{same_rights_itself}

module _ {V : Type 0} (old new : ℕ → Option V) (page : ℕ) (put : Option V) (is : (q : ℕ) → new q ≡ (if nat_eq page q then put else old q)) where
  pub put_here : new page ≡ put
  put_here = is page ∙ cond-true (nat_eq page page) put (old page) (eq-eqb page page refl)

  pub put_elsewhere : (q : ℕ) → (page ≡ q → ⊥) → new q ≡ old q
  put_elsewhere q apart = is q ∙ cond-false (nat_eq page q) put (old q) other
    where
      other : nat_eq page q ≡ false
      other = elim (cases_Bool (nat_eq page q)) [ inl same ↦ absurd (apart (eqb-true page q same)) | inr not_same ↦ not_same ]

-- what a comparison of rights says
pub rights_same : (same : Bool) (a b : Rights) → same ≡ same_rights a b → same ≡ true → a ≡ b
rights_same same a b is told = exact_rights a b (sym is ∙ told)

pub rights_known : (same : Bool) (a b : Rights) → same ≡ same_rights a b → a ≡ b → same ≡ true
rights_known same a b is alike = is ∙ ap (same_rights a) (sym alike) ∙ same_rights_itself a

-- the first of pages is written, and then their end
pub written_parts : {V : Type 0} (old middle new : ℕ → Option V) (before : V) (first end : ℕ) (was change : V) → first < end
    → unwrap_or (middle first) (left_before old before first) ≡ change → ((q : ℕ) → (first ≡ q → ⊥) → middle q ≡ old q)
    → (end < page_limit → unwrap_or (new end) change ≡ unwrap_or (middle end) was) → ((q : ℕ) → (end ≡ q → ⊥) → new q ≡ middle q)
    → IsRewritten old before first end was change new
written_parts old middle new before first end was change some there front ends behind = record {
  at_first = ap (λ o. unwrap_or o (left_before old before first)) (behind first (λ e. let no : ⊥ = omega (arith, some, e) in no)) ∙ there;
  at_end = λ inside. ends inside ∙ ap (λ o. unwrap_or o was) (front end (λ e. let no : ⊥ = omega (arith, some, e) in no));
  elsewhere = λ q not_first not_end. behind q not_end ∙ front q not_first;
}
