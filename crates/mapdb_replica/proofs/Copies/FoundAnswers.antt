-- What an index answers that is there, and keeps up with a state.
use Rattle.std.proofs.Common.{◌≡◌, ℕ, ◌+◌, ◌-◌, ◌<◌, ◌≤◌, true, Some, sym, subst, ◌∙◌, inl, inr, arith}
use Rattle.std.specs.Prelude.{IfSome, None, Option}
use Rattle.mapdb_facts.specs.State.{State}
use Rattle.mapdb_facts.specs.declared.names.RecordId.{RecordId}
use Rattle.mapdb_rights.specs.Index.{KeepsUp, StandsFor}
use Rattle.mapdb_rights.specs.Right.{rights_at}
use Rattle.mapdb_rights.specs.Steady.{IsSteady}
use Rattle.mapdb_rights.specs.declared.index.rights_index.RightsIndex.{RightsIndex}

module _ {A : Type 0} (index : RightsIndex) (S : State) (answer : Option A) (found : A) where
  -- an answer is what the state has
  pub found_value : (value : State → A) → KeepsUp index S → (index.absent ≡ true → answer ≡ None)
      → ((T : State) → StandsFor index T → answer ≡ Some (value T)) → answer ≡ Some found → found ≡ value S
  found_value value (inl absent) none some is = let lost = none absent in cc
  found_value value (inr stands) none some is = let has = some S stands in cc

  -- an answer has what it has in each state that the index stands for
  pub found_fact : (P : State → A → Type 0) → KeepsUp index S → (index.absent ≡ true → answer ≡ None)
      → ((T : State) → StandsFor index T → IfSome answer (P T)) → answer ≡ Some found → P S found
  found_fact P (inl absent) none some is = let lost : answer ≡ None = none absent in absurd (let clash : Some found ≡ None = sym is ∙ lost in cc)
  found_fact P (inr stands) none some is = subst (λ (o : Option A). IfSome o (P S)) is (some S stands)

-- where a record goes on steadily, its rights are equal
pub equal_on : (S : State) (id : RecordId) (page end : ℕ) → IsSteady S id page end → (q : ℕ) → page ≤ q → q < end → rights_at S id q ≡ rights_at S id page
equal_on S id page end steady q low high =
    let here : page + (q - page) ≡ q = omega arith in
    let on = steady (q - page) (omega arith) in
    subst (λ n. rights_at S id n ≡ rights_at S id page) here on.rights
