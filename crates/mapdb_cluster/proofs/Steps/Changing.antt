-- One copy changes: what was issued stays so, and the cluster keeps what it kept.
use Rattle.std.proofs.Common.{◌≡◌, ◌∙◌, ℕ, ◌≤◌, Bool, true, false, Some, refl, sym, subst, inl, inr, length}
use Rattle.std.proofs.Math.ListN.{length-set}
use Rattle.std.specs.Prelude.{◌==◌, ◌⊎◌, slice_get, slice_set}
use Rattle.std.proofs.lemmas.Bool.{eqb-true}
use Rattle.mapdb_facts.specs.Names.{processor_limit}
use Rattle.mapdb_facts.specs.Records.{IsAmong}
use Rattle.mapdb_facts.specs.declared.operations.Op.{Op}
use Rattle.mapdb_facts.specs.declared.operations.Op.TheVariants.{Born, Closed, Cut}
use Rattle.mapdb_replica.specs.Replica.{Log}
use Rattle.mapdb_cluster.specs.Honest.{IsIssued}
use Rattle.mapdb_cluster.specs.Kept.{IsCopyOf, IsKeptNet}
use Rattle.mapdb_cluster.specs.Net.{Net, with_copy}
use Rattle.mapdb_cluster.proofs.Moves.Issuers.{AllIssued, kept_from}
use Rattle.mapdb_cluster.proofs.Steps.Slots.{one_there, set_here, set_other}

-- at each place there is now the new copy, or the one that was there
module _ (net : Net) (i : ℕ) (copy new : Log) (is : slice_get net.copies i ≡ Some copy) where
  pub new_there : (at : ℕ) → (i == at) ≡ true → slice_get (slice_set net.copies i new) at ≡ Some new
  new_there at e = subst (λ n. slice_get (slice_set net.copies i new) n ≡ Some new) (eqb-true i at e) (set_here net.copies i copy new is)

  pub each_changed : (P : ℕ → Log → Type 0) → P i new → ((at : ℕ) (c : Log) → slice_get net.copies at ≡ Some c → P at c) → (at : ℕ) (c : Log) → slice_get (slice_set net.copies i new) at ≡ Some c → P at c
  each_changed P one others at c there = by_place (i == at) refl
    where
      by_place : (b : Bool) → (i == at) ≡ b → P at c
      by_place true e =
          let same : new ≡ c = one_there (slice_set net.copies i new) at new c (new_there at e) there in
          subst (λ (x : Log). P at x) same (subst (λ n. P n new) (eqb-true i at e) one)
      by_place false e = others at c (sym (set_other net.copies i at new e) ∙ there)

module _ (net : Net) (kept : IsKeptNet net) (i : ℕ) (copy new : Log) (is : slice_get net.copies i ≡ Some copy) (is_copy : IsCopyOf i new)
    (more : (op : Op) → IsAmong op copy.own → IsAmong op new.own) where
  abbrev changed : Net
  changed = with_copy net i new

  -- who issued an operation still has it as one of its own
  issuer_after : (at : ℕ) (issuer : Log) (op : Op) → slice_get net.copies at ≡ Some issuer → IsAmong op issuer.own → (x : Log) × (slice_get (slice_set net.copies i new) at ≡ Some x) × IsAmong op x.own
  issuer_after at issuer op there among = by_place (i == at) refl
    where
      by_place : (b : Bool) → (i == at) ≡ b → (x : Log) × (slice_get (slice_set net.copies i new) at ≡ Some x) × IsAmong op x.own
      by_place true e =
          let here : slice_get net.copies at ≡ Some copy = subst (λ n. slice_get net.copies n ≡ Some copy) (eqb-true i at e) is in
          let one : issuer ≡ copy = one_there net.copies at issuer copy there here in
          (new, new_there net i copy new is at e, more op (subst (λ (x : Log). IsAmong op x.own) one among))
      by_place false e = (issuer, set_other net.copies i at new e ∙ there, among)

  pub still_issued : (op : Op) → IsIssued net op → IsIssued changed op
  still_issued (Born r) by = issuer_after r.id.processor by.0 (Born r) by.1 by.2
  still_issued (Cut cut) by = let after = issuer_after by.0 by.1 (Cut cut) by.2 by.3 in (by.0, after.0, after.1, after.2)
  still_issued (Closed space) by = let after = issuer_after by.0 by.1 (Closed space) by.2 by.3 in (by.0, after.0, after.1, after.2)

  -- what the new copy has as its own was issued by it
  own_issued : (op : Op) → IsAmong op new.own → IsIssued changed op
  own_issued (Born r) among =
      let at : i ≡ r.id.processor = sym (is_copy.named r among ∙ is_copy.place) in
      (new, subst (λ n. slice_get (slice_set net.copies i new) n ≡ Some new) at (set_here net.copies i copy new is), among)
  own_issued (Cut cut) among = (i, new, set_here net.copies i copy new is, among)
  own_issued (Closed space) among = (i, new, set_here net.copies i copy new is, among)

  -- the new copy holds what was issued before, and what is its own
  pub changed_kept : ((op : Op) → IsAmong op new.ops → IsIssued net op ⊎ IsAmong op new.own) → IsKeptNet changed
  changed_kept holds =
      let many : length (slice_set net.copies i new) ≤ processor_limit = subst (λ n. n ≤ processor_limit) (sym (length-set net.copies i new)) kept.few in
      kept_from changed (each_changed net i copy new is IsCopyOf is_copy kept.copies) many
      (each_changed net i copy new is (λ at c. AllIssued changed c.ops) (λ op among. by_part op (holds op among)) (λ at c there op among. still_issued op (kept.honest.held at c op there among)))
      (λ message batch there op among. still_issued op (kept.honest.sent message batch op there among))
    where
      by_part : (op : Op) → IsIssued net op ⊎ IsAmong op new.own → IsIssued changed op
      by_part op (inl before) = still_issued op before
      by_part op (inr own) = own_issued op own
