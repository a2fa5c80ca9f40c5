-- Where a batch is not taken to its end, something of what is left is new.
use Rattle.std.proofs.Common.{◌≡◌, ℕ, zero, suc, ◌+◌, ◌<◌, Bool, true, false, refl, subst, List, [], ◌∷◌, arith, drop, get_or, length}
use Rattle.std.specs.Prelude.{◌||◌, IfSome, None, Result, Ok, Err, Some, filter, slice_get, if◌then◌else◌}
use Rattle.std.specs.List.{list_any}
use Rattle.std.proofs.lemmas.Bool.{or_left, or_right}
use Rattle.mapdb_facts.specs.WellFormed.{checked}
use Rattle.mapdb_facts.specs.declared.checking.OpFault.{OpFault}
use Rattle.mapdb_facts.specs.declared.operations.Op.{Op}
use Rattle.mapdb_replica.specs.Taking.{HasMore, bad_at, first_bad}
use Rattle.mapdb_replica.specs.declared.faults.TakeFault.{TakeFault}

module _ (test : Op → Bool) where
  -- one that passes is one of the list
  pub any_at : (ops : List Op) (at : ℕ) (d : Op) → at < length ops → test (get_or ops at d) ≡ true → list_any test ops ≡ true
  any_at [] at d inside is = absurd (omega arith)
  any_at (op ∷ ops) zero d inside is = or_left (test op) (list_any test ops) is
  any_at (op ∷ ops) (suc at) d inside is = or_right (test op) (list_any test ops) (any_at ops at d (omega arith) is)

  -- one that passes is one of the list from it on
  pub any_from : (ops : List Op) (at : ℕ) → at < length ops → IfSome (slice_get ops at) (λ op. test op ≡ true) → list_any test (drop at ops) ≡ true
  any_from [] at inside is = absurd (omega arith)
  any_from (op ∷ ops) zero inside is = or_left (test op) (list_any test ops) is
  any_from (op ∷ ops) (suc at) inside is = any_from ops at (omega arith) is

  -- of a list of which some pass, one passes
  pub any_kept : (ops : List Op) → 0 < length (filter test ops) → list_any test ops ≡ true
  any_kept [] some = absurd (omega arith)
  any_kept (op ∷ ops) some = by (test op) refl (any_kept ops)
    where
      by : (b : Bool) → test op ≡ b → (0 < length (filter test ops) → list_any test ops ≡ true) → (test op || list_any test ops) ≡ true
      by true is later = or_left (test op) (list_any test ops) is
      by false is later = or_right (test op) (list_any test ops) (later (subst (λ (x : Bool). 0 < length (if x then op ∷ filter test ops else filter test ops)) is some))

same_fault : (a b : TakeFault) → Some a ≡ Some b → a ≡ b
same_fault a b e = cc

no_fault : (a : TakeFault) → None ≡ Some a → ⊥
no_fault a e = cc

-- a fault that is found before anything is held tells nothing of memory
module _ (held batch : List Op) (fault : TakeFault) where
  pub bad_tells : (place : ℕ) (ops : List Op) → first_bad place ops ≡ Some fault → HasMore held batch fault
  bad_tells place [] is = absurd (no_fault fault is)
  bad_tells place (op ∷ ops) is = by (checked op) (bad_tells (place + 1) ops) is
    where
      by : (r : Result (Unit {0}) OpFault) → (first_bad (place + 1) ops ≡ Some fault → HasMore held batch fault)
          → bad_at place r (first_bad (place + 1) ops) ≡ Some fault → HasMore held batch fault
      by (Ok u) later is = later is
      by (Err f) later is = subst (HasMore held batch) (same_fault _ fault is) tt
