-- A part that a map's value refuses.
use Rattle.std.specs.Prelude.{◌≡◌, Bool, true, List, [], ◌∷◌, Option, Some, None, Result, Ok, Err, IfErr, refl}
use Rattle.std.proofs.Common.{sym, ◌∙◌, ap, MutBor}
use Rattle.std.specs.Option.{option_copied_mut}
use Rattle.std.specs.Map.{lookup, set_value}
use Rattle.std.specs.declared.cmp.Ordering.{Ordering}
use Rattle.std.specs.Cmp.{IsTotalOrder}
use Rattle.std.specs.BTreeMap.{is_at}
use Rattle.std.proofs.lemmas.Bool.{true≢false}
use Rattle.std.proofs.lemmas.Map.Steps.{set_value_same}
use Rattle.mapdb_join.specs.Atoms.{Clashes}
use Rattle.mapdb_join.specs.Entries.{some_has, has_under, excludes_under}
use Rattle.mapdb_join.specs.Faults.{FaultKeeps}
use Rattle.mapdb_join.specs.declared.merge.MergeFault.{MergeFault}
use Rattle.mapdb_join.specs.declared.merge.MergeFault.TheVariants.{Clash, Memory}
use Rattle.mapdb_join.proofs.Walking.{entry_has, from_one_at}

module _ {K V A : Type 0} {cmp : K → K → Ordering} (has : V → A → Bool) (excludes : A → A → Type 0)
    (exact : (a b : K) → is_at (cmp a) b ≡ true → a ≡ b) (o : IsTotalOrder cmp) where
  pub clash_up : (old : List (K × V)) (k : K) (v mine : V) → lookup (is_at (cmp k)) old ≡ Some mine →
      Clashes has excludes mine v →
      Clashes (has_under cmp has) (excludes_under excludes) old ((k, v) ∷ [])
  clash_up old k v mine at c = record {
    one = (k, c.one);
    other = (k, c.other);
    has_one = ap (λ w. some_has has w c.one) at ∙ c.has_one;
    has_other = entry_has cmp has o k v c.other c.has_other;
    apart = (refl, c.apart);
  }

  pub clash_down : (old : List (K × V)) (k : K) (v mine : V) → lookup (is_at (cmp k)) old ≡ Some mine →
      Clashes (has_under cmp has) (excludes_under excludes) old ((k, v) ∷ []) →
      Clashes has excludes mine v
  clash_down old k v mine at c =
      let q = from_one_at cmp has (is_at (cmp c.other.0) k) v c.other.1 c.has_other in
      record {
        one = c.one.1;
        other = c.other.1;
        has_one = sym (ap (λ w. some_has has w c.one.1) (ap (λ z. lookup (is_at (cmp z)) old) (c.apart.0 ∙ exact c.other.0 k q.0) ∙ at)) ∙ c.has_one;
        has_other = q.1;
        apart = c.apart.1;
      }

  -- a map without the key has nothing there that clashes
  pub absent_apart : (old : List (K × V)) (k : K) (v : V) → lookup (is_at (cmp k)) old ≡ None →
      Clashes (has_under cmp has) (excludes_under excludes) old ((k, v) ∷ []) → ⊥
  absent_apart old k v at c =
      let q = from_one_at cmp has (is_at (cmp c.other.0) k) v c.other.1 c.has_other in
      let none = ap (λ z. lookup (is_at (cmp z)) old) (c.apart.0 ∙ exact c.other.0 k q.0) ∙ at in
      true≢false (sym c.has_one ∙ ap (λ w. some_has has w c.one.1) none)

  -- what the value under the key refuses, the map refuses, and neither is changed
  pub refused_under :
      (r : Result Unit (MergeFault Unit)) (old new : List (K × V)) (k : K) (v mine left : V) →
      lookup (is_at (cmp k)) old ≡ Some mine → new ≡ set_value (is_at (cmp k)) old left →
      IfErr r (FaultKeeps has excludes mine v left) →
      IfErr r (FaultKeeps (has_under cmp has) (excludes_under excludes) old ((k, v) ∷ []) new)
  refused_under (Ok u) old new k v mine left at is h = tt
  refused_under (Err (Clash s)) old new k v mine left at is h =
      (clash_up old k v mine at h.0, is ∙ ap (set_value (is_at (cmp k)) old) h.1 ∙ set_value_same (is_at (cmp k)) old mine at)
  refused_under (Err (Memory refused)) old new k v mine left at is h =
      ((λ c. h.0 (clash_down old k v mine at c)), is ∙ ap (set_value (is_at (cmp k)) old) h.1 ∙ set_value_same (is_at (cmp k)) old mine at)

-- what a `get_mut` that answered found
pub held_from_mut : {V : Type 0} {o : Option V} {r : Option (MutBor V)} {v : MutBor V} →
    r ≡ Some v → option_copied_mut r ≡ o → o ≡ Some v.now
held_from_mut is h = sym h ∙ ap option_copied_mut is

-- what a `get_mut` that answered nothing found
pub absent_from_mut : {V : Type 0} {o : Option V} {r : Option (MutBor V)} → r ≡ None →
    option_copied_mut r ≡ o → o ≡ None
absent_from_mut is h = sym h ∙ ap option_copied_mut is
