-- The changes of a map, as a range of it shows them.
use Rattle.std.proofs.Common.{◌≡◌, ℕ, true, false, refl, sym, ap, subst, ◌∙◌, List, [], ◌∷◌, ◌++◌}
use Rattle.std.specs.Prelude.{Option, None, Some, IfSome, IsSome, slice_get}
use Rattle.std.specs.BTreeMap.{BTreeMap}
use Rattle.std.specs.BTreeMap.Range.{IsRangeOf}
use Rattle.std.specs.Cmp.{nat_cmp_is}
use Rattle.std.specs.Ordering.{is_gt, is_lt, nat_cmp}
use Rattle.std.specs.declared.cmp.Ordering.TheVariants.{Greater}
use Rattle.std.specs.declared.ops.Bound.TheVariants.{Excluded, Included, Unbounded}
use Rattle.std.proofs.lemmas.Bool.{true≢false}
use Rattle.mapdb_facts.proofs.Lists.Comparing.{at_most_from, from_below}
use Rattle.mapdb_lists.specs.declared.changes.Change.{Change}
use Rattle.mapdb_lists.specs.OwnChanges.{IsLastChange, IsNoneUntil, mapped_change}
use Rattle.mapdb_facts.proofs.NameLemmas.NextNames.{not_greater}

none_unless : (o : Option Change) → (IsSome o → ⊥) → o ≡ None
none_unless None h = refl
none_unless (Some v) h = absurd (h (search Rattle.std.proofs.Common.rules))

module _ (map : BTreeMap ℕ Change) (page : ℕ) (r t : List (ℕ × Change)) (e : ℕ × Change) where
  pub last_shown : r ≡ t ++ e ∷ [] → IsRangeOf nat_cmp Unbounded (Included page) map r → IsLastChange (mapped_change map) page e
  last_shown is range = record {
    up_to = at_most_from e.0 page (range.3 e t is).0.1;
    here = (range.3 e t is).1;
    last = λ q after up_to. none_unless (mapped_change map q) (λ some.
        true≢false (sym (ap is_lt (from_below e.0 q after)) ∙ range.4 e t is q (tt, not_greater q page up_to) some));
  }

  pub next_shown : r ≡ e ∷ t → IsRangeOf nat_cmp (Excluded page) Unbounded map r → IsNoneUntil (mapped_change map) page e.0
  next_shown is range q above before = none_unless (mapped_change map q) (λ some.
      let first : is_gt (nat_cmp e.0 q) ≡ false =
      subst (λ (xs : List (ℕ × Change)). IfSome (slice_get xs 0) (λ x. is_gt (nat_cmp x.0 q) ≡ false)) is (range.2 q (from_below page q above, tt) some) in
      true≢false (sym (ap is_gt (sym (nat_cmp_is e.0 q Greater before))) ∙ first))
