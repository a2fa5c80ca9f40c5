-- Names of records are in one order, and those that it does not tell apart are the same.
use Rattle.std.proofs.Common.{◌≡◌, true, refl, sym, ap, ◌∙◌}
use Rattle.std.specs.Prelude.{◌&&◌, nat_eq}
use Rattle.std.specs.BTreeMap.{is_at}
use Rattle.std.specs.Cmp.{IsEquivalence, IsPartialOrder, IsTotalOrder, tied_then, unsigned_tied}
use Rattle.std.specs.Cmp.{nat_cmp_total, on_total, then_total}
use Rattle.std.specs.Cmp.{partial_order_from_agreeing_total}
use Rattle.std.specs.Ordering.{as_partial_cmp, is_eq, nat_cmp, ordering_reverse}
use Rattle.std.specs.declared.cmp.Ordering.{Ordering}
use Rattle.std.specs.declared.cmp.Ordering.TheVariants.{Equal, Greater, Less}
use Rattle.std.proofs.lemmas.Cmp.{tied_itself}
use Rattle.mapdb_facts.specs.Exact.{exact_id}
use Rattle.mapdb_facts.specs.Kept.{id_cmp}
use Rattle.mapdb_facts.specs.Names.{same_id}
use Rattle.mapdb_facts.specs.declared.names.RecordId.{RecordId}

pub id_total : IsTotalOrder id_cmp
id_total =
    then_total (on_total (λ (a : RecordId). a.number) nat_cmp_total)
    (on_total (λ (a : RecordId). a.processor) nat_cmp_total)

pub id_at : (a b : RecordId) → is_at (id_cmp a) b ≡ same_id a b
id_at a b =
    sym (tied_then (nat_cmp a.number b.number) (nat_cmp a.processor b.processor))
    ∙ ap (λ x. x && is_eq (nat_cmp a.processor b.processor)) (unsigned_tied a.number b.number)
    ∙ ap (λ x. nat_eq a.number b.number && x) (unsigned_tied a.processor b.processor)

pub same_where_tied : (a b : RecordId) → same_id a b ≡ is_eq (id_cmp a b)
same_where_tied a b = sym (id_at a b)

back : (o : Ordering) → is_eq (ordering_reverse o) ≡ is_eq o
back Less = refl
back Equal = refl
back Greater = refl

pub same_id_equivalence : IsEquivalence same_id
same_id_equivalence = record {
  refl = λ a. same_where_tied a a ∙ ap is_eq (tied_itself id_total a);
  symm = λ a b. same_where_tied a b ∙ ap is_eq (id_total.antisymm a b) ∙ back (id_cmp b a)
      ∙ sym (same_where_tied b a);
  congr = λ a b c h. ap (λ (x : RecordId). same_id x c) (exact_id a b h);
}

pub names_partly_ordered : IsPartialOrder same_id (as_partial_cmp id_cmp)
names_partly_ordered = partial_order_from_agreeing_total id_cmp id_total (λ a b. refl) same_where_tied
