-- Places of an owner are in one order, and those that it does not tell apart are the same.
use Rattle.std.proofs.Common.{◌≡◌, Bool, true, refl, sym, ap, ◌∙◌}
use Rattle.std.specs.Prelude.{◌&&◌, nat_eq}
use Rattle.std.specs.BTreeMap.{is_at}
use Rattle.std.specs.Cmp.{IsEquivalence, IsPartialOrder, IsTotalOrder, tied_then}
use Rattle.std.specs.Cmp.{partial_order_from_agreeing_total}
use Rattle.std.specs.Ordering.{as_partial_cmp, is_eq, nat_cmp, ordering_reverse, ordering_then}
use Rattle.std.specs.declared.cmp.Ordering.{Ordering}
use Rattle.std.specs.declared.cmp.Ordering.TheVariants.{Equal, Greater, Less}
use Rattle.std.proofs.lemmas.Bool.{and_parts, eqb-true}
use Rattle.std.proofs.lemmas.Cmp.{nat_cmp_total, on_total, then_total, tied_itself}
use Rattle.mapdb_facts.proofs.Lists.Comparing.{id_at, nat_at}
use Rattle.mapdb_facts.proofs.NameLemmas.NamesInOrder.{id_total}
use Rattle.mapdb_facts.specs.Exact.{exact_id}
use Rattle.mapdb_facts.specs.Kept.{id_cmp}
use Rattle.mapdb_facts.specs.Names.{same_id}
use Rattle.mapdb_lists.specs.Standing.{place_cmp}
use Rattle.mapdb_lists.specs.declared.own_place.OwnPlace.{OwnPlace}

-- both have one order, one first page and one name
abbrev pub same_own : OwnPlace → OwnPlace → Bool
same_own a b = nat_eq a.order b.order && (nat_eq a.first b.first && same_id a.id b.id)

pub place_total : IsTotalOrder place_cmp
place_total =
    then_total (on_total (λ (p : OwnPlace). p.order) nat_cmp_total)
    (then_total (on_total (λ (p : OwnPlace). p.first) nat_cmp_total) (on_total (λ (p : OwnPlace). p.id) id_total))

pub same_at_own : (a b : OwnPlace) → is_at (place_cmp a) b ≡ same_own a b
same_at_own a b =
    sym (tied_then (nat_cmp a.order b.order) (ordering_then (nat_cmp a.first b.first) (id_cmp a.id b.id)))
    ∙ (λ i. nat_at a.order b.order i && last i)
  where
    last : is_eq (ordering_then (nat_cmp a.first b.first) (id_cmp a.id b.id)) ≡ (nat_eq a.first b.first && same_id a.id b.id)
    last = sym (tied_then (nat_cmp a.first b.first) (id_cmp a.id b.id)) ∙ (λ i. nat_at a.first b.first i && id_at a.id b.id i)

pub same_where_equal : (a b : OwnPlace) → same_own a b ≡ is_eq (place_cmp a b)
same_where_equal a b = sym (same_at_own a b)

pub exact_own : (a b : OwnPlace) → is_at (place_cmp a) b ≡ true → a ≡ b
exact_own a b h =
    let p = and_parts (nat_eq a.order b.order) _ (sym (same_at_own a b) ∙ h) in
    let q = and_parts (nat_eq a.first b.first) (same_id a.id b.id) p.1 in
    let order = eqb-true a.order b.order p.0 in
    let first = eqb-true a.first b.first q.0 in
    let id = exact_id _ _ q.1 in
    λ i. record { order = order i; first = first i; id = id i }

back : (o : Ordering) → is_eq (ordering_reverse o) ≡ is_eq o
back Less = refl
back Equal = refl
back Greater = refl

pub same_own_equivalence : IsEquivalence same_own
same_own_equivalence = record {
  refl = λ a. same_where_equal a a ∙ ap is_eq (tied_itself place_total a);
  symm = λ a b. same_where_equal a b ∙ ap is_eq (place_total.antisymm a b) ∙ back (place_cmp b a) ∙ sym (same_where_equal b a);
  congr = λ a b c h. ap (λ (x : OwnPlace). same_own x c) (exact_own a b (same_at_own a b ∙ h));
}

pub places_partly_ordered : IsPartialOrder same_own (as_partial_cmp place_cmp)
places_partly_ordered = partial_order_from_agreeing_total place_cmp place_total (λ a b. refl) same_where_equal
