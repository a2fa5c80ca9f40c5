-- Places that compare equal are the same.
use Rattle.std.proofs.Common.{◌≡◌, ℕ, true, nat_eq, refl, sym, ap, ◌∙◌, inl, inr}
use Rattle.std.specs.Prelude.{◌&&◌}
use Rattle.std.specs.Cmp.{IsEquivalence}
use Rattle.std.proofs.lemmas.Bool.{and_from, and_parts, cases_Bool, eq-eqb, eqb-true, false≢true}
use Rattle.mapdb_fpage.specs.Place.{Place, same_place}

number_back : (a b : ℕ) → nat_eq a b ≡ nat_eq b a
number_back a b = elim (cases_Bool (nat_eq a b)) [
  | inl same ↦ same ∙ sym (eq-eqb b a (sym (eqb-true a b same)))
  | inr other ↦ elim (cases_Bool (nat_eq b a)) [
    | inl same ↦ absurd (false≢true (sym other ∙ eq-eqb a b (sym (eqb-true b a same))))
    | inr apart ↦ other ∙ sym apart
  ]
]

pub same_place_itself : (a : Place) → same_place a a ≡ true
same_place_itself a =
    and_from (nat_eq a.first_page a.first_page) (nat_eq a.order a.order) (eq-eqb a.first_page a.first_page refl) (eq-eqb a.order a.order refl)

pub exact_place : (a b : Place) → same_place a b ≡ true → a ≡ b
exact_place a b h =
    let parts = and_parts (nat_eq a.first_page b.first_page) (nat_eq a.order b.order) h in
    let first = eqb-true a.first_page b.first_page parts.0 in
    let order = eqb-true a.order b.order parts.1 in
    λ i. record { first_page = first i; order = order i }

pub same_place_equivalence : IsEquivalence same_place
same_place_equivalence = record {
  refl = same_place_itself;
  symm = λ a b. λ i. number_back a.first_page b.first_page i && number_back a.order b.order i;
  congr = λ a b c h. ap (λ (x : Place). same_place x c) (exact_place a b h);
}
