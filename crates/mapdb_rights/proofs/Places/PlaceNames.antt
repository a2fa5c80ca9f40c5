-- The names that stand at one place ascend as its entries do.
use Rattle.std.proofs.Common.{◌≡◌, ℕ, ◌<◌, ◌≤◌, true, false, refl, sym, ap, subst, ◌∙◌, arith, inl, inr}
use Rattle.std.specs.Prelude.{◌⊎◌, Option, None, Some}
use Rattle.std.specs.BTreeMap.Range.{IsFromStart}
use Rattle.std.specs.Ordering.{is_gt, is_lt, nat_cmp, ordering_then}
use Rattle.std.proofs.lemmas.Bool.{cases_Bool}
use Rattle.std.proofs.lemmas.Bool.Decides.{nat_tests}
use Rattle.std.proofs.lemmas.Cmp.{nat_cmp_total, tied_itself}
use Rattle.mapdb_facts.proofs.Lists.Comparing.{not_before_from, before_from, from_before}
use Rattle.mapdb_facts.specs.Kept.{id_cmp}
use Rattle.mapdb_facts.specs.Names.{is_after, is_before, root}
use Rattle.mapdb_facts.specs.declared.names.RecordId.{RecordId}
use Rattle.mapdb_lists.specs.Listing.{IsFirst, IsFirstInside, is_above, is_listed, listed_cmp}
use Rattle.mapdb_lists.specs.declared.places.Listed.{Listed}
use Rattle.mapdb_lists.proofs.Lists.ListedOrder.{le_parts, root_first, same_then}
use Rattle.mapdb_lists.specs.declared.places.Places.{Places}
use Rattle.mapdb_rights.specs.Among.{IsLeastName, StandsAt, behind_name, under}

-- ---- names

by_processor : (n p m q : ℕ) → n ≡ m → is_before (record { number = n; processor = p }) (record { number = m; processor = q }) ≡ true → p < q
by_processor n p m q e h = grind (arith, nat_tests)

-- ---- at one place

pub under_cmp : (place : Listed) (a b : RecordId) → listed_cmp (under place a) (under place b) ≡ id_cmp a b
under_cmp place a b =
    same_then (under place a) (under place b) refl
    ∙ ap (λ x. ordering_then x (ordering_then (nat_cmp place.first place.first) (id_cmp a b))) (tied_itself nat_cmp_total place.order)
    ∙ ap (λ x. ordering_then x (id_cmp a b)) (tied_itself nat_cmp_total place.first)

-- the entry of a name, where there is one
abbrev pub entry_of : Listed → Option RecordId → Option Listed
entry_of place None = None
entry_of place (Some id) = Some (under place id)

pub entry_above : (place : Listed) (after : Option RecordId) (id : RecordId) → is_after after id ≡ true → is_above (entry_of place after) (under place id) ≡ true
entry_above place None id h = refl
entry_above place (Some a) id h = ap is_lt (under_cmp place a id ∙ from_before a id h)

module _ (place : Listed) where
  inside_from : (after : Option RecordId) (id : RecordId) → is_after after id ≡ true → IsFromStart listed_cmp (behind_name place after) (under place id)
  inside_from None id h = ap is_gt (under_cmp place root id) ∙ root_first id
  inside_from (Some a) id h = under_cmp place a id ∙ from_before a id h

  after_inside : (after : Option RecordId) (id : RecordId) → IsFromStart listed_cmp (behind_name place after) (under place id) → is_after after id ≡ true
  after_inside None id h = refl
  after_inside (Some a) id h = before_from a id (sym (under_cmp place a id) ∙ h)

  -- where none comes none has a later name
  pub none_there : (set : Places) (after : Option RecordId) → IsFirstInside set place.owner (behind_name place after) None → (id : RecordId) → StandsAt set place id
      → is_after after id ≡ false
  none_there set after none id has =
      elim (cases_Bool (is_after after id)) [
        | inl above ↦ absurd (none (under place id) has refl (inside_from after id above))
        | inr other ↦ other
      ]

  module _ (set : Places) (after : Option RecordId) (e : Listed) (h : IsFirst set place.owner (behind_name place after) e) where
    -- what stands at the place has the least name there
    pub name_found : e.order ≡ place.order → e.first ≡ place.first → IsLeastName (StandsAt set place) (StandsAt set place) after e.id
    name_found order first =
        let owner = h.owned in
        let is : e ≡ under place e.id = λ i. record { owner = owner i; order = order i; first = first i; id = e.id } in
        record {
          sound = subst (λ (k : Listed). is_listed set k ≡ true) is h.held;
          above = after_inside after e.id (subst (λ (k : Listed). IsFromStart listed_cmp (behind_name place after) k) is h.inside);
          least = λ other has above.
              let le : is_gt (listed_cmp (under place e.id) (under place other)) ≡ false =
              subst (λ (k : Listed). is_gt (listed_cmp k (under place other)) ≡ false) is (h.least (under place other) has refl (inside_from after other above)) in
              not_before_from e.id other (sym (ap is_gt (under_cmp place e.id other)) ∙ le);
        }

    -- where a name comes at the place the first entry stands there
    pub stands_there : (id : RecordId) → StandsAt set place id → is_after after id ≡ true → (e.order ≡ place.order) × (e.first ≡ place.first)
    stands_there id has above =
        between (low after h.inside) (le_parts e (under place id) h.owned (h.least (under place id) has refl (inside_from after id above)))
      where
        low : (o : Option RecordId) → IsFromStart listed_cmp (behind_name place o) e → (place.order < e.order) ⊎ ((place.order ≡ e.order) × (place.first ≤ e.first))
        low None up = le_parts (under place root) e (sym h.owned) up
        low (Some a) up = le_parts (under place a) e (sym h.owned) (ap is_gt up)

        between : (place.order < e.order) ⊎ ((place.order ≡ e.order) × (place.first ≤ e.first)) → (e.order < place.order) ⊎ ((e.order ≡ place.order) × (e.first ≤ place.first))
            → (e.order ≡ place.order) × (e.first ≡ place.first)
        between (inl up) (inl down) = absurd (omega arith)
        between (inl up) (inr down) = let same = down.0 in absurd (omega arith)
        between (inr up) (inl down) = let same = up.0 in absurd (omega arith)
        between (inr up) (inr down) = let first_up = up.1 in let first_down = down.1 in (down.0, omega arith)
