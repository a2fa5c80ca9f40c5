-- Whether two records are one.
use Rattle.std.proofs.Common.{◌≡◌, true, refl, sym, ◌∙◌, subst, inl, inr}
use Rattle.std.specs.Prelude.{◌≢◌, ◌⊎◌}
use Rattle.std.specs.Prelude.{nat_eq}
use Rattle.std.proofs.lemmas.Bool.{and_from, cases_Bool, eq-eqb, true≢false}
use Rattle.mapdb_fpage.specs.RightBits.{same_rights_itself}
use Rattle.mapdb_facts.specs.declared.operations.Record.{Record}
use Rattle.mapdb_fpage.specs.Place.{same_place}
use Rattle.mapdb_fpage.specs.SamePlaces.{same_place_itself}
use Rattle.mapdb_facts.specs.Adding.{same_record}
use Rattle.mapdb_facts.specs.Exact.{exact_record}
use Rattle.mapdb_facts.specs.Names.{same_id, same_space}
use Rattle.mapdb_facts.proofs.Lists.SameNames.{same_id_itself, same_space_itself}

-- a record compares equal to itself
pub same_record_itself : (a : Record) → same_record a a ≡ true
same_record_itself a =
    and_from (same_id a.id a.id) _ (same_id_itself a.id)
    (and_from (same_space a.space a.space) _ (same_space_itself a.space)
    (and_from (same_place a.place a.place) _ (same_place_itself a.place)
    (and_from (same_id a.parent a.parent) _ (same_id_itself a.parent)
    (and_from (nat_eq a.source a.source) _ (eq-eqb _ _ refl) (same_rights_itself a.rights)))))

-- two records are one or not
pub same_or_other : (r s : Record) → (r ≡ s) ⊎ (r ≢ s)
same_or_other r s = elim (cases_Bool (same_record r s)) [
  | inl same ↦ inl (exact_record r s same)
  | inr other ↦ inr (λ e. true≢false (sym (subst (λ (x : Record). same_record r x ≡ true) e (same_record_itself r)) ∙ other))
]
