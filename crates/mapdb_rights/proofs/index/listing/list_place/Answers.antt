use Rattle.std.proofs.Common.{Bool, sym, ap, subst, ◌∙◌, inl, inr}
use Rattle.std.specs.Prelude.{◌||◌}
use Rattle.std.specs.BTreeMap.{is_at}
use Rattle.std.proofs.lemmas.Bool.{cases_Bool, or_right}
use Rattle.mapdb_lists.specs.declared.places.Listed.{Listed}
use Rattle.mapdb_lists.specs.Listing.{IsAligned, is_listed, listed_cmp}
use Rattle.mapdb_lists.proofs.Lists.ListedOrder.{exact_listed, listed_itself}
use Rattle.mapdb_rights.proofs.index.listing.list_place.Goals as goal

pub returns-clause-aligned : goal.returns-clause-aligned
returns-clause-aligned c e has =
    elim (cases_Bool (is_at (listed_cmp c.args.place) e)) [
      | inl same ↦ subst (λ (k : Listed). IsAligned k) (exact_listed c.args.place e same) c.requires.place
      | inr other ↦ c.requires.aligned e (sym (c.in_ok-insert.ensures e ∙ ap (λ (b : Bool). b || is_listed c.args.listed.now e) other) ∙ has)
    ]

pub returns-clause-there : goal.returns-clause-there
returns-clause-there c =
    c.in_ok-insert.ensures c.args.place ∙ ap (λ (b : Bool). b || is_listed c.args.listed.now c.args.place) (listed_itself c.args.place)

pub returns-clause-kept : goal.returns-clause-kept
returns-clause-kept c e has = c.in_ok-insert.ensures e ∙ or_right (is_at (listed_cmp c.args.place) e) (is_listed c.args.listed.now e) has

pub returns-clause-no_more : goal.returns-clause-no_more
returns-clause-no_more c e has =
    elim (cases_Bool (is_at (listed_cmp c.args.place) e)) [
      | inl same ↦ inl (sym (exact_listed c.args.place e same))
      | inr other ↦ inr (sym (c.in_ok-insert.ensures e ∙ ap (λ (b : Bool). b || is_listed c.args.listed.now e) other) ∙ has)
    ]
