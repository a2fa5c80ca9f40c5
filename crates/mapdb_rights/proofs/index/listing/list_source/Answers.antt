use Rattle.std.proofs.Common.{◌≡◌, true, subst, ◌∙◌, inl, inr}
use Rattle.mapdb_lists.specs.Listing.{is_listed}
use Rattle.mapdb_lists.specs.declared.places.Listed.{Listed}
use Rattle.std.proofs.lemmas.Result.{on_ok_weaker}
use Rattle.mapdb_rights.proofs.index.listing.list_source.Goals as goal

pub returns-clause-there : goal.returns-clause-there
returns-clause-there c =
    on_ok_weaker c.list_place.result
    (λ there. record {
      by_parent = subst (λ (e : Listed). is_listed c.list_place.new.listed e ≡ true) c.source_of.ensures.is there;
      place = c.source_of.ensures.place;
    })
    c.list_place.ensures.there

pub returns-clause-no_more : goal.returns-clause-no_more
returns-clause-no_more c =
    on_ok_weaker c.list_place.result
    (λ no_more e has. elim (no_more e has) [
      | inl here ↦ inl (here ∙ c.source_of.ensures.is)
      | inr before ↦ inr before
    ])
    c.list_place.ensures.no_more
