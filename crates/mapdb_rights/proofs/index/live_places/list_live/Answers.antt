use Rattle.std.proofs.Common.{inl, inr, sym, ◌∙◌}
use Rattle.std.proofs.lemmas.Result.{on_ok_weaker}
use Rattle.mapdb_rights.proofs.index.live_places.list_live.Goals as goal

pub returns-in-Some-clause-no_more : goal.returns-in-Some-clause-no_more
returns-in-Some-clause-no_more c =
    on_ok_weaker c.list_place.result
    (λ no_more e has. elim (no_more e has) [
      | inr before ↦ inr before
      | inl here ↦ inl (record { r = c.in-Some.mapping; at = sym c.record.ensures.held ∙ c.in-Some.is; is = here ∙ c.place_of.ensures.is })
    ]) c.list_place.ensures.no_more
