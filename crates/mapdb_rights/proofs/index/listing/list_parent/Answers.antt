use Rattle.std.proofs.Common.{◌≡◌, true, ap, sym, subst, ◌∙◌, inl, inr}
use Rattle.mapdb_facts.specs.Facts.{state_of_facts}
use Rattle.mapdb_facts.specs.Looking.{Holds}
use Rattle.mapdb_facts.specs.State.{State}
use Rattle.mapdb_facts.specs.declared.operations.Record.{Record}
use Rattle.mapdb_facts.proofs.Lists.SameNames.{some_same}
use Rattle.mapdb_lists.specs.Listing.{is_listed}
use Rattle.mapdb_lists.specs.declared.places.Listed.{Listed}
use Rattle.std.proofs.lemmas.Result.{on_ok_weaker}
use Rattle.mapdb_rights.specs.HeldPlaces.{place_of}
use Rattle.mapdb_rights.proofs.index.listing.list_parent.Goals as goal

pub returns-in-Some-clause-there : goal.returns-in-Some-clause-there
returns-in-Some-clause-there c =
    on_ok_weaker c.list_place.result
    (λ there p at revoked.
    subst (λ (s : Record). is_listed c.list_place.new.listed (place_of s) ≡ true)
    (some_same c.in-Some.mapping p (sym c.in-Some.is ∙ c.record.ensures.held ∙ at))
    (subst (λ (e : Listed). is_listed c.list_place.new.listed e ≡ true)
    c.place_of.ensures.is there))
    c.list_place.ensures.there

pub returns-in-Some-clause-held : goal.returns-in-Some-clause-held
returns-in-Some-clause-held c =
    let S : State = state_of_facts c.args.facts.now in
    let own : Holds S c.in-Some.mapping = ap S.record_at c.in-Some.ensures.named ∙ sym c.record.ensures.held ∙ c.in-Some.is in
    on_ok_weaker c.list_place.result
    (λ no_more e has. elim (no_more e has) [
      | inl here ↦ record { r = c.in-Some.mapping; held = own; is = inl (here ∙ c.place_of.ensures.is) }
      | inr stood ↦ c.requires.held e stood
    ])
    c.list_place.ensures.no_more
