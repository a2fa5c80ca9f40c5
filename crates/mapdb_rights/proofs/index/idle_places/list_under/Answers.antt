use Rattle.std.proofs.Common.{◌≡◌, ap, subst, sym, true, ◌∙◌}
use Rattle.mapdb_facts.specs.Facts.{state_of_facts}
use Rattle.mapdb_facts.specs.Looking.{Holds}
use Rattle.mapdb_facts.specs.State.{State}
use Rattle.mapdb_facts.specs.declared.operations.Record.{Record}
use Rattle.mapdb_facts.proofs.Lists.SameNames.{some_same}
use Rattle.std.proofs.lemmas.Result.{on_ok_weaker}
use Rattle.mapdb_lists.proofs.Lists.Results.{on_both}
use Rattle.std.specs.Prelude.{◌⊎◌}
use Rattle.mapdb_lists.specs.Listing.{AllAligned, is_listed}
use Rattle.mapdb_lists.specs.declared.places.Listed.{Listed}
use Rattle.mapdb_lists.specs.declared.places.Places.{Places}
use Rattle.mapdb_rights.specs.HeldPlaces.{place_of}
use Rattle.mapdb_rights.proofs.Places.Unlisted.{listed_with_place}
use Rattle.mapdb_rights.proofs.index.idle_places.list_under.Goals as goal

-- what was listed still is, and one entry more
abbrev Adds : Places → Places → Listed → Type 0
Adds old new place = ((e : Listed) → is_listed old e ≡ true → is_listed new e ≡ true) × ((e : Listed) → is_listed new e ≡ true → (e ≡ place) ⊎ (is_listed old e ≡ true))

pub returns-in-Some-clause-listed : goal.returns-in-Some-clause-listed
returns-in-Some-clause-listed c =
    let S : State = state_of_facts c.args.facts.now in
    let m = c.in-Some.mapping in
    let own : Holds S m = ap S.record_at c.in-Some.ensures.named ∙ sym c.record.ensures.held ∙ c.in-Some.is in
    let done = c.list_place.ensures in
    on_both c.list_place.result
    (λ (aligned : AllAligned c.list_place.new.listed) (more : Adds c.args.listed.now c.list_place.new.listed c.place_of.result).
    listed_with_place S c.args.listed.now c.list_place.new.listed m own aligned more.0
    (λ e has. subst (λ (p : Listed). (e ≡ p) ⊎ (is_listed c.args.listed.now e ≡ true)) c.place_of.ensures.is (more.1 e has)) c.requires)
    done.aligned (on_both c.list_place.result (λ kept no_more. (kept, no_more)) done.kept done.no_more)

pub returns-in-Some-clause-there : goal.returns-in-Some-clause-there
returns-in-Some-clause-there c =
    on_ok_weaker c.list_place.result
    (λ there r at. subst (λ (x : Record). is_listed c.list_place.new.listed (place_of x) ≡ true) (some_same c.in-Some.mapping r (sym c.in-Some.is ∙ c.record.ensures.held ∙ at))
    (subst (λ (e : Listed). is_listed c.list_place.new.listed e ≡ true) c.place_of.ensures.is there))
    c.list_place.ensures.there
